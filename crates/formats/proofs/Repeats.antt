-- What came before in a loop, kept as a table of marks. Assumes nothing.
use Rattle.std.proofs.Common.{◌≡◌, ℕ, Bool, true, List, []}
use Rattle.rows.specs.declared.occurs.Occurs.{Occurs}
use Rattle.rows.specs.Sets.{has}
use Rattle.rows.specs.Table.{only_once}
use Rattle.formats.specs.declared.faults.FormatFault.{FormatFault}
use Rattle.formats.specs.Faults.{repeated}
use Rattle.formats.specs.Marks.{is_marked}

-- of the numbers allowed once, those that came before are marked
pub record Marked (occurs : ℕ → Occurs) (table : List Bool) (before : List ℕ) : Type 0 where
  pub at : (n : ℕ) → only_once (occurs n) ≡ true → is_marked table n ≡ has before n

-- the faults in the whole list are those in what is left, after what came before
pub record Repeating {A : Type 0} (occurs : ℕ → Occurs) (number : A → ℕ) (fault : A → FormatFault) (whole : List A) (table : List Bool) (rest : List A) : Type 0 where
  pub before : List ℕ
  pub left : repeated occurs number fault [] whole ≡ repeated occurs number fault before rest
  pub seen : Marked occurs table before
