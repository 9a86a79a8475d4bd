-- Which rules of the frame a record breaks, and which of them comes first. Assumes nothing.
use Rattle.std.specs.Prelude.{◌≡◌, ℕ, ◌+◌, ◌-◌, ◌<◌, false, ◌⊎◌, List, length}
use Rattle.record.specs.declared.faults.FrameFault.{FrameFault}
use Rattle.record.specs.declared.faults.FrameFault.TheVariants.{Length, Leader, Entry, DirectoryEnd, Field, RecordEnd}
use Rattle.record.specs.Contents.{byte_rule, field_bytes, field_place}
use Rattle.record.specs.Directory.{directory_end_rule, entry_place, entry_rule, entry_tag}
use Rattle.record.specs.Frame.{end_rule, size_rule}
use Rattle.record.specs.Leader.{entry_count, leader_rule}
use Rattle.record.specs.Values.{values_of}

-- the record breaks the rule that the fault names, at the fault's place
abbrev pub Breaks : List ℕ → FrameFault → Type 0
Breaks bs Length = size_rule bs ≡ false
Breaks bs (Leader p) = (p < 24) × (leader_rule bs p ≡ false)
Breaks bs (Entry p) = (k : ℕ) × (k < entry_count bs) × (p ≡ entry_place k) × (entry_rule bs k ≡ false)
Breaks bs (DirectoryEnd p) = (p ≡ entry_place (entry_count bs)) × (directory_end_rule bs ≡ false)
Breaks bs (Field p) =
    (k : ℕ) × (i : ℕ) × (k < entry_count bs) × (i < length (field_bytes bs k)) × (p ≡ field_place bs k + i)
    × (byte_rule (entry_tag bs k) (field_bytes bs k) i ≡ false)
Breaks bs (RecordEnd p) = (p ≡ length bs - 1) × (end_rule bs ≡ false)

-- a smaller number goes before a larger, then the smaller place
abbrev pub Before : FrameFault → FrameFault → Type 0
Before f g =
    ((values_of f).number < (values_of g).number)
    ⊎ (((values_of f).number ≡ (values_of g).number) × ((values_of f).place < (values_of g).place))

-- a rule that the record breaks, where it breaks none that goes before
pub record FirstBroken (bs : List ℕ) (f : FrameFault) : Type 0 where
  pub broken : Breaks bs f
  pub first : (g : FrameFault) → Before g f → Breaks bs g → ⊥

-- the record breaks no rule
abbrev pub NoneBroken : List ℕ → Type 0
NoneBroken bs = (f : FrameFault) → Breaks bs f → ⊥
