-- Checks one after the other, each with its own faults: what is left of all faults after those that passed. Assumes nothing.
use Rattle.std.proofs.Common.{◌≡◌, List, ◌++◌, Ok, Err, Result, sym, refl, ap, ◌∙◌}
use Rattle.record.specs.Rules.{verdict}
use Rattle.record.proofs.Verdicts.{first, none, skip}

module _ {F : Type 0} where
  -- of all faults the rest is left
  pub record Left (all rest : List F) : Type 0 where
    pub are : all ≡ rest

  pub whole : (all : List F) → Left all all
  whole all = record { are = refl }

  module _ {X : Type 0} {all : List F} (fs rest : List F) (left : Left all (fs ++ rest)) where
    -- the next check passed, or its fault is the first of all
    pub passed : (x y : X) → Ok y ≡ verdict fs x → Left all rest
    passed x y e = record { are = left.are ∙ skip rest (none fs x y e) }

    pub failed : {Y : Type 0} (x : X) (y : Y) (f : F) → Err f ≡ verdict fs x → Err f ≡ verdict all y
    failed x y f e = first fs rest x y f e ∙ ap (λ l. verdict l y) (sym left.are)

  -- the last check answers
  pub last : {X : Type 0} {all : List F} (fs : List F) → Left all fs → (r : Result X F) (x : X) → r ≡ verdict fs x → r ≡ verdict all x
  last fs left r x e = e ∙ ap (λ l. verdict l x) (sym left.are)
