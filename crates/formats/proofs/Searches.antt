-- A search of a list for the first item that breaks a rule gives the answer of the rules. Assumes nothing.
use Rattle.std.proofs.Common.{◌≡◌, Bool, true, false, not, cond, List, [], ◌∷◌, ◌++◌, Option, Some, None, Ok, Err, Result, sym, refl, ap, ◌∙◌, option_map}
use Rattle.std.specs.List.{find, flat_map}
use Rattle.record.specs.Rules.{rule, verdict}

module _ {B F : Type 0} (ok : B → Bool) (fault : B → F) where
  -- what is told of the item that was found, or of none
  abbrev pub told : Option B → Result (Unit {0}) F
  told None = Ok tt
  told (Some y) = Err (fault y)

  turn : (b : Bool) (y : B) (rest : List F) (r : Option B) → verdict rest tt ≡ told r → verdict (rule b (fault y) ++ rest) tt ≡ told (cond (not b) (Some y) r)
  turn true y rest r e = e
  turn false y rest r e = refl

  searched : (ys : List B) → verdict (flat_map (λ y. rule (ok y) (fault y)) ys) tt ≡ told (find (λ y. not (ok y)) ys)
  searched [] = refl
  searched (y ∷ ys) = turn (ok y) y _ _ (searched ys)

  -- the items are seen in some way
  pub found : {A : Type 0} (seen : A → B) (ys : List B) (r q : Option A) → r ≡ q → option_map seen r ≡ find (λ y. not (ok y)) ys → told (option_map seen q) ≡ verdict (flat_map (λ y. rule (ok y) (fault y)) ys) tt
  found seen ys r q is e = ap (λ o. told (option_map seen o)) (sym is) ∙ ap told e ∙ sym (searched ys)
