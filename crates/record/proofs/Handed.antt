-- A cursor that hands out the first of what is left hands out all of it, in order, and then no more. Assumes nothing.
use Rattle.std.proofs.Common.{◌≡◌, List, [], ◌∷◌, map, sym, ap, ◌∙◌}
use Rattle.std.specs.Iterator.{AlwaysYields, YieldsFirstBy}

module _ {S A B C : Type 0} (left : S → List B) (seen : A → B) (g : B → C) where
  -- as g sees it
  pub all_handed : (s : S) (zs : List C) → map g (left s) ≡ zs → AlwaysYields (YieldsFirstBy seen left) (λ x. g (seen x)) s zs
  all_handed s [] e = λ x j h. let some : g (seen x) ∷ map g (left j) ≡ [] = sym (ap (map g) h) ∙ e in cc
  all_handed s (z ∷ zs) e = (
    λ j h. let none : [] ≡ z ∷ zs = sym (ap (map g) h.0) ∙ e in cc,
    λ x j h.
        let both : g (seen x) ∷ map g (left j) ≡ z ∷ zs = sym (ap (map g) h) ∙ e in
        let first : g (seen x) ≡ z = cc in
        let rest : map g (left j) ≡ zs = cc in
        (first, all_handed j zs rest),
  )
