-- What the searches over rows find: a tag's row, and the first row that breaks a rule. Assumes nothing.
use Rattle.std.proofs.Common.{◌≡◌, ℕ, ◌<◌, ◌≤◌, Bool, true, false, cond, eqb, List, [], ◌∷◌, map, length, get_or, Option, Some, None, refl, ap, ◌∙◌, Bor, arith}
use lib.ListN.{length-map}
use Rattle.std.specs.List as list
use Rattle.std.specs.List.{AllWithin, HoldsAt}
use Rattle.std.specs.Option.{MatchOption, option_map}
use Rattle.std.proofs.lemmas.List.{get_or-map}
use Rattle.record.proofs.Ranges.{IsFirstBroken}
use Rattle.rows.specs.declared.rows.Row.{Row}
use Rattle.rows.specs.Rows.{PlainRow, row_of, seen_row}

-- a row that was found, as it is seen, is the first of the rows as they are seen
pub row_seen : (rows : List Row) (g : ℕ) (r : Option (Bor Row)) → option_map (λ x. x.now) r ≡ list.find (λ x. eqb x.tag g) rows → option_map (λ x. seen_row x.now) r ≡ row_of (map seen_row rows) g
row_seen rows g r e = twice r ∙ ap (option_map seen_row) e ∙ first rows
  where
    twice : (r : Option (Bor Row)) → option_map (λ x. seen_row x.now) r ≡ option_map seen_row (option_map (λ x. x.now) r)
    twice None = refl
    twice (Some x) = refl

    here : (b : Bool) (x : Row) (p : Option Row) (q : Option PlainRow) → option_map seen_row p ≡ q → option_map seen_row (cond b (Some x) p) ≡ cond b (Some (seen_row x)) q
    here true x p q e = refl
    here false x p q e = e

    first : (rows : List Row) → option_map seen_row (list.find (λ x. eqb x.tag g) rows) ≡ row_of (map seen_row rows) g
    first [] = refl
    first (x ∷ xs) = here (eqb x.tag g) x _ _ (first xs)

-- what a search by place gave of the items that are right
abbrev pub FindsFirst : {A : Type 0} → (A → Bool) → List A → Option ℕ → Type 0
FindsFirst {A} ok xs r =
    MatchOption r (AllWithin (λ x. ok x ≡ true) xs 0 (length xs))
    (λ i. (i < length xs) × HoldsAt (λ x. ok x ≡ false) xs i × AllWithin (λ x. ok x ≡ true) xs 0 i)

-- the same, of the items as they are seen
module _ {A B : Type 0} (seen : A → B) (ok : B → Bool) (xs : List A) (d : B) where
  at : (b : Bool) (ys : List A) (k : ℕ) → k < length ys → HoldsAt (λ x. ok (seen x) ≡ b) ys k → ok (get_or (map seen ys) k d) ≡ b
  at b [] k within h = absurd (omega arith)
  at b (y ∷ ys) k within h = ap ok (get_or-map seen (y ∷ ys) k y d within) ∙ h y

  before : (i : ℕ) → i ≤ length xs → AllWithin (λ x. ok (seen x) ≡ true) xs 0 i → (k : ℕ) → 0 ≤ k → k < i → ok (get_or (map seen xs) k d) ≡ true
  before i within h k low high = at true xs k (omega arith) (λ e. h k e low high)

  pub found_seen : (r : Option ℕ) → FindsFirst (λ x. ok (seen x)) xs r → IsFirstBroken (λ k. ok (get_or (map seen xs) k d)) (length (map seen xs)) r
  found_seen None h = λ k low high. before (length xs) (omega arith) h k low (rw length-map at high)
  found_seen (Some i) h = (omega arith, rw length-map h.0, at false xs i h.0 h.1, before i (omega (arith, h.0)) h.2)
