-- Two lists of one length, side by side, that are searched for the first pair that breaks a rule: what the search gives is the answer of the rules at their places. Assumes nothing.
use Rattle.std.proofs.Common.{◌≡◌, ℕ, ◌<◌, ◌≤◌, Bool, true, false, List, [], ◌∷◌, map, length, get_or, Option, Some, None, Ok, Err, Bor, sym, refl, ap, ◌∙◌, subst, arith}
use Rattle.std.specs.List.{AllWithin, HoldsAt, zip}
use Rattle.std.specs.Option.{MatchOption}
use Rattle.std.proofs.lemmas.List.{get_or-map}
use Rattle.std.proofs.lemmas.Slice.Zip.{get_or-zip, length-zip}
use Rattle.record.specs.Rules.{over, rule, verdict}
use Rattle.record.proofs.Ranges.{first_broken, none_broken}

-- what the search gave: the first pair that breaks its rule, or none
abbrev pub FoundBeside : {A B : Type 0} → (A → B → Bool) → List A → List B → Option (Bor A × Bor B) → Type 0
FoundBeside {A} {B} ok ps cs r =
    MatchOption r (AllWithin (λ y. ok y.0 y.1 ≡ true) (zip ps cs) 0 (length (zip ps cs)))
    (λ x. (ok x.0.now x.1.now ≡ false) × (i : ℕ) × (i < length (zip ps cs)) × HoldsAt (λ y. y ≡ (x.0.now, x.1.now)) (zip ps cs) i × AllWithin (λ y. ok y.0 y.1 ≡ true) (zip ps cs) 0 i)

-- the items of the second list are seen in some way, and place k has its rule and its fault
module _ {A B C F X : Type 0} (seen : B → C) (ok : A → C → Bool) (fault : A → C → F) (d : A) (e : C) (x : X) where
  at_place : (P : A → C → Type 0) (ps : List A) (cs : List B) (k : ℕ) → k < length ps → k < length cs → HoldsAt (λ y. P y.0 (seen y.1)) (zip ps cs) k → P (get_or ps k d) (get_or (map seen cs) k e)
  at_place P ps [] k listed within h = absurd (omega arith)
  at_place P ps (c ∷ cs) k listed within h = rw (get_or-map seen (c ∷ cs) k c e within) (subst (λ y. P y.0 (seen y.1)) (get_or-zip ps (c ∷ cs) k (d, c) listed within) (h (d, c)))

  module _ (ps : List A) (cs : List B) (n : ℕ) (listed : length ps ≡ n) (as_many : length cs ≡ n) where
    abbrev right : ℕ → Bool
    right k = ok (get_or ps k d) (get_or (map seen cs) k e)

    abbrev wrong : ℕ → F
    wrong k = fault (get_or ps k d) (get_or (map seen cs) k e)

    pairs : length (zip ps cs) ≡ n
    pairs = let long = length-zip ps cs in omega arith

    before : (i : ℕ) → i ≤ n → AllWithin (λ y. ok y.0 (seen y.1) ≡ true) (zip ps cs) 0 i → (k : ℕ) → 0 ≤ k → k < i → right k ≡ true
    before i within h k low high = at_place (λ p c. ok p c ≡ true) ps cs k (omega arith) (omega arith) (λ f. h k f low high)

    pub none_beside : (r : Option (Bor A × Bor B)) → r ≡ None → FoundBeside (λ p c. ok p (seen c)) ps cs r → Ok x ≡ verdict (over (λ k. rule (right k) (wrong k)) 0 n) x
    none_beside r is h =
        let all = subst (FoundBeside (λ p c. ok p (seen c)) ps cs) is h in
        let long = pairs in
        none_broken right wrong n x None refl (λ k low high. before (length (zip ps cs)) (omega arith) all k low (omega arith))

    pub first_beside : (r : Option (Bor A × Bor B)) (p : Bor A) (c : Bor B) → r ≡ Some (p, c) → FoundBeside (λ p c. ok p (seen c)) ps cs r → Err (fault p.now (seen c.now)) ≡ verdict (over (λ k. rule (right k) (wrong k)) 0 n) x
    first_beside r p c is h =
        let found = subst (FoundBeside (λ p c. ok p (seen c)) ps cs) is h in
        let i = found.1 in
        let long = pairs in
        let broken : right i ≡ false = at_place (λ q d. ok q d ≡ false) ps cs i (omega (arith, found.2)) (omega (arith, found.2)) (λ f. subst (λ y. ok y.0 (seen y.1) ≡ false) (sym (found.3 f)) found.0) in
        let told : fault p.now (seen c.now) ≡ wrong i = at_place (λ q d. fault p.now (seen c.now) ≡ fault q d) ps cs i (omega (arith, found.2)) (omega (arith, found.2)) (λ f. ap (λ y. fault y.0 (seen y.1)) (sym (found.3 f))) in
        ap Err told ∙ first_broken right wrong n x (Some i) i refl (omega arith, omega (arith, found.2), broken, before i (omega (arith, found.2)) found.4)
