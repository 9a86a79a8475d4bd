-- How a loop over a range finds the first fault of a list of rules, what a range without faults says, and when two ranges have the same first fault. Assumes nothing.
use Rattle.std.proofs.Common.{◌≡◌, ℕ, zero, suc, ◌+◌, ◌-◌, ◌<◌, ◌≤◌, Bool, true, false, List, [], ◌∷◌, ◌++◌, Option, Some, None, Ok, Err, sym, refl, ap, ◌∙◌, subst, add-zero, zero-add, add-one, arith}
use Rattle.std.specs.Option.{MatchOption}
use Rattle.record.specs.Rules.{rule, from, over, verdict}
use Rattle.record.proofs.Verdicts.{alike, first, parts, skip, unbroken}

module _ {F : Type 0} (G : ℕ → List F) (a b : ℕ) where
  pub next : a < b → over G a b ≡ G a ++ over G (a + 1) b
  unfolding from
  next h =
      let e : b - a ≡ suc (b - (a + 1)) = omega arith in
      rw (e, add-one)

  -- no fault at a: go on after it
  pub passed : a < b → G a ≡ [] → over G a b ≡ over G (a + 1) b
  passed h e = next h ∙ ap (λ l. l ++ over G (a + 1) b) e

  pub ended : b ≤ a → over G a b ≡ []
  unfolding from
  ended h = let e : b - a ≡ 0 = omega arith in rw e

  -- a fault at a: it is the first
  pub stopped : {X : Type 0} (f : F) (x : X) → a < b → G a ≡ f ∷ [] → verdict (over G a b) x ≡ Err f
  stopped f x h e = ap (λ l. verdict l x) (next h ∙ ap (λ l. l ++ over G (a + 1) b) e)

  -- a check of the faults at a: its fault is the first
  pub found : {X Y : Type 0} → a < b → (x : X) (y : Y) (f : F) → Err f ≡ verdict (G a) x → Err f ≡ verdict (over G a b) y
  found h x y f e = first (G a) (over G (a + 1) b) x y f e ∙ ap (λ l. verdict l y) (sym (next h))

module _ {F : Type 0} (ok : ℕ → Bool) (fault : ℕ → F) (a b : ℕ) (within : a < b) where
  -- the rule at a holds, or is the first that is broken
  pub kept : true ≡ ok a → over (λ p. rule (ok p) (fault p)) a b ≡ over (λ p. rule (ok p) (fault p)) (a + 1) b
  kept e = passed (λ p. rule (ok p) (fault p)) a b within (ap (λ t. rule t (fault a)) (sym e))

  pub broken : {X : Type 0} (x : X) → false ≡ ok a → verdict (over (λ p. rule (ok p) (fault p)) a b) x ≡ Err (fault a)
  broken x e = stopped (λ p. rule (ok p) (fault p)) a b (fault a) x within (ap (λ t. rule t (fault a)) (sym e))

-- where a range has no fault, no place of it has one
each : {F : Type 0} (G : ℕ → List F) (p n : ℕ) → from G p n ≡ [] → (k : ℕ) → k < n → G (p + k) ≡ []
unfolding from
each G p zero e k h = absurd (omega arith)
each G p (suc n) e zero h = rw add-zero (parts (G p) (from G (suc p) n) e).0
each G p (suc n) e (suc k) h =
    let q : p + suc k ≡ suc p + k = omega arith in
    rw q (each G (suc p) n (parts (G p) (from G (suc p) n) e).1 k (omega arith))

pub every : {F : Type 0} (G : ℕ → List F) (n : ℕ) → over G 0 n ≡ [] → (k : ℕ) → k < n → G k ≡ []
every G n e k h = subst (λ m. G m ≡ []) (zero-add k) (each G 0 (n - 0) e k (omega arith))

-- where no place of a range has a fault, the range has none
clear_from : {F : Type 0} (G : ℕ → List F) (p n : ℕ) → ((k : ℕ) → k < n → G (p + k) ≡ []) → from G p n ≡ []
unfolding from
clear_from G p zero h = refl
clear_from G p (suc n) h =
    skip _ (rw add-zero at (h 0 (omega arith)))
    ∙ clear_from G (suc p) n (λ k l. let q : p + suc k ≡ suc p + k = omega arith in rw q at (h (suc k) (omega arith)))

pub clear : {F : Type 0} (G : ℕ → List F) (n : ℕ) → ((k : ℕ) → k < n → G k ≡ []) → over G 0 n ≡ []
clear G n h = clear_from G 0 (n - 0) (λ k l. rw zero-add (h k (omega arith)))

-- two ranges that agree up to the first fault
agree_from : {F X : Type 0} (G H : ℕ → List F) (x : X) (p n : ℕ) → ((k : ℕ) → k < n → ((j : ℕ) → j < k → H (p + j) ≡ []) → G (p + k) ≡ H (p + k)) → verdict (from G p n) x ≡ verdict (from H p n) x
unfolding from
agree_from G H x p zero h = refl
agree_from G H x p (suc n) h =
    let here : G p ≡ H p = rw add-zero at (h 0 (omega arith) (λ j l. absurd (omega arith))) in
    alike (G p) (H p) (from G (suc p) n) (from H (suc p) n) x (ap (λ l. verdict l x) here) (λ none.
    agree_from G H x (suc p) n (λ k l before.
    let q : p + suc k ≡ suc p + k = omega arith in
    rw q at (h (suc k) (omega arith) (elim [
      | zero ↦ λ _. rw add-zero none
      | suc j ↦ λ m. let r : p + suc j ≡ suc p + j = omega arith in rw r (before j (omega arith))
    ]))))

pub agree : {F X : Type 0} (G H : ℕ → List F) (x : X) (n : ℕ) → ((k : ℕ) → k < n → ((j : ℕ) → j < k → H j ≡ []) → G k ≡ H k) → verdict (over G 0 n) x ≡ verdict (over H 0 n) x
agree G H x n h =
    agree_from G H x 0 (n - 0) (λ k l before.
    rw zero-add (h k (omega arith) (λ j m. rw zero-add at (before j m))))

-- the rule at p is the first of a range that is broken
first_from : {F X : Type 0} (G : ℕ → List F) (f : F) (x : X) (a n p : ℕ) → p < n → G (a + p) ≡ f ∷ [] → ((k : ℕ) → k < p → G (a + k) ≡ []) → Err f ≡ verdict (from G a n) x
unfolding from
first_from G f x a zero p h here before = absurd (omega arith)
first_from G f x a (suc n) zero h here before = let e : G a ≡ f ∷ [] = rw add-zero at here in ap (λ l. verdict (l ++ from G (suc a) n) x) (sym e)
first_from G f x a (suc n) (suc p) h here before =
    let q : a + suc p ≡ suc a + p = omega arith in
    first_from G f x (suc a) n p (omega arith) (rw q at here) (λ k l. let r : a + suc k ≡ suc a + k = omega arith in rw r at (before (suc k) (omega arith)))
    ∙ ap (λ l. verdict l x) (sym (skip _ (rw add-zero at (before 0 (omega arith)))))

-- what a search from 0 up to n gave: the first place whose rule is broken, or none
abbrev pub IsFirstBroken : (ℕ → Bool) → ℕ → Option ℕ → Type 0
IsFirstBroken ok n r =
    MatchOption r ((k : ℕ) → 0 ≤ k → k < n → ok k ≡ true)
    (λ p. (0 ≤ p) × (p < n) × (ok p ≡ false) × ((k : ℕ) → 0 ≤ k → k < p → ok k ≡ true))

-- its answer is the answer of the range
module _ {F X : Type 0} (ok : ℕ → Bool) (fault : ℕ → F) (n : ℕ) (x : X) where
  pub none_broken : (r : Option ℕ) → r ≡ None → IsFirstBroken ok n r → Ok x ≡ verdict (over (λ p. rule (ok p) (fault p)) 0 n) x
  none_broken r e h =
      let all : (k : ℕ) → 0 ≤ k → k < n → ok k ≡ true = subst (IsFirstBroken ok n) e h in
      ap (λ l. verdict l x) (sym (clear (λ p. rule (ok p) (fault p)) n (λ k l. unbroken (ok k) (fault k) (all k (omega arith) l))))

  pub first_broken : (r : Option ℕ) (p : ℕ) → r ≡ Some p → IsFirstBroken ok n r → Err (fault p) ≡ verdict (over (λ q. rule (ok q) (fault q)) 0 n) x
  first_broken r p e h =
      let found : (0 ≤ p) × (p < n) × (ok p ≡ false) × ((k : ℕ) → 0 ≤ k → k < p → ok k ≡ true) = subst (IsFirstBroken ok n) e h in
      first_from (λ q. rule (ok q) (fault q)) (fault p) x 0 (n - 0) p (omega (arith, found.1))
      (rw zero-add (ap (λ t. rule t (fault p)) found.2))
      (λ k l. rw zero-add (unbroken (ok k) (fault k) (found.3 k (omega arith) l)))
