-- What stands in a list of faults, and that the first of a rising list goes before all others. Assumes nothing.
use Rattle.std.proofs.Common.{◌≡◌, ℕ, zero, suc, ◌+◌, ◌-◌, ◌<◌, Bool, true, false, ◌⊎◌, List, [], ◌∷◌, ◌++◌, sym, refl, subst, inl, inr, ⊎_elim, add-zero, zero-add, arith}
use Rattle.record.specs.Rules.{rule, from, over}

module _ {F : Type 0} where
  -- f stands in the list
  abbrev pub In : F → List F → Type 0
  In f [] = ⊥
  In f (g ∷ gs) = (f ≡ g) ⊎ In f gs

  pub in_left : (f : F) (xs ys : List F) → In f xs → In f (xs ++ ys)
  in_left f [] ys h = absurd h
  in_left f (x ∷ xs) ys h = ⊎_elim (λ e. inl e) (λ m. inr (in_left f xs ys m)) h

  pub in_right : (f : F) (xs ys : List F) → In f ys → In f (xs ++ ys)
  in_right f [] ys h = h
  in_right f (x ∷ xs) ys h = inr (in_right f xs ys h)

  pub in-append : (f : F) (xs ys : List F) → In f (xs ++ ys) → In f xs ⊎ In f ys
  in-append f [] ys h = inr h
  in-append f (x ∷ xs) ys h = ⊎_elim (λ e. inl (inl e)) (λ m. ⊎_elim (λ n. inl (inr n)) (λ n. inr n) (in-append f xs ys m)) h

  -- a rule's fault stands where the rule is broken
  pub in_rule : (b : Bool) (f : F) → b ≡ false → In f (rule b f)
  in_rule true f e = cc
  in_rule false f e = inl refl

  pub rule_in : (b : Bool) (f g : F) → In g (rule b f) → (g ≡ f) × (b ≡ false)
  rule_in true f g h = absurd h
  rule_in false f g h = (⊎_elim (λ e. e) (λ m. absurd m) h, refl)

  -- a fault at a place of a range stands in the range's list, and comes from a place
  in_from : (G : ℕ → List F) (p n : ℕ) (f : F) (k : ℕ) → k < n → In f (G (p + k)) → In f (from G p n)
  unfolding from
  in_from G p zero f k l h = absurd (omega arith)
  in_from G p (suc n) f zero l h = in_left f (G p) (from G (suc p) n) (rw add-zero at h)
  in_from G p (suc n) f (suc k) l h =
      let e : p + suc k ≡ suc p + k = omega arith in
      in_right f (G p) (from G (suc p) n) (in_from G (suc p) n f k (omega arith) (rw e at h))

  from_in : (G : ℕ → List F) (p n : ℕ) (f : F) → In f (from G p n) → (k : ℕ) × (k < n) × In f (G (p + k))
  unfolding from
  from_in G p zero f h = absurd h
  from_in G p (suc n) f h =
      ⊎_elim
      (λ m. (0, omega arith, rw add-zero m))
      (λ m.
      let q = from_in G (suc p) n f m in
      let e : p + suc q.0 ≡ suc p + q.0 = omega arith in
      (suc q.0, omega (arith, q.1), rw e q.2))
      (in-append f (G p) (from G (suc p) n) h)

  pub in_over : (G : ℕ → List F) (n : ℕ) (f : F) (k : ℕ) → k < n → In f (G k) → In f (over G 0 n)
  in_over G n f k l h = in_from G 0 (n - 0) f k (omega arith) (rw zero-add h)

  pub over_in : (G : ℕ → List F) (n : ℕ) (f : F) → In f (over G 0 n) → (k : ℕ) × (k < n) × In f (G k)
  over_in G n f h = let q = from_in G 0 (n - 0) f h in (q.0, omega (arith, q.1), rw zero-add at q.2)

-- a range of rules has the faults of those that are broken
module _ {F : Type 0} (ok : ℕ → Bool) (fault : ℕ → F) (n : ℕ) where
  pub in_rules : (k : ℕ) → k < n → ok k ≡ false → In (fault k) (over (λ p. rule (ok p) (fault p)) 0 n)
  in_rules k l e = in_over (λ p. rule (ok p) (fault p)) n (fault k) k l (in_rule (ok k) (fault k) e)

  pub rules_in : (f : F) → In f (over (λ p. rule (ok p) (fault p)) 0 n) → (k : ℕ) × (k < n) × (f ≡ fault k) × (ok k ≡ false)
  rules_in f h =
      let q = over_in (λ p. rule (ok p) (fault p)) n f h in
      let r = rule_in (ok q.0) (fault q.0) f q.2 in
      (q.0, q.1, r.0, r.1)

module _ {F : Type 0} (R : F → F → Type 0) where
  -- two elements by what they are
  pub alike : (x y f g : F) → x ≡ f → y ≡ g → R f g → R x y
  alike x y f g p q h = subst (λ u. R u y) (sym p) (subst (R f) (sym q) h)

  -- each goes before those that follow it
  abbrev pub Rising : List F → Type 0
  Rising [] = Unit {0}
  Rising (f ∷ fs) = ((g : F) → In g fs → R f g) × Rising fs

  pub rising-append : (xs ys : List F) → Rising xs → Rising ys → ((x y : F) → In x xs → In y ys → R x y) → Rising (xs ++ ys)
  rising-append [] ys up vp apart = vp
  rising-append (x ∷ xs) ys up vp apart = (λ g h. ⊎_elim (up.0 g) (apart x g (inl refl)) (in-append g xs ys h), rising-append xs ys up.1 vp (λ a b m n. apart a b (inr m) n))

  pub rising_rule : (b : Bool) (f : F) → Rising (rule b f)
  rising_rule true f = tt
  rising_rule false f = (λ g h. absurd h, tt)

  module _ (G : ℕ → List F) (each : (p : ℕ) → Rising (G p)) (apart : (a b : ℕ) (x y : F) → a < b → In x (G a) → In y (G b) → R x y) where
    rising_from : (p n : ℕ) → Rising (from G p n)
    unfolding from
    rising_from p zero = tt
    rising_from p (suc n) =
        rising-append (G p) (from G (suc p) n) (each p) (rising_from (suc p) n) (λ x y h k.
        let q = from_in G (suc p) n y k in
        apart p (suc p + q.0) x y (omega arith) h q.2)

    pub rising_over : (n : ℕ) → Rising (over G 0 n)
    rising_over n = rising_from 0 (n - 0)

  -- rules whose faults rise
  pub rising_rules : (ok : ℕ → Bool) (fault : ℕ → F) (n : ℕ) → ((a b : ℕ) → a < b → R (fault a) (fault b)) → Rising (over (λ p. rule (ok p) (fault p)) 0 n)
  rising_rules ok fault n up =
      rising_over (λ p. rule (ok p) (fault p)) (λ p. rising_rule (ok p) (fault p)) (λ a b x y l h k.
      alike x y (fault a) (fault b) (rule_in (ok a) (fault a) x h).0 (rule_in (ok b) (fault b) y k).0 (up a b l)) n

  -- nothing in a rising list goes before its first
  pub least : ((a b : F) → R a b → R b a → ⊥) → (f : F) (fs : List F) → Rising (f ∷ fs) → (g : F) → R g f → In g (f ∷ fs) → ⊥
  least asym f fs up g h = ⊎_elim (λ e. asym g f h (subst (λ u. R f u) (sym e) (subst (λ u. R u f) e h))) (λ m. asym f g (up.0 g m) h)
