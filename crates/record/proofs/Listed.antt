-- The frame's faults are the rules that the record breaks, in rising order, and so the first is the first broken. Assumes nothing.
use Rattle.std.proofs.Common.{◌≡◌, ℕ, ◌+◌, ◌-◌, ◌<◌, ◌≤◌, Bool, false, List, [], ◌∷◌, ◌++◌, length, Ok, Err, Result, sym, refl, ap, ◌∙◌, subst, inl, inr, ⊎_elim, arith, MatchResult}
use Rattle.std.proofs.lemmas.List.{length-take}
use Rattle.record.specs.declared.faults.FrameFault.{FrameFault}
use Rattle.record.specs.declared.faults.FrameFault.TheVariants.{Length, Leader, Entry, DirectoryEnd, Field, RecordEnd}
use Rattle.record.specs.declared.frame.Frame.{Frame}
use Rattle.record.specs.Broken.{Before, Breaks, FirstBroken, NoneBroken}
use Rattle.record.specs.Contents.{byte_rule, faults_of, field_bytes, field_faults, field_place, fields_faults}
use Rattle.record.specs.Directory.{directory_end_faults, directory_end_rule, directory_faults, entry_faults, entry_place, entry_rule, entry_size, entry_tag}
use Rattle.record.specs.Frame.{end_faults, end_rule, frame_faults, frame_of, size_faults, size_rule}
use Rattle.record.specs.Leader.{entry_count, leader_faults, leader_rule}
use Rattle.record.specs.Rules.{over, verdict}
use Rattle.record.specs.Values.{values_of}
use Rattle.record.proofs.Ordered.{In, Rising, alike, in-append, in_left, in_over, in_right, in_rule, in_rules, least, over_in, rising-append, rising_over, rising_rule, rising_rules, rule_in, rules_in}
use Rattle.record.proofs.Sound.{sizes_mono, sizes_next}
use Rattle.record.proofs.Verdicts.{none}

-- a broken rule with this number
abbrev Broken : List ℕ → ℕ → FrameFault → Type 0
Broken bs n f = ((values_of f).number ≡ n) × Breaks bs f

-- a broken rule with this number or a larger one
abbrev Later : List ℕ → ℕ → FrameFault → Type 0
Later bs n f = (n ≤ (values_of f).number) × Breaks bs f

broken : (bs : List ℕ) (n : ℕ) (f g : FrameFault) → f ≡ g → Broken bs n g → Broken bs n f
broken bs n f g e h = subst (Broken bs n) (sym e) h

module _ (bs : List ℕ) where
  abbrev entries : List FrameFault
  entries = over (entry_faults bs) 0 (entry_count bs)

  -- what is left of the list, number by number
  abbrev from_21 : List FrameFault
  from_21 = fields_faults bs ++ end_faults bs

  abbrev from_20 : List FrameFault
  from_20 = directory_faults bs ++ from_21

  abbrev from_19 : List FrameFault
  from_19 = leader_faults bs ++ from_20

  -- the faults of a range of rules, by place
  abbrev at_entry : ℕ → FrameFault
  at_entry k = Entry (entry_place k)

  abbrev at_byte : ℕ → ℕ → FrameFault
  at_byte k i = Field (field_place bs k + i)

  abbrev byte_holds : ℕ → ℕ → Bool
  byte_holds k i = byte_rule (entry_tag bs k) (field_bytes bs k) i

  -- ---- what stands in the list is broken

  size_broken : (f : FrameFault) → In f (size_faults bs) → Broken bs 18 f
  size_broken f h = let q = rule_in (size_rule bs) Length f h in broken bs 18 f Length q.0 (refl, q.1)

  leader_broken : (f : FrameFault) → In f (leader_faults bs) → Broken bs 19 f
  unfolding leader_faults
  leader_broken f h = let q = rules_in (leader_rule bs) (λ p. Leader p) 24 f h in broken bs 19 f (Leader q.0) q.2 (refl, (q.1, q.3))

  entry_broken : (f : FrameFault) → In f entries → Broken bs 20 f
  entry_broken f h =
      let q = rules_in (entry_rule bs) at_entry (entry_count bs) f h in
      broken bs 20 f (at_entry q.0) q.2 (refl, (q.0, q.1, refl, q.3))

  directory_end_broken : (f : FrameFault) → In f (directory_end_faults bs) → Broken bs 20 f
  directory_end_broken f h =
      let e = DirectoryEnd (entry_place (entry_count bs)) in
      let q = rule_in (directory_end_rule bs) e f h in
      broken bs 20 f e q.0 (refl, (refl, q.1))

  directory_broken : (f : FrameFault) → In f (directory_faults bs) → Broken bs 20 f
  unfolding directory_faults
  directory_broken f h = ⊎_elim (entry_broken f) (directory_end_broken f) (in-append f entries (directory_end_faults bs) h)

  -- a fault of field k, by the byte that it is at
  byte_broken : (k : ℕ) (f : FrameFault) → In f (faults_of bs k) → (i : ℕ) × (i < length (field_bytes bs k)) × (f ≡ at_byte k i) × (byte_holds k i ≡ false)
  unfolding field_faults
  byte_broken k f h = rules_in (byte_holds k) (at_byte k) (length (field_bytes bs k)) f h

  fields_broken : (f : FrameFault) → In f (fields_faults bs) → Broken bs 21 f
  unfolding fields_faults
  fields_broken f h =
      let k = over_in (faults_of bs) (entry_count bs) f h in
      let i = byte_broken k.0 f k.2 in
      broken bs 21 f (at_byte k.0 i.0) i.2 (refl, (k.0, i.0, k.1, i.1, refl, i.3))

  end_broken : (f : FrameFault) → In f (end_faults bs) → Broken bs 22 f
  end_broken f h =
      let e = RecordEnd (length bs - 1) in
      let q = rule_in (end_rule bs) e f h in
      broken bs 22 f e q.0 (refl, (refl, q.1))

  -- one stage, or what is left after it
  stage : (n : ℕ) (f : FrameFault) (xs ys : List FrameFault) → (In f xs → Broken bs n f) → (In f ys → Later bs (n + 1) f) → In f (xs ++ ys) → Later bs n f
  stage n f xs ys here after h =
      ⊎_elim
      (λ m. let q = here m in (omega (arith, q.0), q.1))
      (λ m. let q = after m in (omega (arith, q.0), q.1))
      (in-append f xs ys h)

  later_21 : (f : FrameFault) → In f from_21 → Later bs 21 f
  later_21 f = stage 21 f (fields_faults bs) (end_faults bs) (fields_broken f) (λ m. let q = end_broken f m in (omega (arith, q.0), q.1))

  later_20 : (f : FrameFault) → In f from_20 → Later bs 20 f
  later_20 f = stage 20 f (directory_faults bs) from_21 (directory_broken f) (later_21 f)

  later_19 : (f : FrameFault) → In f from_19 → Later bs 19 f
  later_19 f = stage 19 f (leader_faults bs) from_20 (leader_broken f) (later_20 f)

  truly : (f : FrameFault) → In f (frame_faults bs) → Breaks bs f
  unfolding frame_faults
  truly f h = (stage 18 f (size_faults bs) from_19 (size_broken f) (later_19 f) h).1

  -- ---- what is broken stands in the list

  past_18 : (f : FrameFault) → In f from_19 → In f (frame_faults bs)
  unfolding frame_faults
  past_18 f h = in_right f (size_faults bs) from_19 h

  past_19 : (f : FrameFault) → In f from_20 → In f (frame_faults bs)
  past_19 f h = past_18 f (in_right f (leader_faults bs) from_20 h)

  past_20 : (f : FrameFault) → In f from_21 → In f (frame_faults bs)
  past_20 f h = past_19 f (in_right f (directory_faults bs) from_21 h)

  listed : (f : FrameFault) → Breaks bs f → In f (frame_faults bs)
  unfolding frame_faults leader_faults directory_faults fields_faults field_faults
  listed Length b = in_left Length (size_faults bs) from_19 (in_rule (size_rule bs) Length b)
  listed (Leader p) b = past_18 (Leader p) (in_left (Leader p) (leader_faults bs) from_20 (in_rules (leader_rule bs) (λ q. Leader q) 24 p b.0 b.1))
  listed (Entry p) (k, l, at, e) =
      let f = at_entry k in
      let in_entries : In f entries = in_rules (entry_rule bs) at_entry (entry_count bs) k l e in
      rw at (past_19 f (in_left f (directory_faults bs) from_21 (in_left f entries (directory_end_faults bs) in_entries)))
  listed (DirectoryEnd p) (at, e) =
      let f = DirectoryEnd (entry_place (entry_count bs)) in
      rw at (past_19 f (in_left f (directory_faults bs) from_21 (in_right f entries (directory_end_faults bs) (in_rule (directory_end_rule bs) f e))))
  listed (Field p) (k, i, l, m, at, e) =
      let f = at_byte k i in
      let in_field : In f (faults_of bs k) = in_rules (byte_holds k) (at_byte k) (length (field_bytes bs k)) i m e in
      rw at (past_20 f (in_left f (fields_faults bs) (end_faults bs) (in_over (faults_of bs) (entry_count bs) f k l in_field)))
  listed (RecordEnd p) (at, e) =
      let f = RecordEnd (length bs - 1) in
      rw at (past_20 f (in_right f (fields_faults bs) (end_faults bs) (in_rule (end_rule bs) f e)))

  -- ---- the list rises

  leader_rises : Rising Before (leader_faults bs)
  unfolding leader_faults
  leader_rises = rising_rules Before (leader_rule bs) (λ p. Leader p) 24 (λ a b l. inr (refl, l))

  directory_rises : Rising Before (directory_faults bs)
  unfolding directory_faults
  directory_rises =
      let e = DirectoryEnd (entry_place (entry_count bs)) in
      rising-append Before entries (directory_end_faults bs)
      (rising_rules Before (entry_rule bs) at_entry (entry_count bs) (λ a b l. inr (refl, omega arith)))
      (rising_rule Before (directory_end_rule bs) e)
      (λ x y h k.
      let q = rules_in (entry_rule bs) at_entry (entry_count bs) x h in
      let end = rule_in (directory_end_rule bs) e y k in
      alike Before x y (at_entry q.0) e q.2 end.0 (inr (refl, omega (arith, q.1))))

  -- a field ends before the next one begins
  apart : (a b i : ℕ) → a < b → i < length (field_bytes bs a) → field_place bs a + i < field_place bs b
  apart a b i l h =
      let size : length (field_bytes bs a) ≤ entry_size bs a = simp length-take (omega arith) in
      omega (arith, size, sizes_next bs a, sizes_mono bs (a + 1) b (omega arith))

  fields_rise : Rising Before (fields_faults bs)
  unfolding fields_faults field_faults
  fields_rise =
      rising_over Before (faults_of bs)
      (λ k. rising_rules Before (byte_holds k) (at_byte k) (length (field_bytes bs k)) (λ a b l. inr (refl, omega arith)))
      (λ a b x y l h m.
      let i = byte_broken a x h in
      let j = byte_broken b y m in
      alike Before x y (at_byte a i.0) (at_byte b j.0) i.2 j.2 (inr (refl, omega (arith, apart a b i.0 l i.1))))
      (entry_count bs)

  rises : Rising Before (frame_faults bs)
  unfolding frame_faults
  rises =
      rising-append Before (size_faults bs) from_19 (rising_rule Before (size_rule bs) Length)
      (rising-append Before (leader_faults bs) from_20 leader_rises
      (rising-append Before (directory_faults bs) from_21 directory_rises
      (rising-append Before (fields_faults bs) (end_faults bs) fields_rise (rising_rule Before (end_rule bs) (RecordEnd (length bs - 1)))
      (λ x y h k. inl (omega (arith, (fields_broken x h).0, (end_broken y k).0))))
      (λ x y h k. inl (omega (arith, (directory_broken x h).0, (later_21 y k).0))))
      (λ x y h k. inl (omega (arith, (leader_broken x h).0, (later_20 y k).0))))
      (λ x y h k. inl (omega (arith, (size_broken x h).0, (later_19 y k).0)))

-- no two faults go before each other
not_both : (f g : FrameFault) → Before f g → Before g f → ⊥
not_both f g h k = ⊎_elim (λ a. ⊎_elim (λ b. omega arith) (λ b. omega (arith, b.0)) k) (λ a. ⊎_elim (λ b. omega (arith, a.0)) (λ b. omega (arith, a.1, b.1)) k) h

-- the answer of the check: no rule is broken, or the first that is
pub judged : (bs : List ℕ) (r : Result Frame FrameFault) → r ≡ verdict (frame_faults bs) (frame_of bs) → MatchResult r (λ _. NoneBroken bs) (FirstBroken bs)
judged bs (Ok x) e = λ f b. subst (In f) (none (frame_faults bs) (frame_of bs) x e) (listed bs f b)
judged bs (Err f) e = by_list (frame_faults bs) refl e
  where
    by_list : (fs : List FrameFault) → frame_faults bs ≡ fs → Err f ≡ verdict fs (frame_of bs) → FirstBroken bs f
    by_list [] is told = cc
    by_list (g ∷ gs) is told =
        let same : g ≡ f = cc in
        let whole : frame_faults bs ≡ f ∷ gs = is ∙ ap (λ h. h ∷ gs) same in
        record {
          broken = truly bs f (subst (In f) (sym whole) (inl refl));
          first = λ h earlier b. least Before not_both f gs (subst (Rising Before) whole (rises bs)) h earlier (subst (In h) whole (listed bs h b));
        }
