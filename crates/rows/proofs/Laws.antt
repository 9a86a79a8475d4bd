-- The table of rows that pass the check obeys the laws of every format. Assumes nothing.
use Rattle.std.proofs.Common.{◌≡◌, ℕ, suc, Some, unwrap_or, ◌-◌, ◌<◌, Bool, true, false, cond, ◌&&◌, eqb, leb, ◌⊎◌, List, [], ◌∷◌, length, get_or, sym, refl, ap, ◌∙◌, subst, inl, inr, ⊎_elim, arith}
use Rattle.std.specs.List.{list_all}
use Rattle.std.proofs.lemmas.Bool.{and_from, and_left, and_parts, and_right, both_ways, cases_Bool, cases_eq, eq-eqb, eqb-true, le-leb, leb-true, lt-leb, ne_eqb, or_cases, or_left}
use Rattle.record.specs.Classes.{code_character, code_position, subfield_code, within}
use Rattle.record.proofs.Ranges.{every}
use Rattle.record.proofs.Verdicts.{holds, parts}
use Rattle.rows.specs.declared.faults.RowFault.{RowFault}
use Rattle.rows.specs.declared.occurs.Occurs.TheVariants.{Absent, Once, Many}
use Rattle.rows.specs.Faults.{leader_fault, leader_faults, no_fault, row_at, row_fault, row_faults, row_rule, rows_faults, sound, tag_before, tag_fault, tag_faults, tag_rule}
use Rattle.rows.specs.Rows.{PlainRow, PlainRows, find, indicator_set, no_row, place_of, row_of, subfield_in, table}
use Rattle.rows.specs.Sets.{empty, has, some_characters, subfield_codes}
use Rattle.rows.specs.Table.{Lawful, data_tag, indicator_number, open_tag, present, tag}

-- ---- sets

has_each : (p : ℕ → Bool) (s : List ℕ) (c : ℕ) → list_all p s ≡ true → has s c ≡ true → p c ≡ true
has_each p [] c e h = absurd (both_ways _ refl h)
has_each p (x ∷ xs) c e h =
    let ps = and_parts (p x) (list_all p xs) e in
    ⊎_elim (λ here. subst (λ y. p y ≡ true) (eqb-true x c here) ps.0) (λ later. has_each p xs c ps.1 later) (or_cases (eqb x c) (has xs c) h)

has_none : (s : List ℕ) (c : ℕ) → empty s ≡ true → has s c ≡ true → ⊥
has_none [] c e h = both_ways _ refl h
has_none (x ∷ xs) c e h = let z = eqb-true (length (x ∷ xs)) 0 e in omega arith

has_some : (s : List ℕ) → some_characters s ≡ true → (c : ℕ) × (has s c ≡ true)
has_some [] e = absurd (both_ways _ refl e)
has_some (x ∷ xs) e = (x, or_left (eqb x x) (has xs x) (eq-eqb x x refl))

character : (s : List ℕ) (c : ℕ) → some_characters s ≡ true → has s c ≡ true → code_character c ≡ true
character s c e h = has_each code_character s c (and_parts _ _ e).1 h

-- ---- one row

-- the row of an open tag has codes at both indicators, and right characters
record Filled (r : PlainRow) : Type 0 where
  first_is : some_characters r.first ≡ true
  second_is : some_characters r.second ≡ true
  once_is : subfield_codes r.once ≡ true
  many_is : subfield_codes r.many ≡ true

-- that of any other tag has no codes
record Blank (r : PlainRow) : Type 0 where
  first_is : empty r.first ≡ true
  second_is : empty r.second ≡ true
  once_is : empty r.once ≡ true
  many_is : empty r.many ≡ true

four : (a b c d : Bool) → (a && b && c && d) ≡ true → (a ≡ true) × (b ≡ true) × (c ≡ true) × (d ≡ true)
four a b c d e =
    let x = and_parts (a && b && c) d e in
    let y = and_parts (a && b) c x.0 in
    let z = and_parts a b y.0 in
    (z.0, z.1, y.1, x.1)

-- which of the two a right row is goes by its tag
codes_of : (r : PlainRow) → row_rule r ≡ true → ((data_tag r.tag ≡ true) × Filled r) ⊎ ((data_tag r.tag ≡ false) × Blank r)
codes_of r e =
    let filled = some_characters r.first && some_characters r.second && subfield_codes r.once && subfield_codes r.many in
    let blank = empty r.first && empty r.second && empty r.once && empty r.many in
    let at : (b : Bool) → data_tag r.tag ≡ b → cond b filled blank ≡ true = λ b d. subst (λ t. cond t filled blank ≡ true) d (and_parts (present r.occurs) _ e).1 in
    ⊎_elim
    (λ d. let f = four _ _ _ _ (at true d) in inl (d, record { first_is = f.0; second_is = f.1; once_is = f.2; many_is = f.3 }))
    (λ d. let f = four _ _ _ _ (at false d) in inr (d, record { first_is = f.0; second_is = f.1; once_is = f.2; many_is = f.3 }))
    (cases_Bool (data_tag r.tag))

one_or_two : (i : ℕ) → indicator_number i ≡ true → (i ≡ 1) ⊎ (i ≡ 2)
one_or_two i e =
    let ps = and_parts (leb 1 i) (leb i 2) e in
    let low = leb-true 1 i ps.0 in
    let high = leb-true i 2 ps.1 in
    ⊎_elim inl (λ other. inr (omega arith)) (cases_eq i 1)

-- a code that a row admits as an indicator is in one of its two sets
indicator_in : (r : PlainRow) (i c : ℕ) → has (indicator_set r i) c ≡ true → (indicator_number i ≡ true) × ((has r.first c ≡ true) ⊎ (has r.second c ≡ true))
indicator_in r i c e =
    let Says : ℕ → Type 0 = λ n. has (indicator_set r n) c ≡ true in
    let Number : ℕ → Type 0 = λ n. indicator_number n ≡ true in
    ⊎_elim
    (λ one. (subst Number (sym one) refl, inl (subst Says one e)))
    (λ not_one. ⊎_elim
    (λ two. (subst Number (sym two) refl, inr (subst Says two e)))
    (λ not_two. absurd (both_ways _ (ap (λ b. has (cond b r.first (cond (eqb i 2) r.second [])) c) (ne_eqb i 1 not_one) ∙ ap (λ b. has (cond b r.second []) c) (ne_eqb i 2 not_two)) e))
    (cases_eq i 2))
    (cases_eq i 1)

-- and so is a subfield code
code_in : (r : PlainRow) (c : ℕ) → present (subfield_in r c) ≡ true → (has r.many c ≡ true) ⊎ (has r.once c ≡ true)
code_in r c e =
    ⊎_elim inl
    (λ not_many. ⊎_elim inr
    (λ not_once. absurd (both_ways _ (ap (λ b. present (cond b Many (cond (has r.once c) Once Absent))) not_many ∙ ap (λ b. present (cond b Once Absent)) not_once) e))
    (cases_Bool (has r.once c)))
    (cases_Bool (has r.many c))

-- ---- the rows

-- a row of this tag stands at a place of the list
record Stands (rows : List PlainRow) (g : ℕ) (r : PlainRow) : Type 0 where
  at : ℕ
  listed : at < length rows
  is : r ≡ row_at rows at
  same : r.tag ≡ g

found : (rows : List PlainRow) (g : ℕ) → (find rows g ≡ no_row) ⊎ Stands rows g (find rows g)
found [] g = inl refl
found (r ∷ rs) g =
    let F : Bool → PlainRow = λ b. unwrap_or (cond b (Some r) (row_of rs g)) no_row in
    ⊎_elim
    (λ e. inr (subst (λ b. Stands (r ∷ rs) g (F b)) (sym e) (record { at = 0; listed = omega arith; is = refl; same = eqb-true _ _ e })))
    (λ e. subst (λ b. (F b ≡ no_row) ⊎ Stands (r ∷ rs) g (F b)) (sym e)
    (⊎_elim inl (λ w. inr (record { at = suc w.at; listed = omega (arith, w.listed); is = w.is; same = w.same })) (found rs g)))
    (cases_Bool (eqb r.tag g))

place_within : (p : ℕ) → code_position p ≡ true → place_of p < 8
place_within p e =
    ⊎_elim
    (λ low. let h = leb-true p 9 (and_parts (leb 5 p) (leb p 9) low).1 in
    subst (λ b. cond b (p - 5) (p - 12) < 8) (sym (le-leb p 9 h)) (omega arith))
    (λ high. let ps = and_parts (leb 17 p) (leb p 19) high in
    let h = leb-true 17 p ps.0 in
    let k = leb-true p 19 ps.1 in
    subst (λ b. cond b (p - 5) (p - 12) < 8) (sym (lt-leb p 9 (omega arith))) (omega arith))
    (or_cases (within 5 9 p) (within 17 19 p) e)

none_told : (fs : List RowFault) → no_fault fs ≡ true → fs ≡ []
none_told [] e = refl
none_told (f ∷ fs) e = absurd (both_ways _ refl e)

module _ (s : PlainRows) (passed : sound s ≡ true) where
  checks : (tag_faults s.rows ≡ []) × (row_faults s.rows ≡ []) × (leader_faults s.leader ≡ [])
  unfolding rows_faults
  checks =
      let a = parts (tag_faults s.rows) _ (none_told (rows_faults s) passed) in
      let b = parts (row_faults s.rows) (leader_faults s.leader) a.1 in
      (a.0, b.0, b.1)

  set_right : (p : ℕ) → code_position p ≡ true → some_characters (get_or s.leader (place_of p) []) ≡ true
  set_right p e = holds _ _ (every (leader_fault s.leader) 8 checks.2 (place_of p) (place_within p e))

  module _ (k : ℕ) (listed : k < length s.rows) where
    tag_right : tag (row_at s.rows k).tag ≡ true
    tag_right = (and_parts _ _ (holds (tag_rule (tag_before s.rows k) (row_at s.rows k).tag) _ (every (tag_fault s.rows) (length s.rows) checks.0 k listed))).0

    row_right : row_rule (row_at s.rows k) ≡ true
    row_right = holds _ _ (every (row_fault s.rows) (length s.rows) checks.1 k listed)

  module _ (g : ℕ) where
    -- a tag that has a row
    record Right : Type 0 where
      in_range : tag g ≡ true
      same : (find s.rows g).tag ≡ g
      right : row_rule (find s.rows g) ≡ true

    right_row : (find s.rows g ≡ no_row) ⊎ Right
    right_row =
        ⊎_elim inl
        (λ w. inr (record {
          in_range = subst (λ n. tag n ≡ true) (ap (λ r. r.tag) (sym w.is) ∙ w.same) (tag_right w.at w.listed);
          same = w.same;
          right = subst (λ r. row_rule r ≡ true) (sym w.is) (row_right w.at w.listed);
        }))
        (found s.rows g)

    -- the row has right codes where the tag is open, and else none
    codes_at : ((open_tag (table s) g ≡ true) × Filled (find s.rows g)) ⊎ ((open_tag (table s) g ≡ false) × Blank (find s.rows g))
    codes_at =
        let r = find s.rows g in
        ⊎_elim
        (λ e. inr (and_right (data_tag g) _ (ap (λ x. present x.occurs) e), subst Blank (sym e) (record { first_is = refl; second_is = refl; once_is = refl; many_is = refl })))
        (λ w.
        let is : (b : Bool) → data_tag r.tag ≡ b → data_tag g ≡ b = λ b. subst (λ n. data_tag n ≡ b) w.same in
        ⊎_elim
        (λ f. inl (and_from (data_tag g) _ (is true f.0) (and_parts (present r.occurs) _ w.right).0, f.1))
        (λ b. inr (and_left (data_tag g) _ (is false b.0), b.1))
        (codes_of r w.right))
        right_row

  pub rows_lawful : Lawful (table s)
  rows_lawful = record {
    leader_within = λ p c h.
        let ps = and_parts (code_position p) _ h in
        (ps.0, character _ c (set_right p ps.0) ps.1);
    tag_within = λ g h. ⊎_elim (λ e. absurd (both_ways _ (ap (λ r. present r.occurs) e) h)) (λ w. w.in_range) (right_row g);
    indicator_within = λ g i c h.
        let in_set = indicator_in (find s.rows g) i c h in
        ⊎_elim
        (λ f. (f.0, in_set.0, ⊎_elim (character _ c f.1.first_is) (character _ c f.1.second_is) in_set.1))
        (λ b. absurd (⊎_elim (has_none _ c b.1.first_is) (has_none _ c b.1.second_is) in_set.1))
        (codes_at g);
    subfield_within = λ g c h.
        let in_set = code_in (find s.rows g) c h in
        ⊎_elim
        (λ f. (f.0, ⊎_elim (has_each subfield_code _ c f.1.many_is) (has_each subfield_code _ c f.1.once_is) in_set))
        (λ b. absurd (⊎_elim (has_none _ c b.1.many_is) (has_none _ c b.1.once_is) in_set))
        (codes_at g);
    leader_some = λ p h. let w = has_some _ (set_right p h) in (w.0, and_from _ _ h w.1);
    indicator_some = λ g i o n.
        let Admits : ℕ → Type 0 = λ k. (c : ℕ) × (has (indicator_set (find s.rows g) k) c ≡ true) in
        ⊎_elim
        (λ f. ⊎_elim
        (λ one. subst Admits (sym one) (has_some _ f.1.first_is))
        (λ two. subst Admits (sym two) (has_some _ f.1.second_is))
        (one_or_two i n))
        (λ b. absurd (both_ways _ b.0 o))
        (codes_at g);
  }
