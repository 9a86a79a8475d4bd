-- A record whose frame holds is well-formed parts, laid out. Assumes nothing.
use Rattle.std.proofs.Common.{◌≡◌, ℕ, zero, suc, ◌+◌, ◌-◌, ◌*◌, ◌^◌, ◌<◌, ◌≤◌, true, ◌&&◌, eqb, ltb, List, [], ◌∷◌, ◌++◌, map, length, get_or, take, drop, sym, refl, ap, ◌∙◌, append_assoc, add-zero, zero-add, arith, lit<, length-append, length-drop}
use Rattle.std.specs.List.{All}
use Rattle.std.proofs.lemmas.List.Elements.{All-cons, All-from_recursion, All-nil}
use Rattle.std.proofs.lemmas.List.{drop_all, drop_more}
use Rattle.std.proofs.lemmas.Bool.{and_parts, eqb-true, ltb-true}
use Rattle.std.proofs.lemmas.List.Folds.{list_all-append}
use Rattle.record.specs.declared.faults.FrameFault.TheVariants as fault
use Rattle.record.specs.Classes.{code_character, digit}
use Rattle.record.specs.Contents.{byte_rule, faults_of, field_bytes, field_faults, field_place, fields_faults}
use Rattle.record.specs.Directory.{directory_end_rule, directory_faults, entry_faults, entry_place, entry_rule, entry_size, entry_start, entry_tag, sizes_before}
use Rattle.record.specs.Figures.{all_digits, number, part}
use Rattle.record.specs.Formed.{FormedField, LaidOut}
use Rattle.record.specs.Frame.{Framed, end_faults, frame_faults, size_faults}
use Rattle.record.specs.declared.extent.Extent.{Extent}
use Rattle.record.specs.Layout.{directory, entry, extent, field_laid, fields_laid, figure, laid, laid_length, layout, leader}
use Rattle.record.specs.Leader.{base, codes_of, entry_count, leader_faults, leader_rule}
use Rattle.record.specs.Parts.{Field}
use Rattle.record.specs.Rules.{over, rule}
use Rattle.record.proofs.Clamped.{length_part, next_part, part_bytes, part_parts}
use Rattle.record.proofs.Decimals.{figure_back, number_fits}
use Rattle.record.proofs.Opened.{Opened, opened}
use Rattle.record.proofs.Ranges.{every}
use Rattle.record.proofs.Sound.{based, between, filled, sizes_mono, sizes_next, sizes_none}
use Rattle.record.proofs.Verdicts.{holds, parts}

-- what a record whose frame holds has
record Whole (bs : List ℕ) : Type 0 where
  pub short : 26 ≤ length bs
  pub long : length bs ≤ 99999
  pub position : (p : ℕ) → p < 24 → leader_rule bs p ≡ true
  pub base_is : base bs ≡ 25 + 12 * entry_count bs
  pub entries : (k : ℕ) → k < entry_count bs → entry_rule bs k ≡ true
  pub mark : get_or bs (entry_place (entry_count bs)) 0 ≡ 30
  pub fills : base bs + sizes_before bs (entry_count bs) + 1 ≡ length bs
  pub contents : (k : ℕ) → k < entry_count bs → faults_of bs k ≡ []
  pub last : get_or bs (length bs - 1) 0 ≡ 29

whole : (bs : List ℕ) → Framed bs → Whole bs
unfolding frame_faults leader_faults directory_faults fields_faults
whole bs framed =
    let a = parts (size_faults bs) _ framed in
    let b = parts (leader_faults bs) _ a.1 in
    let c = parts (directory_faults bs) _ b.1 in
    let d = parts (fields_faults bs) (end_faults bs) c.1 in
    let listed = parts (over (entry_faults bs) 0 (entry_count bs)) _ c.0 in
    let size = between 26 99999 (length bs) (sym (holds _ _ a.0)) in
    record {
      short = size.0;
      long = size.1;
      position = λ p h. holds _ _ (every (λ q. rule (leader_rule bs q) (fault.Leader q)) 24 b.0 p h);
      base_is = (based bs b.0).whole;
      entries = λ k h. holds _ _ (every (entry_faults bs) (entry_count bs) listed.0 k h);
      mark = eqb-true _ _ (and_parts _ _ (holds (directory_end_rule bs) _ listed.1)).0;
      fills = filled bs c.0;
      contents = every (faults_of bs) (entry_count bs) d.0;
      last = eqb-true _ _ (holds _ _ d.1);
    }

-- a byte, and what follows
next_byte : (bs : List ℕ) (p v : ℕ) → p < length bs → get_or bs p 0 ≡ v → drop p bs ≡ v ∷ drop (p + 1) bs
next_byte bs p v h e = drop_more bs p 0 h ∙ ap (λ x. x ∷ drop (p + 1) bs) e

-- a number in digits: it fits into them, and is written before what follows
next_figure : (bs : List ℕ) (p w n : ℕ) → p + w ≤ length bs → all_digits (part bs p w) ≡ true → number (part bs p w) ≡ n → (n < 10 ^ w) × (drop p bs ≡ figure w n ++ drop (p + w) bs)
next_figure bs p w n room ok is =
    let long = length_part bs p w room in
    (number_fits (part bs p w) w n long ok is, next_part bs p w ∙ ap (λ l. l ++ drop (p + w) bs) (sym (figure_back (part bs p w) w n long ok is)))

-- the extent that entry k says
abbrev entry_extent : List ℕ → ℕ → Extent
entry_extent bs k = record { tag = entry_tag bs k; size = entry_size bs k }

-- digits in two parts
digits_parts : (bs : List ℕ) (p n m : ℕ) → all_digits (part bs p (n + m)) ≡ true → (all_digits (part bs p n) ≡ true) × (all_digits (part bs (p + n) m) ≡ true)
digits_parts bs p n m ok =
    and_parts _ _ (sym (ap all_digits (part_parts bs p n m) ∙ list_all-append digit (part bs p n) (part bs (p + n) m)) ∙ ok)

-- what entry k says, and how it is written
record Listed (bs : List ℕ) (k : ℕ) : Type 0 where
  pub tagged : (1 ≤ entry_tag bs k) × (entry_tag bs k ≤ 999)
  pub sized : (1 ≤ entry_size bs k) × (entry_size bs k ≤ 9999)
  pub written : drop (entry_place k) bs ≡ entry (entry_extent bs k) (sizes_before bs k) ++ drop (entry_place (suc k)) bs

-- the fields from field k on, with their entries and their bytes
record Fields (bs : List ℕ) (k : ℕ) : Type 0 where
  pub fields : List Field
  pub formed : All FormedField fields
  pub fit : All (λ f. length (field_laid f) ≤ 9999) fields
  pub count : k + length (map extent fields) ≡ entry_count bs
  pub listed : drop (entry_place k) bs ≡ directory (sizes_before bs k) (map extent fields) ++ drop (entry_place (entry_count bs)) bs
  pub laid : drop (field_place bs k) bs ≡ fields_laid fields ++ (29 ∷ [])

-- the parts of a record whose frame holds
module _ (bs : List ℕ) (w : Whole bs) where
  leader_parts : bs ≡ figure 5 (length bs) ++ (part bs 5 5 ++ (50 ∷ 50 ∷ (figure 5 (base bs) ++ (part bs 17 3 ++ (52 ∷ 53 ∷ 48 ∷ 48 ∷ drop 24 bs)))))
  leader_parts =
      let length_is = and_parts _ _ (w.position 0 (lit< tt)) in
      let base_is = and_parts _ _ (w.position 12 (lit< tt)) in
      let four = and_parts _ _ (w.position 20 (lit< tt)) in
      let three = and_parts _ _ four.1 in
      let two = and_parts _ _ three.1 in
      (next_figure bs 0 5 (length bs) (omega arith) length_is.0 (eqb-true _ _ length_is.1)).1 ∙ ap (λ l. figure 5 (length bs) ++ l) (
      next_part bs 5 5 ∙ ap (λ l. part bs 5 5 ++ l) (
      next_byte bs 10 50 (omega arith) (eqb-true _ _ (w.position 10 (lit< tt))) ∙ ap (λ l. 50 ∷ l) (
      next_byte bs 11 50 (omega arith) (eqb-true _ _ (w.position 11 (lit< tt))) ∙ ap (λ l. 50 ∷ l) (
      (next_figure bs 12 5 (base bs) (omega arith) base_is.0 refl).1 ∙ ap (λ l. figure 5 (base bs) ++ l) (
      next_part bs 17 3 ∙ ap (λ l. part bs 17 3 ++ l) (
      next_byte bs 20 52 (omega arith) (eqb-true _ _ four.0) ∙ ap (λ l. 52 ∷ l) (
      next_byte bs 21 53 (omega arith) (eqb-true _ _ three.0) ∙ ap (λ l. 53 ∷ l) (
      next_byte bs 22 48 (omega arith) (eqb-true _ _ two.0) ∙ ap (λ l. 48 ∷ l) (
      next_byte bs 23 48 (omega arith) (eqb-true _ _ two.1))))))))))

  leader_back : bs ≡ leader (codes_of bs) (length bs) (base bs) ++ drop 24 bs
  leader_back =
      let five : part bs 5 5 ≡ take 5 (codes_of bs) = part_bytes bs 5 5 (omega arith) in
      let three : part bs 17 3 ≡ take 3 (drop 5 (codes_of bs)) = part_bytes bs 17 3 (omega arith) in
      (rw (five, three) at leader_parts) ∙ sym (simp append_assoc)

  codes_are : All (λ c. code_character c ≡ true) (codes_of bs)
  codes_are = All-from_recursion (λ c. code_character c ≡ true) (codes_of bs) (w.position 5 (lit< tt), (w.position 6 (lit< tt), (w.position 7 (lit< tt), (w.position 8 (lit< tt), (w.position 9 (lit< tt), (w.position 17 (lit< tt), (w.position 18 (lit< tt), (w.position 19 (lit< tt), tt))))))))

  entry_back : (k : ℕ) → k < entry_count bs → Listed bs k
  entry_back k h =
      let p = entry_place k in
      let room : p + 12 ≤ length bs = omega arith in
      let second : p + 3 + 4 ≡ p + 7 = omega arith in
      let third : p + 7 + 5 ≡ entry_place (suc k) = omega arith in
      let tests = ltb 0 (entry_size bs k) && eqb (entry_start bs k) (sizes_before bs k) in
      let a = and_parts (all_digits (part bs p 12)) (ltb 0 (entry_tag bs k) && tests) (w.entries k h) in
      let b = and_parts (ltb 0 (entry_tag bs k)) tests a.1 in
      let c = and_parts (ltb 0 (entry_size bs k)) (eqb (entry_start bs k) (sizes_before bs k)) b.1 in
      let ds = digits_parts bs p 3 9 a.0 in
      let es = digits_parts bs (p + 3) 4 5 ds.1 in
      let tag = next_figure bs p 3 (entry_tag bs k) (omega arith) ds.0 refl in
      let size = next_figure bs (p + 3) 4 (entry_size bs k) (omega arith) es.0 refl in
      let start = next_figure bs (p + 7) 5 (sizes_before bs k) (omega arith) (rw second at es.1) (eqb-true _ _ c.1) in
      record {
        tagged = (ltb-true _ _ b.0, omega arith);
        sized = (ltb-true _ _ c.0, omega arith);
        written =
            tag.1 ∙ ap (λ l. figure 3 (entry_tag bs k) ++ l) (
            size.1 ∙ ap (λ l. figure 4 (entry_size bs k) ++ l) (
            ap (λ n. drop n bs) second ∙ start.1 ∙ ap (λ n. figure 5 (sizes_before bs k) ++ drop n bs) third))
            ∙ sym (simp append_assoc);
      }

  field_length : (k : ℕ) → k < entry_count bs → length (field_bytes bs k) ≡ entry_size bs k
  field_length k h =
      let next = sizes_next bs k in
      let more = sizes_mono bs (k + 1) (entry_count bs) (omega arith) in
      length_part bs (field_place bs k) (entry_size bs k) (omega arith)

  field_opened : (k : ℕ) → k < entry_count bs → Opened (entry_tag bs k) (field_bytes bs k)
  unfolding field_faults
  field_opened k h =
      let e = entry_back k h in
      opened (entry_tag bs k) (field_bytes bs k) e.tagged.0 e.tagged.1 (omega (arith, field_length k h))
      (λ i l. holds _ _ (every (λ j. rule (byte_rule (entry_tag bs k) (field_bytes bs k) j) (fault.Field (field_place bs k + j))) (length (field_bytes bs k)) (w.contents k h) i l))

  fields_from : (m k : ℕ) → k + m ≡ entry_count bs → Fields bs k
  unfolding sizes_before
  fields_from zero k e =
      let at_end : k ≡ entry_count bs = omega arith in
      let end : field_place bs (entry_count bs) ≡ length bs - 1 = omega arith in
      rw at_end (record {
        fields = [];
        formed = All-nil FormedField;
        fit = All-nil (λ f. length (field_laid f) ≤ 9999);
        count = add-zero _;
        listed = refl;
        laid = ap (λ n. drop n bs) end ∙ next_byte bs (length bs - 1) 29 (omega arith) w.last ∙ ap (λ l. 29 ∷ l) (drop_all (length bs - 1 + 1) bs (omega arith));
      })
  fields_from (suc m) k e =
      let h : k < entry_count bs = omega arith in
      let listing = entry_back k h in
      let first = field_opened k h in
      let rest = fields_from m (suc k) (omega arith) in
      let size : length (field_laid first.field) ≡ entry_size bs k = ap length first.laid ∙ field_length k h in
      let next : field_place bs k + entry_size bs k ≡ field_place bs (suc k) = omega arith in
      record {
        fields = first.field ∷ rest.fields;
        formed = All-cons FormedField first.field rest.fields first.formed rest.formed;
        fit = All-cons (λ f. length (field_laid f) ≤ 9999) first.field rest.fields (omega arith) rest.fit;
        count = omega arith;
        listed = rw (first.tagged, size) (listing.written ∙ ap (λ l. entry (entry_extent bs k) (sizes_before bs k) ++ l) rest.listed ∙ sym (append_assoc (entry (entry_extent bs k) (sizes_before bs k)) _ _));
        laid = next_part bs (field_place bs k) (entry_size bs k) ∙ ap (λ n. field_bytes bs k ++ drop n bs) next ∙ (λ i. sym first.laid i ++ rest.laid i) ∙ sym (append_assoc (field_laid first.field) _ _);
      }

  back : (all : Fields bs 0) → bs ≡ layout (record { codes = codes_of bs; fields = all.fields })
  unfolding laid
  back all =
      let es = map extent all.fields in
      let fs = fields_laid all.fields in
      let none = sizes_none bs in
      let first : entry_place (entry_count bs) + 1 ≡ field_place bs 0 = omega arith in
      let base_same : base bs ≡ 25 + 12 * length es = omega arith in
      let long : length bs ≡ laid_length es fs = omega (arith, length-drop (field_place bs 0) bs, ap length all.laid, length-append fs (29 ∷ [])) in
      let ended = next_byte bs (entry_place (entry_count bs)) 30 (omega arith) w.mark ∙ ap (λ n. 30 ∷ drop n bs) first ∙ ap (λ l. 30 ∷ l) all.laid in
      leader_back ∙ (λ i. leader (codes_of bs) (long i) (base_same i) ++ (all.listed ∙ (λ j. directory (none j) es ++ ended j)) i)

pub framed_laid : (bs : List ℕ) → Framed bs → LaidOut bs
framed_laid bs framed =
    let w = whole bs framed in
    let all = fields_from bs w (entry_count bs) 0 (zero-add (entry_count bs)) in
    let end_to_end = back bs w all in
    record {
      parts = record { codes = codes_of bs; fields = all.fields };
      formed = record { eight = refl; codes_are = codes_are bs w; fields_are = all.formed; fields_fit = all.fit; fits = omega (arith, ap length end_to_end) };
      end_to_end = end_to_end;
    }
