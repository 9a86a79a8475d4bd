-- What stands where in a record that was laid out. Assumes nothing.
use Rattle.std.proofs.Common.{◌≡◌, ℕ, zero, suc, ◌+◌, ◌-◌, ◌*◌, ◌/◌, ◌<◌, ◌≤◌, true, ◌&&◌, eqb, ltb, leb, List, [], ◌∷◌, ◌++◌, length, get_or, take, drop, sym, refl, ap, ◌∙◌, append_assoc, le_refl, add-zero, zero-add, add-one, arith, length-append, length-drop}
use Rattle.std.specs.List.{All}
use Rattle.std.proofs.lemmas.List.Elements.{All-get_or}
use Rattle.std.proofs.lemmas.List.{at_drop_more, drop_all, drop-append-le, drop_at, drop-drop, get_or-drop, length_push, take-append-le, take_at}
use Rattle.std.proofs.lemmas.Bool.Decides.{nat_tests}
use Rattle.std.proofs.lemmas.List.Folds.{list_all-append}
use Rattle.record.specs.declared.extent.Extent.{Extent}
use Rattle.record.specs.Classes.{code_character, within, digit}
use Rattle.record.specs.Contents.{field_bytes, field_place}
use Rattle.record.specs.Directory.{entry_place, entry_size, entry_start, entry_tag, sizes_before, starts_at}
use Rattle.record.specs.Extents.{extent_of, no_extent, starts, total}
use Rattle.record.specs.Figures.{all_digits, number, part}
use Rattle.record.specs.Layout.{directory, entry, figure, laid, laid_length, leader}
use Rattle.record.specs.Leader.{base, entry_count, leader_faults}
use Rattle.record.specs.PartsFaults.{code_faults, extent_rule}
use Rattle.record.specs.Rules.{over}
use Rattle.record.proofs.Decimals.{figure_all, length_figure, number-figure}
use Rattle.record.proofs.Extents.{Fits, rule_when, starts_next, starts_within}
use Rattle.record.proofs.Leaders.{leader_base, leader_judged, length-leader}

-- past a front
pub past : (xs ys : List ℕ) (n p : ℕ) → length xs ≡ n → drop (n + p) (xs ++ ys) ≡ drop p ys
past xs ys n p e = sym (drop-drop p n (xs ++ ys)) ∙ ap (drop p) (drop_at xs ys n e)

-- ys, where what stands from p on is known
pub part_at : (bs : List ℕ) (p : ℕ) (xs ys zs : List ℕ) (n w : ℕ) → drop p bs ≡ xs ++ (ys ++ zs) → length xs ≡ n → length ys ≡ w → part bs (p + n) w ≡ ys
part_at bs p xs ys zs n w at e f = ap (take w) (sym (drop-drop n p bs) ∙ ap (drop n) at ∙ drop_at xs (ys ++ zs) n e) ∙ take_at ys zs w f

pub byte_at : (bs : List ℕ) (p : ℕ) → get_or bs p 0 ≡ get_or (drop p bs) 0 0
byte_at bs p = ap (λ n. get_or bs n 0) (sym (add-zero p)) ∙ sym (get_or-drop p bs 0 0)

pub length-entry : (e : Extent) (s : ℕ) → length (entry e s) ≡ 12
length-entry e s = simp (length-append, length_figure)

pub length-directory : (s : ℕ) (es : List Extent) → length (directory s es) ≡ 12 * length es
length-directory s [] = refl
length-directory s (e ∷ es) = length-append (entry e s) (directory (s + e.size) es) ∙ omega (arith, length-entry e s, length-directory (s + e.size) es)

-- the entries from entry k on
drop-directory : (s : ℕ) (es : List Extent) (k : ℕ) (rest : List ℕ) → k ≤ length es → drop (12 * k) (directory s es ++ rest) ≡ directory (s + starts es k) (drop k es) ++ rest
drop-directory s es zero rest h = ap (λ n. directory n es ++ rest) (sym (add-zero s))
drop-directory s [] (suc k) rest h = absurd (omega arith)
drop-directory s (e ∷ es) (suc k) rest h =
    let next : 12 * suc k ≡ 12 + 12 * k = omega arith in
    let start : s + e.size + starts es k ≡ s + (e.size + starts es k) = omega arith in
    (λ i. drop (next i) (append_assoc (entry e s) (directory (s + e.size) es) rest i))
    ∙ past (entry e s) (directory (s + e.size) es ++ rest) 12 (12 * k) (length-entry e s)
    ∙ drop-directory (s + e.size) es k rest (omega arith)
    ∙ ap (λ n. directory n (drop k es) ++ rest) start

-- what stands after the entries
abbrev after : List ℕ → List ℕ
after fs = 30 ∷ (fs ++ (29 ∷ []))

pub length-laid : (codes : List ℕ) (es : List Extent) (fs : List ℕ) → length codes ≡ 8 → length (laid codes es fs) ≡ laid_length es fs
unfolding laid
length-laid codes es fs eight =
    length-append (leader codes (laid_length es fs) (25 + 12 * length es)) (directory 0 es ++ after fs)
    ∙ omega (arith, length-leader codes (laid_length es fs) (25 + 12 * length es) eight, length-append (directory 0 es) (after fs), length-directory 0 es, length_push fs 29)

-- the tests of an entry, by its figures and by its numbers
tests : (t s b t' s' b' : ℕ) → (t < 1000 → t' ≡ t) → (s < 10000 → s' ≡ s) → (b < 100000 → b' ≡ b) → ((ltb t 1000 && (ltb s 10000 && ltb b 100000)) && (ltb 0 t' && (ltb 0 s' && eqb b' b))) ≡ (within 1 999 t && (within 1 9999 s && leb b 99999))
tests t s b t' s' b' f g h = grind (arith, nat_tests)

-- eight codes and any extents and bytes
module _ (codes : List ℕ) (es : List Extent) (fs : List ℕ) (eight : length codes ≡ 8) where
  abbrev lay : List ℕ
  lay = laid codes es fs

  -- what stands from entry k on
  from_entry : (k : ℕ) → k ≤ length es → drop (entry_place k) lay ≡ directory (starts es k) (drop k es) ++ after fs
  unfolding laid
  from_entry k h =
      past (leader codes (laid_length es fs) (25 + 12 * length es)) (directory 0 es ++ after fs) 24 (12 * k) (length-leader codes (laid_length es fs) (25 + 12 * length es) eight)
      ∙ drop-directory 0 es k (after fs) h
      ∙ ap (λ s. directory s (drop k es) ++ after fs) (zero-add (starts es k))

  from_mark : drop (entry_place (length es)) lay ≡ after fs
  from_mark = from_entry (length es) (le_refl (length es)) ∙ ap (λ d. directory (starts es (length es)) d ++ after fs) (drop_all (length es) es (le_refl (length es)))

  pub mark_at : get_or lay (entry_place (length es)) 0 ≡ 30
  mark_at = byte_at lay (entry_place (length es)) ∙ ap (λ l. get_or l 0 0) from_mark

  module _ (short : laid_length es fs ≤ 99999) where
    pub base_at : base lay ≡ 25 + 12 * length es
    unfolding laid
    base_at = leader_base (laid_length es fs) (25 + 12 * length es) (directory 0 es ++ after fs) (omega arith) (omega arith) codes eight

    pub count_at : entry_count lay ≡ length es
    count_at = ap (λ m. (m - 25) / 12) base_at ∙ omega arith

    pub leader_at : leader_faults lay ≡ over (code_faults codes) 0 8
    unfolding laid
    leader_at = leader_judged (laid_length es fs) (25 + 12 * length es) (directory 0 es ++ after fs) (omega arith) (omega arith) (omega arith) (omega arith) codes eight (length-laid codes es fs eight)

  module _ (k : ℕ) (within : k < length es) where
    abbrev e : Extent
    e = extent_of es k

    abbrev s : ℕ
    s = starts es k

    abbrev more : List ℕ
    more = directory (s + e.size) (drop (k + 1) es) ++ after fs

    -- entry k and what stands after it
    entry_at : drop (entry_place k) lay ≡ entry e s ++ more
    entry_at =
        from_entry k (omega arith)
        ∙ ap (λ d. d ++ after fs) (at_drop_more (directory s) es k no_extent within)
        ∙ append_assoc (entry e s) (directory (s + e.size) (drop (k + 1) es)) (after fs)

    -- its numbers, where the figures have room for them
    tag_at : e.tag < 1000 → entry_tag lay k ≡ e.tag
    tag_at h =
        ap (λ l. number (take 3 l)) (entry_at ∙ append_assoc (figure 3 e.tag) (figure 4 e.size ++ figure 5 s) more)
        ∙ ap number (take_at (figure 3 e.tag) ((figure 4 e.size ++ figure 5 s) ++ more) 3 (length_figure 3 e.tag))
        ∙ number-figure 3 e.tag h

    size_at : e.size < 10000 → entry_size lay k ≡ e.size
    size_at h =
        ap number (part_at lay (entry_place k) (figure 3 e.tag) (figure 4 e.size) (figure 5 s ++ more) 3 4 (entry_at ∙ simp append_assoc) (length_figure 3 e.tag) (length_figure 4 e.size))
        ∙ number-figure 4 e.size h

    start_at : s < 100000 → entry_start lay k ≡ s
    start_at h =
        ap number (part_at lay (entry_place k) (figure 3 e.tag ++ figure 4 e.size) (figure 5 s) more 7 5 (entry_at ∙ simp append_assoc) (simp (length-append, length_figure)) (length_figure 5 s))
        ∙ number-figure 5 s h

    digits_at : all_digits (part lay (entry_place k) 12) ≡ (ltb e.tag 1000 && (ltb e.size 10000 && ltb s 100000))
    digits_at =
        ap all_digits (ap (take 12) entry_at ∙ take_at (entry e s) more 12 (length-entry e s))
        ∙ list_all-append digit (figure 3 e.tag) (figure 4 e.size ++ figure 5 s)
        ∙ (λ i. figure_all 2 e.tag i && (list_all-append digit (figure 4 e.size) (figure 5 s) ∙ (λ j. figure_all 3 e.size j && figure_all 4 s j)) i)

    -- the entry is right where its extent is
    pub rule_at : starts_at lay k s ≡ extent_rule e s
    rule_at =
        ap (λ t. t && (ltb 0 (entry_tag lay k) && (ltb 0 (entry_size lay k) && eqb (entry_start lay k) s))) digits_at
        ∙ tests e.tag e.size s (entry_tag lay k) (entry_size lay k) (entry_start lay k) tag_at size_at start_at

  -- the lengths before a field, where the figures have room for them
  pub sizes_at : (k : ℕ) → k ≤ length es → ((j : ℕ) → j < k → (extent_of es j).size < 10000) → sizes_before lay k ≡ starts es k
  unfolding sizes_before
  sizes_at zero h small = refl
  sizes_at (suc k) h small =
      (λ i. sizes_at k (omega arith) (λ j l. small j (omega arith)) i + size_at k (omega arith) (small k (omega arith)) i)
      ∙ sym (starts_next es k (omega arith))
      ∙ ap (starts es) (add-one k)

-- codes and extents that make a record
pub record Right (codes : List ℕ) (es : List Extent) (fs : List ℕ) : Type 0 where
  pub eight : length codes ≡ 8
  pub codes_are : All (λ c. code_character c ≡ true) codes
  pub fit : All Fits es
  pub sum : total es ≡ length fs
  pub short : laid_length es fs ≤ 99999

module _ (codes : List ℕ) (es : List Extent) (fs : List ℕ) (right : Right codes es fs) where
  -- what stands from a byte of the fields on
  from_field : (p : ℕ) → drop (25 + 12 * length es + p) (laid codes es fs) ≡ drop p (fs ++ (29 ∷ []))
  from_field p =
      let q : 25 + 12 * length es + p ≡ entry_place (length es) + (1 + p) = omega arith in
      ap (λ n. drop n (laid codes es fs)) q
      ∙ sym (drop-drop (1 + p) (entry_place (length es)) (laid codes es fs))
      ∙ ap (drop (1 + p)) (from_mark codes es fs right.eight)
      ∙ past (30 ∷ []) (fs ++ (29 ∷ [])) 1 p refl

  pub bytes_laid : (p n : ℕ) → p + n ≤ length fs → part (laid codes es fs) (25 + 12 * length es + p) n ≡ part fs p n
  bytes_laid p n h =
      let long : n ≤ length (drop p fs) = rw (length-drop p fs) (omega arith) in
      ap (take n) (from_field p ∙ drop-append-le p fs (29 ∷ []) (omega arith)) ∙ take-append-le n (drop p fs) (29 ∷ []) long

  pub end_laid : get_or (laid codes es fs) (length (laid codes es fs) - 1) 0 ≡ 29
  end_laid =
      let q : length (laid codes es fs) - 1 ≡ 25 + 12 * length es + length fs = omega (arith, length-laid codes es fs right.eight) in
      ap (λ n. get_or (laid codes es fs) n 0) q
      ∙ byte_at (laid codes es fs) (25 + 12 * length es + length fs)
      ∙ ap (λ l. get_or l 0 0) (from_field (length fs) ∙ drop_at fs (29 ∷ []) (length fs) refl)

  pub base_laid : base (laid codes es fs) ≡ 25 + 12 * length es
  base_laid = base_at codes es fs right.eight right.short

  pub count_laid : entry_count (laid codes es fs) ≡ length es
  count_laid = count_at codes es fs right.eight right.short

  fits : (k : ℕ) → k < length es → Fits (extent_of es k)
  fits k within = All-get_or Fits es k no_extent within right.fit

  module _ (k : ℕ) (within : k < length es) where
    pub at_entry : drop (entry_place k) (laid codes es fs) ≡ entry (extent_of es k) (starts es k) ++ (directory (starts es k + (extent_of es k).size) (drop (k + 1) es) ++ after fs)
    at_entry = entry_at codes es fs right.eight k within

    pub tag_laid : entry_tag (laid codes es fs) k ≡ (extent_of es k).tag
    tag_laid = tag_at codes es fs right.eight k within (fits k within).small_tag

    pub size_laid : entry_size (laid codes es fs) k ≡ (extent_of es k).size
    size_laid = size_at codes es fs right.eight k within (fits k within).small_size

    pub start_laid : entry_start (laid codes es fs) k ≡ starts es k
    start_laid = start_at codes es fs right.eight k within (omega (arith, starts_within es k within))

    pub rule_laid : extent_rule (extent_of es k) (starts es k) ≡ true
    rule_laid = rule_when (extent_of es k) (starts es k) (fits k within) (omega (arith, starts_within es k within))

    -- where field k begins
    pub place_laid : field_place (laid codes es fs) k ≡ 25 + 12 * length es + starts es k
    place_laid = λ i. base_laid i + sizes_at codes es fs right.eight k (omega arith) (λ j l. (fits j (omega arith)).small_size) i

    -- field k is the bytes of its extent
    pub field_at : field_bytes (laid codes es fs) k ≡ part fs (starts es k) (extent_of es k).size
    field_at = (λ i. part (laid codes es fs) (place_laid i) (size_laid i)) ∙ bytes_laid (starts es k) (extent_of es k).size (omega (arith, starts_within es k within))
