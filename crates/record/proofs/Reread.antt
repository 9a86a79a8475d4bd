-- Codes, extents and bytes that were laid out are read back as they were. Assumes nothing.
use Rattle.std.proofs.Common.{◌≡◌, ℕ, zero, suc, ◌+◌, ◌-◌, ◌*◌, ◌<◌, List, [], ◌∷◌, ◌++◌, map, length, get_or, take, drop, sym, refl, ap, ◌∙◌, subst, append_assoc, le_refl, add-zero, zero-add, add-one, arith, length-append, length-drop, take-append-drop}
use mathlib.Core.List.{map-map}
use Rattle.std.specs.List.{range_with_len, All}
use Rattle.std.proofs.lemmas.List.FromFn.{fill_by_all, get_or-range_with_len, length-range_with_len}
use Rattle.std.proofs.lemmas.List.Elements.{All-from_get_or, All-map}
use Rattle.std.proofs.lemmas.List.{length-take-le, take_all, take_at}
use Rattle.record.specs.declared.extent.Extent.{Extent}
use Rattle.record.specs.Directory.{entry_place, entry_size}
use Rattle.record.specs.Extents.{extent_of, no_extent, starts}
use Rattle.record.specs.Figures.{part}
use Rattle.record.specs.Layout.{directory, entry, figure, laid, laid_length}
use Rattle.record.specs.Leader.{base, codes_of, entry_count}
use Rattle.record.specs.Reading.{PlacedField, contents_of, extent_read, extents_of, field_read, fields_from, fields_of, told_place}
use Rattle.record.proofs.Clamped.{part_bytes}
use Rattle.record.proofs.Decimals.{length_figure}
use Rattle.record.proofs.Extents.{starts_within}
use Rattle.record.proofs.Laid.{Right, at_entry, base_laid, bytes_laid, count_laid, length-laid, part_at, size_laid, start_laid, tag_laid}

-- the fields of a record, by number
fields_counted : (bs : List ℕ) (k n : ℕ) → fields_from bs k n ≡ map (field_read bs) (range_with_len k n)
unfolding fields_from
fields_counted bs k zero = refl
fields_counted bs k (suc n) = ap (λ l. field_read bs k ∷ l) (fields_counted bs (suc k) n ∙ ap (λ m. map (field_read bs) (range_with_len m n)) (sym (add-one k)))

-- what is told of each field, in their order
pub each_field : {Y : Type 0} (g : PlacedField → Y) (bs : List ℕ) (ys : List Y) (d : Y) → entry_count bs ≡ length ys → ((k : ℕ) → k < length ys → g (field_read bs k) ≡ get_or ys k d) → map g (fields_of bs) ≡ ys
each_field g bs ys d count same =
    ap (map g) (fields_counted bs 0 (entry_count bs))
    ∙ map-map g (field_read bs) (range_with_len 0 (entry_count bs))
    ∙ ap (λ n. map (λ k. g (field_read bs k)) (range_with_len 0 n)) count
    ∙ sym (fill_by_all (λ k. g (field_read bs k)) ys (length ys) d refl (λ k h. sym (same k h)))

-- what holds of each field
pub all_fields : (P : PlacedField → Type 0) (bs : List ℕ) → ((k : ℕ) → k < entry_count bs → P (field_read bs k)) → All P (fields_of bs)
all_fields P bs each =
    let n = entry_count bs in
    subst (All P) (sym (fields_counted bs 0 n))
    (All-map P (field_read bs) (range_with_len 0 n)
    (All-from_get_or (λ k. P (field_read bs k)) (range_with_len 0 n) 0
    (λ i h. let below : i < n = omega (arith, length-range_with_len 0 n) in rw (get_or-range_with_len 0 n i 0 below, zero-add) (each i below))))

-- what is read from codes, extents and bytes that were laid out
module _ (codes : List ℕ) (es : List Extent) (fs : List ℕ) (ok : Right codes es fs) where
  abbrev lay : List ℕ
  lay = laid codes es fs

  -- the codes stand in two parts of the leader
  two_parts : (part lay 5 5 ≡ take 5 codes) × (part lay 17 3 ≡ take 3 (drop 5 codes))
  unfolding laid
  two_parts =
      let len = laid_length es fs in
      let first = take 5 codes in
      let second = take 3 (drop 5 codes) in
      let between = 50 ∷ 50 ∷ figure 5 (25 + 12 * length es) in
      let rest = 52 ∷ 53 ∷ 48 ∷ 48 ∷ (directory 0 es ++ (30 ∷ (fs ++ (29 ∷ [])))) in
      let five : length first ≡ 5 = length-take-le 5 codes (omega arith) in
      let three : length second ≡ 3 = length-take-le 3 (drop 5 codes) (omega (arith, length-drop 5 codes)) in
      let a = part_at lay 0 (figure 5 len) first (between ++ (second ++ rest)) 5 5 (simp append_assoc) (length_figure 5 len) five in
      let b = part_at lay 0 (figure 5 len ++ (first ++ between)) second rest 17 3 (simp append_assoc) (simp (length-append, length_figure, five)) three in
      (a, b)

  pub codes_back : codes_of lay ≡ codes
  codes_back =
      let long = length-laid codes es fs ok.eight in
      let rest : take 3 (drop 5 codes) ≡ drop 5 codes = take_all 3 (drop 5 codes) (omega (arith, length-drop 5 codes)) in
      sym (λ i. part_bytes lay 5 5 (omega arith) i ++ part_bytes lay 17 3 (omega arith) i)
      ∙ (λ i. two_parts.0 i ++ (two_parts.1 ∙ rest) i)
      ∙ take-append-drop 5 codes

  pub extents_back : extents_of lay ≡ es
  extents_back = each_field extent_read lay es no_extent (count_laid codes es fs ok) (λ k h i. record { tag = tag_laid codes es fs ok k h i; size = size_laid codes es fs ok k h i })

  pub contents_back : contents_of lay ≡ fs
  contents_back =
      let size : length lay - base lay - 1 ≡ length fs = omega (arith, length-laid codes es fs ok.eight, base_laid codes es fs ok) in
      (λ i. part lay ((base_laid codes es fs ok ∙ sym (add-zero _)) i) (size i))
      ∙ bytes_laid codes es fs ok 0 (length fs) (omega arith)
      ∙ take_all (length fs) fs (le_refl (length fs))

  module _ (k : ℕ) (within : k < length es) where
    place_back : told_place lay k ≡ 25 + 12 * length es + starts es k
    place_back i = base_laid codes es fs ok i + start_laid codes es fs ok k within i

    pub bytes_back : part lay (told_place lay k) (entry_size lay k) ≡ part fs (starts es k) (extent_of es k).size
    bytes_back =
        (λ i. part lay (place_back i) (size_laid codes es fs ok k within i))
        ∙ bytes_laid codes es fs ok (starts es k) (extent_of es k).size (omega (arith, starts_within es k within))

    pub entry_back : part lay (entry_place k) 12 ≡ entry (extent_read (field_read lay k)) (told_place lay k - base lay)
    entry_back =
        let start : starts es k ≡ told_place lay k - base lay = omega (arith, start_laid codes es fs ok k within) in
        ap (take 12) (at_entry codes es fs ok k within)
        ∙ take_at (entry (extent_of es k) (starts es k)) _ 12 (simp (length-append, length_figure))
        ∙ (λ i. entry (record { tag = sym (tag_laid codes es fs ok k within) i; size = sym (size_laid codes es fs ok k within) i }) (start i))
