-- A record that is laid out has the first fault of its parts. Assumes nothing.
use Rattle.std.proofs.Common.{◌≡◌, ℕ, ◌+◌, ◌-◌, ◌<◌, ◌≤◌, true, ◌&&◌, eqb, List, [], ◌++◌, length, get_or, ap, ◌∙◌, append_assoc, append-nil, le_refl, arith}
use Rattle.std.proofs.lemmas.List.Elements.{All-from_get_or}
use Rattle.std.proofs.lemmas.Bool.{eq-eqb}
use Rattle.std.proofs.lemmas.Bool.Decides.{nat_tests}
use Rattle.record.specs.declared.extent.Extent.{Extent}
use Rattle.record.specs.declared.faults.FrameFault.TheVariants.{Length, Entry, DirectoryEnd, RecordEnd}
use Rattle.record.specs.Classes.{code_character, within}
use Rattle.record.specs.Contents.{faults_of, field_faults, fields_faults}
use Rattle.record.specs.Directory.{directory_end_faults, directory_faults, entry_faults, entry_place, sizes_before, starts_at}
use Rattle.record.specs.Extents.{extent_of, no_extent, starts, total}
use Rattle.record.specs.Frame.{Framed, end_faults, frame_faults}
use Rattle.record.specs.Layout.{laid, laid_length}
use Rattle.record.specs.Leader.{base, entry_count}
use Rattle.record.specs.PartsFaults.{code_faults, content_faults, extent_faults, length_faults, parts_faults, sum_faults}
use Rattle.record.specs.Rules.{over, rule, verdict}
use Rattle.record.proofs.Extents.{Fits, fits_when, starts_all}
use Rattle.record.proofs.Faultless.{faultless, fills, fits, short_enough}
use Rattle.record.proofs.Laid.{Right, base_at, count_at, count_laid, end_laid, field_at, leader_at, length-laid, mark_at, place_laid, rule_at, sizes_at, tag_laid}
use Rattle.record.proofs.Ranges.{agree, every}
use Rattle.record.proofs.Verdicts.{alike, holds, none_alike}

-- extents without faults fit
fits_of : (es : List Extent) → over (extent_faults es) 0 (length es) ≡ [] → (k : ℕ) → k < length es → Fits (extent_of es k)
fits_of es e k h = fits_when (extent_of es k) (starts es k) (fits es e k h)

module _ (codes : List ℕ) (es : List Extent) (fs : List ℕ) (eight : length codes ≡ 8) where
  -- parts without the faults 18 to 20
  right_from : length_faults es fs ≡ [] → over (code_faults codes) 0 8 ≡ [] → over (extent_faults es) 0 (length es) ≡ [] → sum_faults es fs ≡ [] → Right codes es fs
  right_from long coded fit sum = record {
    eight = eight;
    codes_are = All-from_get_or (λ c. code_character c ≡ true) codes 0 (λ i h. holds _ _ (every (code_faults codes) 8 coded i (omega arith)));
    fit = All-from_get_or Fits es no_extent (fits_of es fit);
    sum = fills es fs sum;
    short = short_enough es fs long;
  }

  end_judged : laid_length es fs ≤ 99999 → over (extent_faults es) 0 (length es) ≡ [] → directory_end_faults (laid codes es fs) ≡ sum_faults es fs
  end_judged low fit =
      let lay = laid codes es fs in
      let count = count_at codes es fs eight low in
      let sizes : sizes_before lay (length es) ≡ total es = sizes_at codes es fs eight (length es) (le_refl (length es)) (λ j h. (fits_of es fit j h).small_size) ∙ starts_all es (length es) (le_refl (length es)) in
      let mark : eqb (get_or lay (entry_place (length es)) 0) 30 ≡ true = eq-eqb _ 30 (mark_at codes es fs eight) in
      let place = base_at codes es fs eight low in
      let long = length-laid codes es fs eight in
      let same : eqb (base lay + sizes_before lay (length es) + 1) (length lay) ≡ eqb (total es) (length fs) = grind (arith, nat_tests) in
      ap (λ n. rule (eqb (get_or lay (entry_place n) 0) 30 && eqb (base lay + sizes_before lay n + 1) (length lay)) (DirectoryEnd (entry_place n))) count
      ∙ (λ i. rule (mark i && same i) (DirectoryEnd (entry_place (length es))))

  module _ {X : Type 0} (x : X) where
    entries_judged : laid_length es fs ≤ 99999 → verdict (over (entry_faults (laid codes es fs)) 0 (entry_count (laid codes es fs))) x ≡ verdict (over (extent_faults es) 0 (length es)) x
    entries_judged low =
        let lay = laid codes es fs in
        ap (λ n. verdict (over (entry_faults lay) 0 n) x) (count_at codes es fs eight low)
        ∙ agree (entry_faults lay) (extent_faults es) x (length es) (λ k h before.
        let sizes = sizes_at codes es fs eight k (omega arith) (λ j l. (fits_when (extent_of es j) (starts es j) (holds _ _ (before j l))).small_size) in
        ap (λ t. rule t (Entry (entry_place k))) (ap (starts_at lay k) sizes ∙ rule_at codes es fs eight k h))

    fields_judged : Right codes es fs → verdict (fields_faults (laid codes es fs)) x ≡ verdict (over (content_faults es fs) 0 (length es)) x
    unfolding fields_faults
    fields_judged right =
        let lay = laid codes es fs in
        ap (λ n. verdict (over (faults_of lay) 0 n) x) (count_laid codes es fs right)
        ∙ agree (faults_of lay) (content_faults es fs) x (length es) (λ k h before.
        λ i. field_faults (tag_laid codes es fs right k h i) (field_at codes es fs right k h i) (place_laid codes es fs right k h i))

    pub judged : verdict (frame_faults (laid codes es fs)) x ≡ verdict (parts_faults codes es fs) x
    unfolding frame_faults directory_faults parts_faults
    judged =
        let lay = laid codes es fs in
        let entries = over (entry_faults lay) 0 (entry_count lay) in
        alike _ _ _ _ x (ap (λ n. verdict (rule (within 26 99999 n) Length) x) (length-laid codes es fs eight)) (λ long.
        alike _ _ _ _ x (ap (λ l. verdict l x) (leader_at codes es fs eight (short_enough es fs long))) (λ coded.
        ap (λ l. verdict l x) (append_assoc entries (directory_end_faults lay) (fields_faults lay ++ end_faults lay))
        ∙ alike _ _ _ _ x (entries_judged (short_enough es fs long)) (λ fit.
        alike _ _ _ _ x (ap (λ l. verdict l x) (end_judged (short_enough es fs long) fit)) (λ sum.
        let right = right_from long coded fit sum in
        ap (λ t. verdict (fields_faults lay ++ rule t (RecordEnd (length lay - 1))) x) (eq-eqb _ 29 (end_laid codes es fs right))
        ∙ ap (λ l. verdict l x) (append-nil (fields_faults lay))
        ∙ fields_judged right))))

-- what parts without a fault say, and that the frame of their record holds
module _ (codes : List ℕ) (es : List Extent) (fs : List ℕ) (eight : length codes ≡ 8) where
  pub framed_when : parts_faults codes es fs ≡ [] → Framed (laid codes es fs)
  framed_when = none_alike {X = ℕ} _ _ 0 (judged codes es fs eight 0)

  pub right_when : parts_faults codes es fs ≡ [] → Right codes es fs
  right_when none = let f = faultless codes es fs none in right_from codes es fs eight f.length_none f.codes_none f.extents_none f.sum_none
