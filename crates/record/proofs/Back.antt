-- The frame of what is laid out from well-formed parts holds. Assumes nothing.
use Rattle.std.proofs.Common.{◌≡◌, ℕ, zero, suc, ◌+◌, ◌*◌, ◌<◌, ◌≤◌, true, List, [], ◌∷◌, map, length, get_or, take, sym, refl, ap, ◌∙◌, arith, length-append}
use lib.ListN.{length-map}
use Rattle.std.specs.List.{All}
use Rattle.std.proofs.lemmas.List.Elements.{All-cons, All-get_or, All-head, All-nil, All-tail}
use Rattle.std.proofs.lemmas.List.{get_or-map, length_push, take_at}
use Rattle.std.proofs.lemmas.Bool.{and_from, eq-eqb, le-leb}
use Rattle.record.specs.declared.extent.Extent.{Extent}
use Rattle.record.specs.Classes.{code_character}
use Rattle.record.specs.Contents.{field_faults}
use Rattle.record.specs.Extents.{extent_of, no_extent, starts, total}
use Rattle.record.specs.Figures.{part}
use Rattle.record.specs.Formed.{Formed, FormedField, LaidOut}
use Rattle.record.specs.Frame.{Framed, frame_faults}
use Rattle.record.specs.Layout.{extent, field_laid, fields_laid, laid_length}
use Rattle.record.specs.Parts.{Field, Parts, tag_of}
use Rattle.record.specs.Parts.Field.{Control, Data}
use Rattle.record.specs.PartsFaults.{code_faults, content_faults, extent_faults, length_faults, parts_faults}
use Rattle.record.proofs.Extents.{Fits}
use Rattle.record.proofs.Grammar.{field_holds}
use Rattle.record.proofs.Judged.{framed_when}
use Rattle.record.proofs.Laid.{Right, length-laid, past, rule_laid}
use Rattle.record.proofs.Ranges.{clear}
use Rattle.record.proofs.Verdicts.{skip, unbroken}

field_fits : (f : Field) → FormedField f → length (field_laid f) ≤ 9999 → Fits (extent f)
field_fits (Control tag bs) (low, high, text) h =
    record { some_tag = low; small_tag = omega arith; some_size = omega (arith, length_push bs 30); small_size = omega arith }
field_fits (Data tag i j ss) (low, high, first, second, some, ok) h =
    record { some_tag = omega arith; small_tag = omega arith; some_size = omega arith; small_size = omega arith }

fields_fit : (fs : List Field) → All FormedField fs → All (λ f. length (field_laid f) ≤ 9999) fs → All Fits (map extent fs)
fields_fit [] ok h = All-nil Fits
fields_fit (f ∷ fs) ok h =
    let short = λ (g : Field). length (field_laid g) ≤ 9999 in
    All-cons Fits (extent f) (map extent fs)
    (field_fits f (All-head FormedField f fs ok) (All-head short f fs h))
    (fields_fit fs (All-tail FormedField f fs ok) (All-tail short f fs h))

pub length_fields : (fs : List Field) → total (map extent fs) ≡ length (fields_laid fs)
length_fields [] = refl
length_fields (f ∷ fs) = ap (λ n. length (field_laid f) + n) (length_fields fs) ∙ sym (length-append (field_laid f) (fields_laid fs))

-- field k
abbrev pub field : List Field → ℕ → Field
field fs k = get_or fs k (Control 0 [])

-- its bytes, from its start on
pub field_part : (fs : List Field) (k : ℕ) → k < length fs → part (fields_laid fs) (starts (map extent fs) k) (length (field_laid (field fs k))) ≡ field_laid (field fs k)
field_part [] k h = absurd (omega arith)
field_part (f ∷ fs) zero h = take_at (field_laid f) (fields_laid fs) (length (field_laid f)) refl
field_part (f ∷ fs) (suc k) h = ap (take (length (field_laid (field fs k)))) (past (field_laid f) (fields_laid fs) (length (field_laid f)) (starts (map extent fs) k) refl) ∙ field_part fs k (omega arith)

field_clear : (f : Field) → FormedField f → (place : ℕ) → field_faults (tag_of f) (field_laid f) place ≡ []
unfolding field_faults
field_clear f ok place = clear _ (length (field_laid f)) (λ i h. unbroken _ _ (field_holds f ok i h))

module _ (r : Parts) (ok : Formed r) where
  abbrev es : List Extent
  es = map extent r.fields

  abbrev bytes : List ℕ
  bytes = fields_laid r.fields

  pub right : Right r.codes es bytes
  right = record {
    eight = ok.eight;
    codes_are = ok.codes_are;
    fit = fields_fit r.fields ok.fields_are ok.fields_fit;
    sum = length_fields r.fields;
    short = omega (arith, length-laid r.codes es bytes ok.eight);
  }

  contents_clear : (k : ℕ) → k < length es → content_faults es bytes k ≡ []
  contents_clear k within =
      let h : k < length r.fields = rw length-map at within in
      let f = field r.fields k in
      let place = 25 + 12 * length es + starts es k in
      let same : extent_of es k ≡ extent f = get_or-map extent r.fields k (Control 0 []) no_extent h in
      ap (λ e. field_faults e.tag (part bytes (starts es k) e.size) place) same
      ∙ ap (λ l. field_faults (tag_of f) l place) (field_part r.fields k h)
      ∙ field_clear f (All-get_or FormedField r.fields k (Control 0 []) h ok.fields_are) place

  faultless : parts_faults r.codes es bytes ≡ []
  unfolding parts_faults
  faultless =
      let long : length_faults es bytes ≡ [] = unbroken _ _ (and_from _ _ (le-leb 26 (laid_length es bytes) (omega arith)) (le-leb (laid_length es bytes) 99999 right.short)) in
      let coded = clear (code_faults r.codes) 8 (λ i h. unbroken _ _ (All-get_or (λ c. code_character c ≡ true) r.codes i 0 (omega (arith, ok.eight)) ok.codes_are)) in
      let fit = clear (extent_faults es) (length es) (λ k h. unbroken _ _ (rule_laid r.codes es bytes right k h)) in
      let sum = unbroken _ _ (eq-eqb (total es) (length bytes) right.sum) in
      skip _ long ∙ skip _ coded ∙ skip _ fit ∙ skip _ sum ∙ clear (content_faults es bytes) (length es) contents_clear

pub laid_framed : (bs : List ℕ) → LaidOut bs → Framed bs
laid_framed bs l = ap frame_faults l.end_to_end ∙ framed_when l.parts.codes _ _ l.formed.eight (faultless l.parts l.formed)
