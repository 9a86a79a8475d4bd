-- A check of a format's record: a fault of the frame comes first, then those of codes and fields, whose places stand in the record. Assumes nothing.
use Rattle.std.proofs.Common.{◌≡◌, ℕ, ◌<◌, List, [], ◌∷◌, ◌++◌, map, length, drop, Err, Ok, sym, ap, ◌∙◌, subst, arith, length-append, length-drop, length-take}
use Rattle.std.specs.List.{All}
use Rattle.std.proofs.lemmas.List.Elements.{All-weaker}
use Rattle.record.specs.declared.faults.FrameFault.{FrameFault}
use Rattle.record.specs.declared.reading.Record.{Record}
use Rattle.record.specs.Cursors.{bytes_in, fields_in}
use Rattle.record.specs.Frame.{Framed, frame_faults}
use Rattle.record.specs.Layout.{field_laid}
use Rattle.record.specs.Leader.{codes_of}
use Rattle.record.specs.Parts.{Field}
use Rattle.record.specs.Parts.Field.{Control, Data}
use Rattle.record.specs.Reading.{PlacedField, bare, fields_of}
use Rattle.record.specs.Rules.{Verdict, verdict}
use Rattle.record.specs.Trips.{Reads, Stands}
use Rattle.record.proofs.Verdicts.{refused}
use Rattle.rows.specs.Table.{Table}
use Rattle.formats.specs.declared.faults.FormatFault.{FormatFault}
use Rattle.formats.specs.declared.faults.FormatFault.TheVariants.{Frame}
use Rattle.formats.specs.Accepts.{format_faults, parts_faults}

module _ {X : Type 0} (P : X → Type 0) where
  -- the first of the frame's faults is the first of all
  framed_first : (fs : List FrameFault) (rest : List FormatFault) (f : FrameFault) → Verdict fs P (Err f) → Verdict (map Frame fs ++ rest) P (Err (Frame f))
  framed_first [] rest f h = absurd h
  framed_first (g ∷ fs) rest f h = ap Frame h

module _ (M : Table) (bs : List ℕ) where
  -- where the frame holds, the faults of codes and fields are left
  left : Framed bs → format_faults M bs ≡ parts_faults M (codes_of bs) (fields_of bs)
  unfolding format_faults
  left framed = ap (λ l. map Frame l ++ parts_faults M (codes_of bs) (fields_of bs)) framed

  module _ {X : Type 0} (P : X → Type 0) where
    pub refused_frame : (f : FrameFault) → Verdict (frame_faults bs) P (Err f) → Verdict (format_faults M bs) P (Err (Frame f))
    unfolding format_faults
    refused_frame f h = framed_first P (frame_faults bs) (parts_faults M (codes_of bs) (fields_of bs)) f h

    pub refused_parts : {Y : Type 0} (y : Y) (f : FormatFault) → Framed bs → Err f ≡ verdict (parts_faults M (codes_of bs) (fields_of bs)) y → Verdict (format_faults M bs) P (Err f)
    refused_parts y f framed e = refused P (format_faults M bs) y f (e ∙ ap (λ l. verdict l y) (sym (left framed)))

    pub accepted : Framed bs → parts_faults M (codes_of bs) (fields_of bs) ≡ [] → (x : X) → P x → Verdict (format_faults M bs) P (Ok x)
    accepted framed none x h = subst (λ l. Verdict l P (Ok x)) (sym (left framed ∙ none)) h

-- a field has at least the 1E that ends it
some_bytes : (f : Field) → 0 < length (field_laid f)
some_bytes (Control t bs) = omega (arith, length-append bs (30 ∷ []))
some_bytes (Data t i j ss) = omega arith

-- so it begins before the record ends
within : (bs : List ℕ) (f : PlacedField) → length bs < 100000 → Stands bs f → f.place < 100000
within bs f short s =
    let same = ap length s.field_stands in
    let some = some_bytes (bare f) in
    let long = length-take f.size (drop f.place bs) in
    let more = length-drop f.place bs in
    omega arith

places : (bs : List ℕ) → length bs < 100000 → All (Stands bs) (fields_of bs) → All (λ f. f.place < 100000) (fields_of bs)
places bs short stand = All-weaker (Stands bs) (λ f. f.place < 100000) (λ f s. within bs f short s) (fields_of bs) stand

-- the places of the fields of a record that was read, as its cursor has them
pub read_places : (bs : List ℕ) (r : Record) (fs : List PlacedField) → Reads bs r → fs ≡ fields_in r → All (λ f. f.place < 100000) fs
read_places bs r fs s e =
    let same = ap length s.back in
    subst (All (λ f. f.place < 100000)) (sym (e ∙ s.fields_are)) (places bs (omega (arith, same, s.formed.fits)) s.stand)

-- codes and fields, as they are handed to the checks
pub handed : (M : Table) (bs : List ℕ) (r : Record) (codes : List ℕ) (fs : List PlacedField) → Reads bs r → codes ≡ codes_of (bytes_in r) → fs ≡ fields_in r → parts_faults M codes fs ≡ parts_faults M (codes_of bs) (fields_of bs)
handed M bs r codes fs s c f = λ i. parts_faults M ((c ∙ ap codes_of s.bytes_are) i) ((f ∙ s.fields_are) i)
