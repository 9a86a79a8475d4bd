-- A record that is read and written anew keeps its bytes. Assumes nothing.
use Rattle.std.proofs.Common.{◌≡◌, ℕ, ◌≤◌, List, ◌++◌, map, length, drop, Ok, Err, sym, ap, ◌∙◌, arith, length-append}
use Rattle.record.specs.declared.extent.Extent.{Extent}
use Rattle.record.specs.declared.reading.Record.{Record}
use Rattle.record.specs.declared.writing.WriteFault.{WriteFault}
use Rattle.record.specs.Cursors.{bytes_in, fields_in}
use Rattle.record.specs.Layout.{laid}
use Rattle.record.specs.Leader.{codes_of}
use Rattle.record.specs.Reading.{contents_of, extent_read}
use Rattle.record.specs.Rules.{verdict}
use Rattle.record.specs.Trips.{Reads}
use Rattle.record.specs.Writing.{left_by, write_faults}
use Rattle.record.proofs.Verdicts.{none, value}
use Rattle.exports.specs.Copies.{Copies}
use Rattle.exports.specs.declared.copy.Uncopied.TheVariants.{Refused}

-- what `write` is given
module _ (bs : List ℕ) (x : Record) (is : Reads bs x) (codes : List ℕ) (es : List Extent) (fs : List ℕ) (codes_are : codes ≡ codes_of (bytes_in x)) (extents_are : es ≡ map extent_read (fields_in x)) (contents_are : fs ≡ contents_of (bytes_in x)) where
  same : laid codes es fs ≡ bs
  same =
      (λ i. laid (codes_are i) (extents_are i) (contents_are i))
      ∙ (λ i. laid (codes_of (is.bytes_are i)) (map extent_read (is.fields_are i)) (contents_of (is.bytes_are i)))
      ∙ is.written_back

  -- what it answers and leaves
  module _ (old new : List ℕ) where
    pub copied : (n : ℕ) → Ok n ≡ verdict (write_faults (laid codes es fs) old) (length (laid codes es fs)) → new ≡ left_by (Ok n) (laid codes es fs) old → Copies bs old (Ok n) new × (n ≤ length new)
    copied n answer buffer =
        let by : Ok n ≡ verdict (write_faults bs old) (length bs) = answer ∙ ap (λ l. verdict (write_faults l old) (length l)) same in
        let long : n ≡ length bs = value _ _ _ by in
        let whole : new ≡ bs ++ drop n old = buffer ∙ ap (λ l. l ++ drop (length l) old) same ∙ ap (λ m. bs ++ drop m old) (sym long) in
        ((none _ _ _ by, long, whole), omega (arith, ap length whole, length-append bs (drop n old)))

    pub refused : (f : WriteFault) → Err f ≡ verdict (write_faults (laid codes es fs) old) (length (laid codes es fs)) → new ≡ left_by (Err f) (laid codes es fs) old → Copies bs old (Err (Refused f)) new
    refused f answer buffer = (sym (answer ∙ ap (λ l. verdict (write_faults l old) (length l)) same), buffer)
