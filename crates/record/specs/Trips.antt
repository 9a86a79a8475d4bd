-- Reading and writing undo one another, and each element stands where its place says. Assumes nothing.
use Rattle.std.specs.Prelude.{◌≡◌, ℕ, ◌+◌, ◌-◌, List, ◌∷◌, map, length}
use Rattle.std.specs.List.{All}
use Rattle.record.specs.declared.extent.Extent.{Extent}
use Rattle.record.specs.declared.reading.Record.{Record}
use Rattle.record.specs.Cursors.{bytes_in, fields_in}
use Rattle.record.specs.Figures.{part}
use Rattle.record.specs.Formed.{Formed}
use Rattle.record.specs.Frame.{Framed}
use Rattle.record.specs.Layout.{entry, extent, field_laid, fields_laid, laid, layout}
use Rattle.record.specs.Leader.{base, codes_of}
use Rattle.record.specs.Parts.{Parts}
use Rattle.record.specs.Reading.{Held, PlacedField, PlacedSubfield, bare, contents_of, extent_read, extents_of, fields_of, parts_of}
use Rattle.record.specs.Reading.Held.{bytes, coded}

-- 1F, code and data stand at the place of the subfield
abbrev pub SubfieldStands : List ℕ → PlacedSubfield → Type 0
SubfieldStands bs s = part bs s.place (2 + length s.subfield.body) ≡ 31 ∷ s.subfield.code ∷ s.subfield.body

abbrev pub SubfieldsStand : List ℕ → Held → Type 0
SubfieldsStand bs (bytes _) = Unit {0}
SubfieldsStand bs (coded i j ss) = All (SubfieldStands bs) ss

-- entry, field and subfields stand at their places
pub record Stands (bs : List ℕ) (f : PlacedField) : Type 0 where
  pub entry_stands : part bs f.entry 12 ≡ entry (extent_read f) (f.place - base bs)
  pub field_stands : part bs f.place f.size ≡ field_laid (bare f)
  pub subfields_stand : SubfieldsStand bs f.holds

-- what is read from a record whose frame holds
pub record Reads (bs : List ℕ) (r : Record) : Type 0 where
  pub framed : Framed bs
  pub bytes_are : bytes_in r ≡ bs
  pub fields_are : fields_in r ≡ fields_of bs
  -- its parts are well-formed, are laid out to the same bytes, and are the only such parts
  pub formed : Formed (parts_of bs)
  pub back : layout (parts_of bs) ≡ bs
  pub only : (p : Parts) → Formed p → layout p ≡ bs → p ≡ parts_of bs
  -- what `write` is given to write it back
  pub written_back : laid (codes_of bs) (extents_of bs) (contents_of bs) ≡ bs
  pub stand : All (Stands bs) (fields_of bs)

-- codes, extents and bytes that are those of parts
pub record OfParts (p : Parts) (codes : List ℕ) (es : List Extent) (fs : List ℕ) : Type 0 where
  pub codes_are : codes ≡ p.codes
  pub extents_are : es ≡ map extent p.fields
  pub contents_are : fs ≡ fields_laid p.fields

-- what is read from a record that was written from codes, extents and bytes
pub record ReadBack (codes : List ℕ) (es : List Extent) (fs bs : List ℕ) : Type 0 where
  pub framed : Framed bs
  pub codes_are : codes_of bs ≡ codes
  pub extents_are : extents_of bs ≡ es
  pub contents_are : contents_of bs ≡ fs
  pub parts_are : (p : Parts) → Formed p → OfParts p codes es fs → parts_of bs ≡ p
