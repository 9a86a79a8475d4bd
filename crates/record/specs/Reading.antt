-- Bytes into parts: the fields and subfields that stand in a record, each with its place. Assumes nothing.
use Rattle.std.specs.Prelude.{ℕ, zero, suc, ◌+◌, ◌-◌, cond, List, [], ◌∷◌, map, length, take, drop, ◌==◌, nat_lt, slice_index}
use Rattle.record.specs.declared.extent.Extent.{Extent}
use Rattle.record.specs.Directory.{entry_place, entry_size, entry_start, entry_tag}
use Rattle.record.specs.Figures.{part}
use Rattle.record.specs.Leader.{base, codes_of, entry_count}
use Rattle.record.specs.Parts.{Field, Parts, Subfield}
use Rattle.record.specs.Parts.Field.{Control, Data}

-- a subfield, and the place of its 1F
pub record PlacedSubfield : Type 0 where
  pub place : ℕ
  pub subfield : Subfield

-- the bytes before the next 1F
abbrev pub piece : List ℕ → List ℕ
piece [] = []
piece (b ∷ bs) = cond (b == 31) [] (b ∷ piece bs)

-- what stands after a 1F: a code, and data up to the next 1F
abbrev pub subfield_in : List ℕ → Subfield
subfield_in bs = record { code = slice_index (piece bs) 0; body = drop 1 (piece bs) }

-- the subfields in bytes that begin at p: one for each 1F
abbrev pub subfields_in : ℕ → List ℕ → List PlacedSubfield
subfields_in p [] = []
subfields_in p (b ∷ bs) = cond (b == 31) (record { place = p; subfield = subfield_in bs } ∷ subfields_in (p + 1) bs) (subfields_in (p + 1) bs)

-- what a field holds: bytes, or two indicators and subfields
pub data Held : Type 0 where
  bytes : List ℕ → Held
  coded : ℕ → ℕ → List PlacedSubfield → Held

-- the subfields that it holds; a control field has none
abbrev pub subfields_held : Held → List PlacedSubfield
subfields_held (bytes bs) = []
subfields_held (coded i j ss) = ss

-- what a field with this tag holds that begins at p, without the 1E that ends it
abbrev pub held : ℕ → ℕ → List ℕ → Held
held tag p bs =
    cond (nat_lt tag 10) (bytes (take (length bs - 1) bs))
    (coded (slice_index bs 0) (slice_index bs 1) (subfields_in (p + 2) (drop 2 (take (length bs - 1) bs))))

-- a field with its tag, the place of its entry, its own place and its length
pub record PlacedField : Type 0 where
  pub tag : ℕ
  pub entry : ℕ
  pub place : ℕ
  pub size : ℕ
  pub holds : Held

-- where entry k says that its field begins
abbrev pub told_place : List ℕ → ℕ → ℕ
told_place bs k = base bs + entry_start bs k

-- the field of entry k
abbrev pub field_read : List ℕ → ℕ → PlacedField
field_read bs k = record {
  tag = entry_tag bs k;
  entry = entry_place k;
  place = told_place bs k;
  size = entry_size bs k;
  holds = held (entry_tag bs k) (told_place bs k) (part bs (told_place bs k) (entry_size bs k));
}

-- the fields of n entries from entry k on
unfoldable pub fields_from : List ℕ → ℕ → ℕ → List PlacedField
fields_from bs k zero = []
fields_from bs k (suc n) = field_read bs k ∷ fields_from bs (suc k) n

abbrev pub fields_of : List ℕ → List PlacedField
fields_of bs = fields_from bs 0 (entry_count bs)

-- a field without its places
abbrev pub without_places : ℕ → Held → Field
without_places tag (bytes bs) = Control tag bs
without_places tag (coded i j ss) = Data tag i j (map (λ s. s.subfield) ss)

abbrev pub bare : PlacedField → Field
bare f = without_places f.tag f.holds

-- the parts of a record: its leader codes and its fields
abbrev pub parts_of : List ℕ → Parts
parts_of bs = record { codes = codes_of bs; fields = map bare (fields_of bs) }

-- the tag and the length of a field
abbrev pub extent_read : PlacedField → Extent
extent_read f = record { tag = f.tag; size = f.size }

abbrev pub extents_of : List ℕ → List Extent
extents_of bs = map extent_read (fields_of bs)

-- the bytes of the fields, end to end
abbrev pub contents_of : List ℕ → List ℕ
contents_of bs = part bs (base bs) (length bs - base bs - 1)
