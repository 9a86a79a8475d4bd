-- Records with known answers. Assumes nothing.
use Rattle.std.specs.Prelude.{◌≡◌, ℕ, List, [], ◌∷◌, ◌++◌, take, codes, slice_set}
use Rattle.record.specs.Frame.{frame_faults}
use Rattle.record.specs.Layout.{layout}
use Rattle.record.specs.Parts.{Parts, Subfield}
use Rattle.record.specs.Parts.Field.{Data}
use Rattle.record.specs.Reading.{PlacedField, fields_of, parts_of}
use Rattle.record.specs.Reading.Held.{coded}
use Rattle.record.specs.Told.{told}

-- one field 185, with two blank indicators and $j abc, in 46 bytes
abbrev pub record_a : List ℕ
record_a = codes "00046nz   2200037n  4500185000800000" ++ (30 ∷ 32 ∷ 32 ∷ 31 ∷ (codes "jabc" ++ (30 ∷ 29 ∷ [])))

-- no field, in 26 bytes
abbrev pub no_field : List ℕ
no_field = codes "00026nz   2200025n  4500" ++ (30 ∷ 29 ∷ [])

-- $j abc
abbrev pub subfield_a : Subfield
subfield_a = record { code = 106; body = codes "abc" }

-- the parts of both
abbrev pub parts_a : Parts
parts_a = record { codes = codes "nz   n  "; fields = Data 185 32 32 (subfield_a ∷ []) ∷ [] }

abbrev pub parts_none : Parts
parts_none = record { codes = codes "nz   n  "; fields = [] }

-- the field of the first, where it stands
abbrev pub field_a : PlacedField
field_a = record { tag = 185; entry = 24; place = 37; size = 8; holds = coded 32 32 (record { place = 39; subfield = subfield_a } ∷ []) }

pub record KnownParts : Type 0 where
  pub read : parts_of record_a ≡ parts_a
  pub written : layout parts_a ≡ record_a
  pub placed : fields_of record_a ≡ field_a ∷ []
  pub none_read : parts_of no_field ≡ parts_none
  pub none_written : layout parts_none ≡ no_field

pub record KnownAnswers : Type 0 where
  pub one_field : told (frame_faults record_a) ≡ 0
  -- 00047 for its length
  pub long : told (frame_faults (slice_set record_a 4 55)) ≡ 1900000
  -- x for the 1F at byte 39
  pub no_mark : told (frame_faults (slice_set record_a 39 120)) ≡ 2100039
  pub none : told (frame_faults no_field) ≡ 0
  -- its first 25 bytes
  pub short : told (frame_faults (take 25 no_field)) ≡ 1800000
