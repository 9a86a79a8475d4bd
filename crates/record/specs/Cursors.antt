-- What the cursors over a record hand out, and what is left for them. Assumes nothing.
use Rattle.std.specs.Prelude.{ℕ, ◌-◌, List, drop, Option}
use Rattle.std.specs.Iterator.{YieldsFirstBy}
use Rattle.record.specs.declared.fields.Content.{Content}
use Rattle.record.specs.declared.fields.Content.TheVariants.{Control, Data}
use Rattle.record.specs.declared.fields.Field.{Field}
use Rattle.record.specs.declared.fields.Fields.{Fields}
use Rattle.record.specs.declared.reading.Record.{Record}
use Rattle.record.specs.declared.subfields.Subfield.{Subfield}
use Rattle.record.specs.declared.subfields.Subfields.{Subfields}
use Rattle.record.specs.Reading.{Held, PlacedField, PlacedSubfield, fields_from, subfields_in}
use Rattle.record.specs.Reading.Held.{bytes, coded}

-- a subfield that was handed out, as it stands in the record
abbrev pub seen_subfield : Subfield → PlacedSubfield
seen_subfield s = record { place = s.place; subfield = record { code = s.code; body = s.body.now } }

-- the subfields that are still to come
abbrev pub subfields_left : Subfields → List PlacedSubfield
subfields_left s = subfields_in s.place (drop s.place s.bytes.now)

abbrev pub seen_content : Content → Held
seen_content (Control bs) = bytes bs.now
seen_content (Data i j s) = coded i j (subfields_left s)

-- a field that was handed out
abbrev pub seen_field : Field → PlacedField
seen_field f = record { tag = f.tag; entry = f.entry; place = f.place; size = f.size; holds = seen_content f.content }

-- the fields that are still to come
abbrev pub fields_left : Fields → List PlacedField
fields_left f = fields_from f.bytes.now f.next (f.entries - f.next)

-- the bytes of a record that is read, and the fields of its entries
abbrev pub bytes_in : Record → List ℕ
bytes_in r = r.bytes.now

abbrev pub fields_in : Record → List PlacedField
fields_in r = fields_from r.bytes.now 0 r.frame.entries

-- one step of a cursor: it hands out the first of what is left, or nothing is left
abbrev pub SubfieldStep : Subfields → Option Subfield → Subfields → Type 0
SubfieldStep = YieldsFirstBy seen_subfield subfields_left

abbrev pub FieldStep : Fields → Option Field → Fields → Type 0
FieldStep = YieldsFirstBy seen_field fields_left
