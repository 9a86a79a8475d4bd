-- The faults of a record in a format, and that a format accepts a record without faults. Assumes nothing.
use Rattle.std.specs.Prelude.{◌≡◌, ℕ, List, [], ◌++◌, map}
use Rattle.std.specs.List.{flat_map}
use Rattle.record.specs.Frame.{frame_faults}
use Rattle.record.specs.Leader.{codes_of}
use Rattle.record.specs.Reading.{PlacedField, fields_of}
use Rattle.rows.specs.Table.{Table}
use Rattle.formats.specs.declared.faults.FormatFault.{FormatFault}
use Rattle.formats.specs.declared.faults.FormatFault.TheVariants.{Frame}
use Rattle.formats.specs.Faults.{indicator_faults, leader_faults, repeated_fields, repeated_subfields, subfield_faults, tag_fault}

-- 23 to 28, by number and then by place, of a record with these codes and fields
abbrev pub parts_faults : Table → List ℕ → List PlacedField → List FormatFault
parts_faults M codes fs =
    leader_faults M codes
    ++ (flat_map (tag_fault M) fs
    ++ (flat_map (indicator_faults M) fs
    ++ (flat_map (subfield_faults M) fs
    ++ (flat_map (repeated_subfields M) fs
    ++ repeated_fields M fs))))

-- first those of the frame, 18 to 22
unfoldable pub format_faults : Table → List ℕ → List FormatFault
format_faults M bs = map Frame (frame_faults bs) ++ parts_faults M (codes_of bs) (fields_of bs)

abbrev pub Accepts : Table → List ℕ → Type 0
Accepts M bs = format_faults M bs ≡ []
