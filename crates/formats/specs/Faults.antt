-- What is wrong with a record in a format, 23 to 28, rule by rule. Assumes nothing.
use Rattle.std.specs.Prelude.{ℕ, ◌+◌, Bool, not, ◌&&◌, List, [], ◌∷◌, ◌++◌, slice_index}
use Rattle.std.specs.List.{flat_map}
use Rattle.record.specs.Leader.{code_positions}
use Rattle.record.specs.Reading.{Held, PlacedField, PlacedSubfield, subfields_held}
use Rattle.record.specs.Reading.Held.{bytes, coded}
use Rattle.record.specs.Rules.{over, rule}
use Rattle.rows.specs.declared.occurs.Occurs.{Occurs}
use Rattle.rows.specs.Sets.{has}
use Rattle.rows.specs.Table.{Table, only_once, present}
use Rattle.formats.specs.declared.faults.FormatFault.{FormatFault}
use Rattle.formats.specs.declared.faults.FormatFault.TheVariants as fault

-- 23: code i of the eight leader codes, at its position
abbrev pub code_fault : Table → List ℕ → ℕ → List FormatFault
code_fault M codes i = rule (M.leader (slice_index code_positions i) (slice_index codes i)) (fault.LeaderCode (slice_index code_positions i) (slice_index codes i))

abbrev pub leader_faults : Table → List ℕ → List FormatFault
leader_faults M codes = over (code_fault M codes) 0 8

-- 24: a tag, at its entry
abbrev pub tag_fault : Table → PlacedField → List FormatFault
tag_fault M f = rule (present (M.occurs f.tag)) (fault.Tag f.entry f.tag)

-- 25: an indicator, at its byte
abbrev pub indicator_fault : Table → ℕ → ℕ → ℕ → ℕ → List FormatFault
indicator_fault M tag place number code = rule (M.indicator tag number code) (fault.Indicator place tag number code)

-- the two of a field that begins at this place
abbrev pub indicators_held : Table → ℕ → ℕ → Held → List FormatFault
indicators_held M tag place (bytes bs) = []
indicators_held M tag place (coded i j ss) = indicator_fault M tag place 1 i ++ indicator_fault M tag (place + 1) 2 j

abbrev pub indicator_faults : Table → PlacedField → List FormatFault
indicator_faults M f = indicators_held M f.tag f.place f.holds

abbrev pub code_of : PlacedSubfield → ℕ
code_of s = s.subfield.code

-- 26: a subfield code, at its 1F
abbrev pub subfield_fault : Table → ℕ → PlacedSubfield → List FormatFault
subfield_fault M tag s = rule (present (M.subfield tag (code_of s))) (fault.Subfield s.place tag (code_of s))

abbrev pub subfield_faults : Table → PlacedField → List FormatFault
subfield_faults M f = flat_map (subfield_fault M f.tag) (subfields_held f.holds)

-- a tag or a code that is allowed once and came before
abbrev pub again : (ℕ → Occurs) → List ℕ → ℕ → Bool
again occurs before n = only_once (occurs n) && has before n

-- those of a list whose tag or code is allowed once and came before, in order
abbrev pub repeated : {A : Type 0} → (ℕ → Occurs) → (A → ℕ) → (A → FormatFault) → List ℕ → List A → List FormatFault
repeated occurs number fault before [] = []
repeated occurs number fault before (x ∷ xs) = rule (not (again occurs before (number x))) (fault x) ++ repeated occurs number fault (number x ∷ before) xs

-- 27: a second subfield of a code allowed once, at its 1F
abbrev pub second_subfield : ℕ → PlacedSubfield → FormatFault
second_subfield tag s = fault.RepeatedSubfield s.place tag (code_of s)

abbrev pub repeated_codes : Table → ℕ → List PlacedSubfield → List FormatFault
repeated_codes M tag ss = repeated (M.subfield tag) code_of (second_subfield tag) [] ss

abbrev pub repeated_subfields : Table → PlacedField → List FormatFault
repeated_subfields M f = repeated_codes M f.tag (subfields_held f.holds)

-- 28: a second field of a tag allowed once, at its entry
abbrev pub second_field : PlacedField → FormatFault
second_field f = fault.RepeatedField f.entry f.tag

abbrev pub repeated_fields : Table → List PlacedField → List FormatFault
repeated_fields M fs = repeated M.occurs (λ f. f.tag) second_field [] fs
