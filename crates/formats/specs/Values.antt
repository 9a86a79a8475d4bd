-- The six values that each fault of a record in a format carries, 0 where one is not used. Assumes nothing.
use Rattle.std.specs.Prelude.{ℕ}
use Rattle.record.specs.declared.faults.Layer.TheVariants as layer
use Rattle.record.specs.declared.faults.Values.{Values}
use Rattle.record.specs.Values as frame
use Rattle.formats.specs.declared.faults.FormatFault.{FormatFault}
use Rattle.formats.specs.declared.faults.FormatFault.TheVariants.{Frame, LeaderCode, Tag, Indicator, Subfield, RepeatedSubfield, RepeatedField}

abbrev pub format_values : ℕ → ℕ → ℕ → ℕ → ℕ → Values
format_values number place tag indicator code = record { number = number; layer = layer.Format; place = place; tag = tag; indicator = indicator; code = code }

-- a fault of the frame keeps the frame's values
abbrev pub values_of : FormatFault → Values
values_of (Frame f) = frame.values_of f
values_of (LeaderCode p c) = format_values 23 p 0 0 c
values_of (Tag p t) = format_values 24 p t 0 0
values_of (Indicator p t i c) = format_values 25 p t i c
values_of (Subfield p t c) = format_values 26 p t 0 c
values_of (RepeatedSubfield p t c) = format_values 27 p t 0 c
values_of (RepeatedField p t) = format_values 28 p t 0 0
