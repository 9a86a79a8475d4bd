-- The six values that each fault of the frame carries. Assumes nothing.
use Rattle.std.specs.Prelude.{ℕ}
use Rattle.record.specs.declared.faults.FrameFault.{FrameFault}
use Rattle.record.specs.declared.faults.FrameFault.TheVariants.{Length, Leader, Entry, DirectoryEnd, Field, RecordEnd}
use Rattle.record.specs.declared.faults.Layer.{Layer}
use Rattle.record.specs.declared.faults.Layer.TheVariants as layer
use Rattle.record.specs.declared.faults.Values.{Values}

-- a refusal that has a number and a place, and leaves tag, indicator and code at 0
abbrev pub values_at : Layer → ℕ → ℕ → Values
values_at l n p = record { number = n; layer = l; place = p; tag = 0; indicator = 0; code = 0 }

-- the frame tells a number and a place
abbrev pub frame_values : ℕ → ℕ → Values
frame_values n p = values_at layer.Frame n p

abbrev pub values_of : FrameFault → Values
values_of Length = frame_values 18 0
values_of (Leader p) = frame_values 19 p
values_of (Entry p) = frame_values 20 p
values_of (DirectoryEnd p) = frame_values 20 p
values_of (Field p) = frame_values 21 p
values_of (RecordEnd p) = frame_values 22 p
