-- What a call of write answers, and what its buffer then holds. Assumes nothing.
use Rattle.std.specs.Prelude.{ℕ, Bool, ◌||◌, List, ◌++◌, map, length, drop, Ok, Err, Result, codes, ◌==◌, nat_le}
use Rattle.record.specs.declared.faults.Layer.TheVariants.{Job}
use Rattle.record.specs.declared.faults.Values.{Values}
use Rattle.record.specs.declared.writing.WriteFault.{WriteFault}
use Rattle.record.specs.declared.writing.WriteFault.TheVariants.{Frame, ShortBuffer}
use Rattle.record.specs.Classes.{within}
use Rattle.record.specs.Frame.{frame_faults}
use Rattle.record.specs.Rules.{rule, verdict}
use Rattle.record.specs.Values.{values_at, values_of}
use Rattle.record.specs.Words.{words_of}

-- a fault of the frame has the frame's values, a short buffer only its number
abbrev pub write_values : WriteFault → Values
write_values (Frame f) = values_of f
write_values ShortBuffer = values_at Job 29 0

-- a fault of the frame in the frame's words
abbrev pub write_words : WriteFault → List ℕ
write_words (Frame f) = words_of f
write_words ShortBuffer = codes "no room for a record"

-- the faults of writing a record into a buffer: those of its frame, and then 29
abbrev pub write_faults : List ℕ → List ℕ → List WriteFault
write_faults bs old = map Frame (frame_faults bs) ++ rule (nat_le (length bs) (length old)) ShortBuffer

-- what is answered of a record whose frame holds: only the buffer may be too short
abbrev pub room_for : List ℕ → List ℕ → Result ℕ WriteFault
room_for bs old = verdict (rule (nat_le (length bs) (length old)) ShortBuffer) (length bs)

-- the numbers that write may tell
abbrev pub write_number : ℕ → Bool
write_number n = within 18 21 n || n == 29

-- the buffer afterwards: the record in front of what the buffer held past it, or after a refusal what it held
abbrev pub left_by : Result ℕ WriteFault → List ℕ → List ℕ → List ℕ
left_by (Ok n) bs old = bs ++ drop (length bs) old
left_by (Err f) bs old = old
