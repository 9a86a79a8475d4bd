-- The frame of a record: its faults, in their order. Assumes nothing.
use Rattle.std.specs.Prelude.{◌≡◌, ℕ, ◌-◌, Bool, List, [], ◌++◌, length, ◌==◌, slice_index}
use Rattle.record.specs.declared.faults.FrameFault.{FrameFault}
use Rattle.record.specs.declared.faults.FrameFault.TheVariants.{Length, RecordEnd}
use Rattle.record.specs.declared.frame.Frame.{Frame}
use Rattle.record.specs.Classes.{within}
use Rattle.record.specs.Contents.{fields_faults}
use Rattle.record.specs.Directory.{directory_faults}
use Rattle.record.specs.Leader.{entry_count, leader_faults}
use Rattle.record.specs.Rules.{rule}

-- a record has 26 to 99,999 bytes
abbrev pub size_rule : List ℕ → Bool
size_rule bs = within 26 99999 (length bs)

-- the last byte is 1D
abbrev pub end_rule : List ℕ → Bool
end_rule bs = slice_index bs (length bs - 1) == 29

-- 18
abbrev pub size_faults : List ℕ → List FrameFault
size_faults bs = rule (size_rule bs) Length

-- 22
abbrev pub end_faults : List ℕ → List FrameFault
end_faults bs = rule (end_rule bs) (RecordEnd (length bs - 1))

-- by number, then by place
unfoldable pub frame_faults : List ℕ → List FrameFault
frame_faults bs = size_faults bs ++ (leader_faults bs ++ (directory_faults bs ++ (fields_faults bs ++ end_faults bs)))

-- the frame holds: there is no fault
abbrev pub Framed : List ℕ → Type 0
Framed bs = frame_faults bs ≡ []

abbrev pub frame_of : List ℕ → Frame
frame_of bs = record { entries = entry_count bs }
