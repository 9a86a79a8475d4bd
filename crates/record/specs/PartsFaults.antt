-- The faults of a record, told by the codes, extents and bytes that it is to be laid out from. Assumes nothing.
use Rattle.std.specs.Prelude.{ℕ, ◌+◌, ◌*◌, Bool, ◌&&◌, List, ◌++◌, length, ◌==◌, nat_le, slice_index}
use Rattle.record.specs.declared.extent.Extent.{Extent}
use Rattle.record.specs.declared.faults.FrameFault.{FrameFault}
use Rattle.record.specs.declared.faults.FrameFault.TheVariants.{Length, Leader, Entry, DirectoryEnd}
use Rattle.record.specs.declared.parts.RecordParts.{RecordParts}
use Rattle.record.specs.Classes.{code_character, within}
use Rattle.record.specs.Contents.{field_faults}
use Rattle.record.specs.Directory.{entry_place}
use Rattle.record.specs.Extents.{extent_of, starts, total}
use Rattle.record.specs.Figures.{part}
use Rattle.record.specs.Layout.{laid_length}
use Rattle.record.specs.Leader.{code_positions}
use Rattle.record.specs.Rules.{over, rule}

-- 18
abbrev pub length_faults : List Extent → List ℕ → List FrameFault
length_faults es fs = rule (within 26 99999 (laid_length es fs)) Length

-- 19, of code i
abbrev pub code_faults : List ℕ → ℕ → List FrameFault
code_faults codes i = rule (code_character (slice_index codes i)) (Leader (slice_index code_positions i))

-- each figure of an entry has room for its number, and neither tag nor length is 0
abbrev pub extent_rule : Extent → ℕ → Bool
extent_rule e start = within 1 999 e.tag && (within 1 9999 e.size && nat_le start 99999)

-- 20, of entry k
abbrev pub extent_faults : List Extent → ℕ → List FrameFault
extent_faults es k = rule (extent_rule (extent_of es k) (starts es k)) (Entry (entry_place k))

-- 20, after the entries
abbrev pub sum_faults : List Extent → List ℕ → List FrameFault
sum_faults es fs = rule (total es == length fs) (DirectoryEnd (entry_place (length es)))

-- 21, of field k
abbrev pub content_faults : List Extent → List ℕ → ℕ → List FrameFault
content_faults es fs k = field_faults (extent_of es k).tag (part fs (starts es k) (extent_of es k).size) (25 + 12 * length es + starts es k)

unfoldable pub parts_faults : List ℕ → List Extent → List ℕ → List FrameFault
parts_faults codes es fs =
    length_faults es fs
    ++ (over (code_faults codes) 0 8
    ++ (over (extent_faults es) 0 (length es)
    ++ (sum_faults es fs
    ++ over (content_faults es fs) 0 (length es))))

-- the same, of the parts that a caller lends
abbrev pub faults_in : RecordParts → List FrameFault
faults_in p = parts_faults p.codes p.extents.now p.fields.now
