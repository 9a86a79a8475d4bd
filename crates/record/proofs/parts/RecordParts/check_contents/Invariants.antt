-- What is left decides, and the start of the next field.
use Rattle.std.proofs.Common.{◌≡◌, length}
use Rattle.record.specs.Extents.{starts}
use Rattle.record.specs.PartsFaults.{content_faults}
use Rattle.record.specs.Rules.{over}
use Rattle.record.proofs.parts.RecordParts.check_contents.Given as goal

-- what is left decides
abbrev pub invariant-loop-extent : goal.invariant-loop-extent
invariant-loop-extent l =
    (over (content_faults l.self.extents.now l.self.fields.now) 0 (length l.self.extents.now) ≡ over (content_faults l.self.extents.now l.self.fields.now) l.extent-index (length l.self.extents.now))
    × (l.start ≡ starts l.self.extents.now l.extent-index)
