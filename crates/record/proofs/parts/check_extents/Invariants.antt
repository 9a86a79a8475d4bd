-- What is left decides, and the lengths so far.
use Rattle.std.proofs.Common.{◌≡◌, ◌*◌, ◌≤◌, length}
use Rattle.record.specs.Extents.{starts}
use Rattle.record.specs.PartsFaults.{extent_faults}
use Rattle.record.specs.Rules.{over}
use Rattle.record.proofs.parts.check_extents.Given as goal

-- what is left decides
abbrev pub invariant-loop-k : goal.invariant-loop-k
invariant-loop-k l =
    (over (extent_faults l.extents) 0 (length l.extents) ≡ over (extent_faults l.extents) l.k (length l.extents))
    × (l.start ≡ starts l.extents l.k)
    × (l.start ≤ 9999 * l.k)
