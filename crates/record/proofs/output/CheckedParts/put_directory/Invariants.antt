-- What is written so far, and the start of the next field.
use Rattle.std.proofs.Common.{◌≡◌, ◌*◌, ◌++◌, length, take, drop}
use Rattle.record.specs.Extents.{starts}
use Rattle.record.specs.Layout.{directory}
use Rattle.record.proofs.output.CheckedParts.put_directory.Given as goal

-- the entries that are written, and those that are left, are the directory
abbrev pub invariant-loop-k : goal.invariant-loop-k
invariant-loop-k l =
    let es = l.self.parts.extents.now in
    (length l.out ≡ 12 * length es)
    × (l.start ≡ starts es l.k)
    × (take (12 * l.k) l.out ++ directory l.start (drop l.k es) ≡ directory 0 es)
