-- What is left decides, and the lengths so far.
use Rattle.std.proofs.Common.{◌≡◌, ◌*◌, ◌≤◌}
use Rattle.record.specs.Directory.{entry_faults, sizes_before}
use Rattle.record.specs.Rules.{over}
use Rattle.record.proofs.directory.Directory.check_entries.Given as goal

-- what is left decides
abbrev pub invariant-loop-k : goal.invariant-loop-k
invariant-loop-k l =
    (over (entry_faults l.self.bytes.now) 0 l.self.entries ≡ over (entry_faults l.self.bytes.now) l.k l.self.entries)
    × (l.before ≡ sizes_before l.self.bytes.now l.k)
    × (l.before ≤ 2300000 * l.k)
