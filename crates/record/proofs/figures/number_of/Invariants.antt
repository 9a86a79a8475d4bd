-- What is left of the digits decides, and the number stays small.
use Rattle.std.proofs.Common.{◌≡◌, ◌+◌, ◌*◌, ◌^◌, ◌≤◌, drop}
use Rattle.record.specs.Figures.{number, number_from}
use Rattle.record.proofs.figures.number_of.Given as goal

-- what is left, after the digits of n, gives the number
abbrev pub invariant-loop-byte : goal.invariant-loop-byte
invariant-loop-byte l = (number l.figure ≡ number_from l.n (drop l.byte-index l.figure)) × (l.n + 23 ≤ 23 * 10 ^ l.byte-index)
