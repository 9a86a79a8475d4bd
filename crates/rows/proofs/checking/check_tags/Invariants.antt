-- The tags passed are right, and the last of them is the one before.
use Rattle.rows.proofs.Steps.{TagsPassed}
use Rattle.rows.proofs.checking.check_tags.Given as goal

abbrev pub invariant-loop-k : goal.invariant-loop-k
invariant-loop-k l = TagsPassed l.rows l.k l.before
