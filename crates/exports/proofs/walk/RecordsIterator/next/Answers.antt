-- One step of the walk that takes a record.
use Rattle.std.proofs.Common.{rules}
use Rattle.std.proofs.lemmas.List.{length-take-le, take_rest}
use Rattle.record.proofs.Clamped.{next_part}
use Rattle.exports.proofs.walk.RecordsIterator.next.Goals as goal

pub returns-in-Ok-clause-steps : goal.returns-in-Ok-clause-steps
returns-in-Ok-clause-steps c = search (rules, next_part, take_rest, length-take-le)
