-- What a walk gives and what is left after it are the whole export.
use Rattle.exports.proofs.Rests.{walked}
use Rattle.exports.proofs.walk.Records.new.Goals as goal

pub returns-clause-walks : goal.returns-clause-walks
returns-clause-walks c = walked _
