-- The first fault is the first broken rule, and there is none exactly where the record is laid out from well-formed parts.
use Rattle.record.proofs.Listed.{judged}
use Rattle.record.proofs.Whole.{passed_when_laid}
use Rattle.record.proofs.frame.check.Goals as goal

pub returns : goal.returns
returns c =
    let bs = c.args.record.now in
    let r = c.first_fault.result in
    record {
      answer = c.first_fault.ensures;
      laid = passed_when_laid bs r c.first_fault.ensures;
      rules = judged bs r c.first_fault.ensures;
    }
