-- What is written is what was read, and a refusal leaves the buffer.
use Rattle.std.proofs.Common.{◌∙◌, rules}
use Rattle.record.specs.Trips.{Reads}
use Rattle.record.proofs.Verdicts.{known}
use Rattle.exports.proofs.Copied.{copied, refused}
use Rattle.exports.proofs.copy.copy_record.Goals as goal

pub returns : goal.returns
returns c =
    let bs = c.args.record.now in
    let is = known (Reads bs) _ _ c.in_ok-from.ensures in
    let both = copied bs _ is _ _ _ c.codes.ensures (c.deref.ensures.value ∙ c.in_ok-extents.ensures) c.contents.ensures c.args.out.now _ _ c.in_ok-len.ensures.answer c.in_ok-len.ensures.buffer in
    record { copy = both.0; within = both.1 }

pub returns-in_err-len-clause-copy : goal.returns-in_err-len-clause-copy
returns-in_err-len-clause-copy c =
    let bs = c.args.record.now in
    let old = c.args.out.now in
    let is = known (Reads bs) _ _ c.in_ok-from.ensures in
    let no = refused bs _ is _ _ _ c.codes.ensures (c.deref.ensures.value ∙ c.in_ok-extents.ensures) c.contents.ensures old _ _ c.in_err-len.ensures.answer c.in_err-len.ensures.buffer in
    search (rules, no)
