-- Each turn passes a right tag, or has found the first wrong one.
use Rattle.rows.proofs.Steps.{tags_end, tags_on, tags_stop}
use Rattle.rows.proofs.checking.check_tags.Goals as goal

pub loop-k-preserved : goal.loop-k-preserved
loop-k-preserved c = tags_on c.args.rows.now c.loop-k.invariant _ c.loop-k-test.true c.if-not-tag_holds.ensures

pub returns-then-not-tag_holds : goal.returns-then-not-tag_holds
returns-then-not-tag_holds c = tags_stop c.args.rows.now c.loop-k.invariant _ c.loop-k-test.true c.if-not-tag_holds.ensures

pub returns : goal.returns
returns c = tags_end c.args.rows.now c.loop-k.invariant c.loop-k-test.false
