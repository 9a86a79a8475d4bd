-- The loop over the bytes of a field stops at the first that breaks its rule.
use Rattle.std.proofs.Common.{◌+◌, sym, refl, ap, ◌∙◌}
use Rattle.record.specs.declared.faults.FrameFault.TheVariants.{Field}
use Rattle.record.specs.Contents.{byte_rule, field_faults}
use Rattle.record.specs.Rules.{verdict}
use Rattle.record.proofs.Ranges.{kept, broken, ended}
use Rattle.record.proofs.contents.check_field.Goals as goal

pub loop-i-init : goal.loop-i-init
unfolding field_faults
loop-i-init c = refl

pub loop-i-preserved : goal.loop-i-preserved
loop-i-preserved c =
    c.loop-i.invariant ∙ kept (byte_rule c.args.tag c.args.field.now) (λ i. Field (c.args.place + i)) _ _ c.loop-i-test.true c.if-not-byte_holds.ensures

pub returns-then-not-byte_holds : goal.returns-then-not-byte_holds
returns-then-not-byte_holds c =
    sym (ap (λ l. verdict l tt) c.loop-i.invariant ∙ broken (byte_rule c.args.tag c.args.field.now) (λ i. Field (c.args.place + i)) _ _ c.loop-i-test.true tt c.if-not-byte_holds.ensures)

pub returns : goal.returns
returns c = sym (ap (λ l. verdict l tt) (c.loop-i.invariant ∙ ended _ _ _ c.loop-i-test.false))
