-- The invariant of the loop over the bytes of a field: what is left decides.
use Rattle.std.proofs.Common.{◌≡◌, ◌+◌, length}
use Rattle.record.specs.declared.faults.FrameFault.TheVariants.{Field}
use Rattle.record.specs.Contents.{byte_rule, field_faults}
use Rattle.record.specs.Rules.{over, rule}
use Rattle.record.proofs.contents.check_field.Given as goal

abbrev pub invariant-loop-i : goal.invariant-loop-i
invariant-loop-i l = field_faults l.tag l.field l.place ≡ over (λ i. rule (byte_rule l.tag l.field i) (Field (l.place + i))) l.i (length l.field)
