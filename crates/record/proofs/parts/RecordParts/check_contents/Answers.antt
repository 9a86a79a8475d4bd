-- The loop over the fields stops at the first that has a fault.
use Rattle.std.proofs.Common.{◌≡◌, ◌+◌, ◌*◌, length, sym, ap, ◌∙◌, arith}
use Rattle.record.specs.Contents.{field_faults}
use Rattle.record.specs.Extents.{extent_of}
use Rattle.record.specs.Figures.{part}
use Rattle.record.specs.PartsFaults.{content_faults}
use Rattle.record.specs.Rules.{verdict}
use Rattle.record.proofs.Extents.{starts_next, starts_within}
use Rattle.record.proofs.Ranges.{ended, found, passed}
use Rattle.record.proofs.Verdicts.{none, returned}
use Rattle.record.proofs.parts.RecordParts.check_contents.Goals as goal
use Rattle.record.proofs.parts.RecordParts.check_contents.Goals.{After-from}

-- the field that is checked is field k
same : (c : After-from) → field_faults c.from.result c.part_of-field.result.now (25 + 12 * length c.args.self.now.extents.now + c.loop-extent.start) ≡ content_faults c.args.self.now.extents.now c.args.self.now.fields.now c.loop-extent.extent-index
same c =
    let es = c.args.self.now.extents.now in
    let e = extent_of es c.loop-extent.extent-index in
    let base = 25 + 12 * length es in
    (λ i. field_faults (c.from.ensures i) (c.part_of-field.ensures.value i) (base + c.loop-extent.start))
    ∙ ap (λ s. field_faults e.tag (part c.args.self.now.fields.now s e.size) (base + s)) c.loop-extent.invariant.1

pub overflow_add-base-in-loop-extent : goal.overflow_add-base-in-loop-extent
overflow_add-base-in-loop-extent c = omega (arith, starts_within c.args.self.now.extents.now c.loop-extent.extent-index c.loop-extent-test.true)

pub check_field-requires : goal.check_field-requires
check_field-requires c = omega (arith, starts_within c.args.self.now.extents.now c.loop-extent.extent-index c.loop-extent-test.true, c.part_of-field.ensures.short)

pub overflow_add-start : goal.overflow_add-start
overflow_add-start c = omega (arith, starts_within c.args.self.now.extents.now c.loop-extent.extent-index c.loop-extent-test.true)

pub returns-in_err-check_field : goal.returns-in_err-check_field
returns-in_err-check_field c =
    returned _ _ c.from_residual.ensures.1
    ∙ found (content_faults c.args.self.now.extents.now c.args.self.now.fields.now) c.loop-extent.extent-index _ c.loop-extent-test.true tt tt _ (c.in_err-check_field.ensures ∙ ap (λ l. verdict l tt) (same (goal.at.returns-in_err-check_field c).After-from))
    ∙ ap (λ l. verdict l tt) (sym c.loop-extent.invariant.0)

pub loop-extent-preserved : goal.loop-extent-preserved
loop-extent-preserved c =
    let es = c.args.self.now.extents.now in
    let k = c.loop-extent.extent-index in (
      c.loop-extent.invariant.0 ∙ passed (content_faults es c.args.self.now.fields.now) k _ c.loop-extent-test.true (sym (same (goal.at.loop-extent-preserved c).After-from) ∙ none _ _ _ c.in_ok-check_field.ensures),
      ap (λ n. n + (extent_of es k).size) c.loop-extent.invariant.1 ∙ sym (starts_next es k c.loop-extent-test.true),
    )

pub returns : goal.returns
returns c = sym (ap (λ l. verdict l tt) (c.loop-extent.invariant.0 ∙ ended _ _ _ c.loop-extent-test.false))
