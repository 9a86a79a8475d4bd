-- Number by number: the first fault of a stage is the first of all where the stages before it have none.
use Rattle.std.proofs.Common.{◌≡◌, ◌-◌, Bool, true, false, [], length, Ok, sym, ap, ◌∙◌}
use Rattle.record.specs.declared.faults.FrameFault.TheVariants.{RecordEnd}
use Rattle.record.specs.Contents.{fields_faults}
use Rattle.record.specs.Directory.{directory_faults}
use Rattle.record.specs.Rules.{rule, verdict}
use Rattle.record.specs.Frame.{end_rule, frame_faults, frame_of}
use Rattle.record.specs.Leader.{entry_count}
use Rattle.record.proofs.Stages.{at_size, at_leader, at_directory, at_fields, at_end}
use Rattle.record.proofs.Verdicts.{none, first, returned}
use Rattle.record.proofs.frame.first_fault.Goals as goal
use Rattle.record.proofs.frame.first_fault.Goals.{In_ok-check, In_ok-check_fields}

pub returns-then-not-size_holds : goal.returns-then-not-size_holds
returns-then-not-size_holds c =
    let bs = c.args.bytes.now in
    ap (λ l. verdict l (frame_of bs)) (sym (at_size bs false c.if-not-size_holds.ensures))

pub returns-in_err-check_leader : goal.returns-in_err-check_leader
returns-in_err-check_leader c =
    let bs = c.args.bytes.now in
    returned _ _ c.from_residual.ensures.1
    ∙ first _ _ tt (frame_of bs) _ c.in_err-check_leader.ensures
    ∙ ap (λ l. verdict l (frame_of bs)) (sym (at_leader bs c.if-not-size_holds.ensures))

pub returns-in_err-check : goal.returns-in_err-check
returns-in_err-check c =
    let bs = c.args.bytes.now in
    returned _ _ c.from_residual-in_err-check.ensures.1
    ∙ first _ _ tt (frame_of bs) _ (c.in_err-check.ensures ∙ ap (λ l. verdict (directory_faults l) tt) c.new-directory.ensures)
    ∙ ap (λ l. verdict l (frame_of bs)) (sym (at_directory bs c.if-not-size_holds.ensures (none _ _ _ c.in_ok-check_leader.ensures)))

-- the directory has no fault
clean : (c : In_ok-check) → directory_faults c.args.bytes.now ≡ []
clean c = none _ _ _ (c.in_ok-check.ensures ∙ ap (λ l. verdict (directory_faults l) tt) c.new-directory.ensures)

pub returns-in_err-check_fields : goal.returns-in_err-check_fields
returns-in_err-check_fields c =
    let bs = c.args.bytes.now in
    returned _ _ c.from_residual-in_err-check_fields.ensures.1
    ∙ first _ _ tt (frame_of bs) _ (c.in_err-check_fields.ensures ∙ ap (λ l. verdict (fields_faults l) tt) c.new-directory.ensures)
    ∙ ap (λ l. verdict l (frame_of bs)) (sym (at_fields bs c.if-not-size_holds.ensures (none _ _ _ c.in_ok-check_leader.ensures) (clean (goal.at.returns-in_err-check_fields c).In_ok-check)))

-- the last byte, where all else is right
last : (c : In_ok-check_fields) (t : Bool) → t ≡ end_rule c.args.bytes.now → verdict (rule t (RecordEnd (length c.args.bytes.now - 1))) (frame_of c.args.bytes.now) ≡ verdict (frame_faults c.args.bytes.now) (frame_of c.args.bytes.now)
last c t e =
    let bs = c.args.bytes.now in
    let full = none _ _ _ (c.in_ok-check_fields.ensures ∙ ap (λ l. verdict (fields_faults l) tt) c.new-directory.ensures) in
    let right = none _ _ _ (c.in_ok-check.ensures ∙ ap (λ l. verdict (directory_faults l) tt) c.new-directory.ensures) in
    ap (λ l. verdict l (frame_of bs)) (
    ap (λ u. rule u (RecordEnd (length bs - 1))) e
    ∙ sym (at_end bs c.if-not-size_holds.ensures (none _ _ _ c.in_ok-check_leader.ensures) right full)
    )

pub returns-then-not-end_holds : goal.returns-then-not-end_holds
returns-then-not-end_holds c = last (goal.at.returns-then-not-end_holds c).In_ok-check_fields false c.if-not-end_holds.ensures

pub returns : goal.returns
returns c =
    let count = c.new-directory.result.counted ∙ ap entry_count c.new-directory.ensures in
    ap (λ n. Ok (record { entries = n })) count ∙ last (goal.at.returns c).In_ok-check_fields true c.if-not-end_holds.ensures
