-- A fault of the frame is told first; of a record that is read, the first fault of its codes and fields.
use Rattle.std.proofs.Common.{sym, ap, ◌∙◌, subst}
use Rattle.record.specs.Frame.{frame_faults}
use Rattle.record.specs.Rules.{Verdict, verdict}
use Rattle.record.specs.Trips.{Reads}
use Rattle.record.proofs.Verdicts.{known, none, returned}
use Rattle.formats.specs.Accepts.{format_faults}
use Rattle.formats.proofs.Told.{accepted, handed, read_places, refused_frame, refused_parts}
use Rattle.formats.proofs.checking.check.Goals as goal

pub returns-in_err-parts : goal.returns-in_err-parts
returns-in_err-parts g c =
    let M = g.F.Format.meaning c.args.format.now in
    let bs = c.args.record.now in
    subst (Verdict (format_faults M bs) (Reads bs)) (sym (returned _ _ c.from_residual.ensures.1)) (refused_frame M bs (Reads bs) _ c.in_err-parts.ensures)

pub invariant_of-record_check : goal.invariant_of-record_check
invariant_of-record_check g c =
    let bs = c.args.record.now in
    let r = c.in_ok-parts.parts in
    record { small = read_places bs r _ (known (Reads bs) (frame_faults bs) r c.in_ok-parts.ensures) c.fields.ensures.left }

pub returns-in_err-run : goal.returns-in_err-run
returns-in_err-run g c =
    let M = g.F.Format.meaning c.args.format.now in
    let bs = c.args.record.now in
    let r = c.in_ok-parts.parts in
    let read = known (Reads bs) (frame_faults bs) r c.in_ok-parts.ensures in
    let same = handed M bs r _ _ read c.codes.ensures c.fields.ensures.left in
    subst (Verdict (format_faults M bs) (Reads bs)) (sym (returned _ _ c.from_residual-in_err-run.ensures.1))
    (refused_parts M bs (Reads bs) tt _ read.framed (c.in_err-run.ensures ∙ ap (λ l. verdict l tt) same))

pub returns : goal.returns
returns g c =
    let M = g.F.Format.meaning c.args.format.now in
    let bs = c.args.record.now in
    let r = c.in_ok-parts.parts in
    let read = known (Reads bs) (frame_faults bs) r c.in_ok-parts.ensures in
    let same = handed M bs r _ _ read c.codes.ensures c.fields.ensures.left in
    accepted M bs (Reads bs) read.framed (sym same ∙ none _ _ _ c.in_ok-run.ensures) r read
