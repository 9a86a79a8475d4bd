-- The fault of the first indicator is told before that of the second.
use Rattle.std.proofs.Common.{◌+◌, ap, sym, ◌∙◌}
use Rattle.record.specs.Cursors.{seen_content}
use Rattle.record.specs.Rules.{verdict}
use Rattle.record.proofs.Verdicts.{first, returned}
use Rattle.formats.specs.Faults.{indicator_fault, indicators_held}
use Rattle.formats.proofs.checking.RecordCheck.check_both.Goals as goal

pub returns-in_err-check_indicator-in-Data : goal.returns-in_err-check_indicator-in-Data
returns-in_err-check_indicator-in-Data g c =
    let M = g.F.Format.meaning c.args.self.now.format.now in
    let f = c.args.field in
    returned _ _ c.from_residual.ensures.1
    ∙ first (indicator_fault M f.tag f.place 1 c.in-Data.first) (indicator_fault M f.tag (f.place + 1) 2 c.in-Data.second) tt tt _ c.in_err-check_indicator-in-Data.ensures
    ∙ ap (λ h. verdict (indicators_held M f.tag f.place (seen_content h)) tt) (sym c.in-Data.is)
