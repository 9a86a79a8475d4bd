-- The loop over the fields stops at the first that has a fault.
use Rattle.std.proofs.Common.{◌≡◌, length, ◌+◌, sym, ap, ◌∙◌, arith}
use Rattle.record.specs.Contents.{fields_faults, faults_of}
use Rattle.record.specs.Directory.{sizes_before}
use Rattle.record.specs.Leader.{base}
use Rattle.record.specs.Rules.{over, verdict}
use Rattle.record.proofs.Ranges.{passed, found, ended}
use Rattle.record.proofs.Sound.{filled, sizes_next, sizes_none, sizes_mono}
use Rattle.record.proofs.Verdicts.{none, value, returned}
use Rattle.record.proofs.directory.Directory.check_fields.Goals as goal

pub loop-k-init : goal.loop-k-init
unfolding fields_faults
loop-k-init c = (ap (over (faults_of c.args.self.now.bytes.now) 0) (sym c.args.self.now.counted), omega (arith, sizes_none c.args.self.now.bytes.now))

pub check_next-requires : goal.check_next-requires
check_next-requires c =
    let bs = c.args.self.now.bytes.now in
    let k = c.loop-k.k in
    let more = sizes_mono bs (k + 1) c.args.self.now.entries (omega arith) in
    let step = sizes_next bs k in
    let all : base bs + sizes_before bs c.args.self.now.entries + 1 ≡ length bs = rw c.args.self.now.counted (filled bs c.requires) in
    record { entry = c.loop-k-test.true; begins = c.loop-k.invariant.1; ends = omega arith }

pub returns-in_err-place : goal.returns-in_err-place
returns-in_err-place c =
    returned _ _ c.from_residual.ensures.1
    ∙ found (faults_of c.args.self.now.bytes.now) c.loop-k.k c.args.self.now.entries c.loop-k-test.true _ tt _ c.in_err-place.ensures
    ∙ ap (λ l. verdict l tt) (sym c.loop-k.invariant.0)

pub loop-k-preserved : goal.loop-k-preserved
loop-k-preserved c =
    let bs = c.args.self.now.bytes.now in
    let k = c.loop-k.k in
    let step = sizes_next bs k in
    let went = value (faults_of bs k) _ _ c.in_ok-place.ensures in (
      c.loop-k.invariant.0 ∙ passed (faults_of bs) k c.args.self.now.entries c.loop-k-test.true (none _ _ _ c.in_ok-place.ensures),
      omega (arith, went, c.loop-k.invariant.1),
    )

pub returns : goal.returns
returns c = sym (ap (λ l. verdict l tt) (c.loop-k.invariant.0 ∙ ended _ _ _ c.loop-k-test.false))
