-- The loop over the extents stops at the first that breaks its rule, with the lengths before it added up.
use Rattle.std.proofs.Common.{◌+◌, Ok, sym, ap, ◌∙◌, arith}
use Rattle.record.specs.declared.faults.FrameFault.TheVariants.{Entry}
use Rattle.record.specs.Directory.{entry_place}
use Rattle.record.specs.Extents.{extent_of, starts, total}
use Rattle.record.specs.PartsFaults.{extent_rule}
use Rattle.record.specs.Rules.{verdict}
use Rattle.record.proofs.Extents.{fits_when, starts_all, starts_next}
use Rattle.record.proofs.Ranges.{kept, broken, ended}
use Rattle.record.proofs.parts.check_extents.Goals as goal

pub loop-k-preserved : goal.loop-k-preserved
loop-k-preserved c =
    let es = c.args.extents.now in
    let k = c.loop-k.k in
    let inv = c.loop-k.invariant in (
      inv.0 ∙ kept (λ j. extent_rule (extent_of es j) (starts es j)) (λ j. Entry (entry_place j)) k _ c.loop-k-test.true (c.if-not-extent_holds.ensures ∙ ap (extent_rule (extent_of es k)) inv.1),
      ap (λ n. n + (extent_of es k).size) inv.1 ∙ sym (starts_next es k c.loop-k-test.true),
      omega (arith, (fits_when (extent_of es k) c.loop-k.start (sym c.if-not-extent_holds.ensures)).small_size),
    )

pub returns-then-not-extent_holds : goal.returns-then-not-extent_holds
returns-then-not-extent_holds c =
    let es = c.args.extents.now in
    let k = c.loop-k.k in
    let inv = c.loop-k.invariant in
    sym (ap (λ l. verdict l (total es)) inv.0 ∙ broken (λ j. extent_rule (extent_of es j) (starts es j)) (λ j. Entry (entry_place j)) k _ c.loop-k-test.true (total es) (c.if-not-extent_holds.ensures ∙ ap (extent_rule (extent_of es k)) inv.1))

pub returns : goal.returns
returns c =
    let es = c.args.extents.now in
    ap Ok (c.loop-k.invariant.1 ∙ starts_all es c.loop-k.k c.loop-k-test.false) ∙ sym (ap (λ l. verdict l (total es)) (c.loop-k.invariant.0 ∙ ended _ _ _ c.loop-k-test.false))
