-- Entry after entry is written, each with the lengths before it added up.
use Rattle.std.proofs.Common.{rules, ◌+◌, ◌*◌, ◌++◌, take, drop, sym, ap, ◌∙◌, append_assoc, arith}
use Rattle.std.proofs.lemmas.List.{at_drop_more, places}
use Rattle.std.proofs.lemmas.Slice.{take-put_mid}
use Rattle.record.specs.Extents.{extent_of, no_extent}
use Rattle.record.specs.Layout.{directory, entry}
use Rattle.record.specs.PartsFaults.{extent_rule}
use Rattle.record.proofs.Extents.{starts_next, starts_within}
use Rattle.record.proofs.Faultless.{faultless}
use Rattle.record.proofs.output.CheckedParts.put_directory.Goals as goal

pub put_entry-requires-clause-right : goal.put_entry-requires-clause-right
put_entry-requires-clause-right c =
    let k = c.loop-k.k in
    ap (extent_rule (extent_of c.args.self.now.parts.extents.now k)) c.loop-k.invariant.1 ∙ (faultless _ _ _ c.args.self.now.faultless).rules k c.loop-k-test.true

pub overflow_add-start : goal.overflow_add-start
overflow_add-start c =
    let facts = faultless _ _ _ c.args.self.now.faultless in
    omega (arith, starts_within c.args.self.now.parts.extents.now c.loop-k.k c.loop-k-test.true, facts.sum, facts.short)

pub loop-k-preserved : goal.loop-k-preserved
loop-k-preserved c =
    let es = c.args.self.now.parts.extents.now in
    let k = c.loop-k.k in
    let e = extent_of es k in
    let start = c.loop-k.start in
    let out = c.loop-k.out in
    let inv = c.loop-k.invariant in
    let front = take (12 * k) out in (
      search (rules, places),
      ap (λ n. n + e.size) inv.1 ∙ sym (starts_next es k c.loop-k-test.true),
      ap (λ l. l ++ directory (start + e.size) (drop (k + 1) es)) (take-put_mid (12 * k) _ out _ (12 * (k + 1)) (omega arith) (omega arith) ∙ ap (λ l. front ++ l) c.put_entry.ensures)
          ∙ append_assoc front (entry e start) (directory (start + e.size) (drop (k + 1) es))
          ∙ ap (λ l. front ++ l) (sym (at_drop_more (directory start) es k no_extent c.loop-k-test.true))
          ∙ inv.2,
    )
