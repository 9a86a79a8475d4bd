-- The loop over the entries stops at the first that breaks its rule, with the lengths before it added up.
use Rattle.std.proofs.Common.{◌≡◌, ◌+◌, ◌*◌, ◌<◌, ◌≤◌, length, true, Ok, sym, refl, ap, ◌∙◌, arith}
use Rattle.std.proofs.lemmas.Option.{cond_some}
use Rattle.record.specs.declared.faults.FrameFault.TheVariants as fault
use Rattle.record.specs.declared.entry.Entry.{Entry}
use Rattle.record.specs.Directory.{entry_place, entry_rule, entry_size, sizes_before, starts_at}
use Rattle.record.specs.Entries.{numbers_of}
use Rattle.record.specs.Rules.{verdict}
use Rattle.record.proofs.Figured.{size_small, test_failed}
use Rattle.record.proofs.Ranges.{kept, broken, ended}
use Rattle.record.proofs.Sound.{sizes_next, sizes_none}
use Rattle.record.proofs.directory.Directory.check_entries.Goals as goal
use Rattle.record.proofs.directory.Directory.check_entries.Goals.{In-Some}

pub loop-k-init : goal.loop-k-init
loop-k-init c = (refl, sym (sizes_none _), omega arith)

-- the entry is right, and tells this length
right : (c : In-Some) → (starts_at c.args.self.now.bytes.now c.loop-k.k c.loop-k.before ≡ true) × (numbers_of c.args.self.now.bytes.now c.loop-k.k ≡ c.in-Some.entry)
right c = cond_some _ _ _ (sym c.entry.ensures ∙ c.in-Some.is)

small : (c : In-Some) → c.in-Some.entry.size < 10000
small c =
    let bs = c.args.self.now.bytes.now in
    let room : 36 + 12 * c.loop-k.k ≤ length bs = omega (arith, c.loop-k-test.true, c.args.self.now.based, c.args.self.now.inside) in
    rw (sym (ap (λ (e : Entry). e.size) (right c).1)) (size_small bs c.loop-k.k c.loop-k.before room (right c).0)

pub overflow_add-before : goal.overflow_add-before
overflow_add-before c = omega (arith, small (goal.at.overflow_add-before c).In-Some, c.loop-k.invariant.2, c.loop-k-test.true, c.args.self.now.based, c.args.self.now.inside, c.args.self.now.short)

pub loop-k-preserved : goal.loop-k-preserved
loop-k-preserved c =
    let bs = c.args.self.now.bytes.now in
    let k = c.loop-k.k in
    let inv = c.loop-k.invariant in
    let is = right (goal.at.loop-k-preserved c).In-Some in
    let size : c.in-Some.entry.size ≡ entry_size bs k = ap (λ (e : Entry). e.size) (sym is.1) in (
      inv.0 ∙ kept (entry_rule bs) (λ j. fault.Entry (entry_place j)) k _ c.loop-k-test.true (sym is.0 ∙ ap (starts_at bs k) inv.1),
      (λ i. inv.1 i + size i) ∙ sym (sizes_next bs k),
      omega (arith, inv.2, small (goal.at.loop-k-preserved c).In-Some),
    )

pub returns-in_default : goal.returns-in_default
returns-in_default c =
    let bs = c.args.self.now.bytes.now in
    let k = c.loop-k.k in
    let inv = c.loop-k.invariant in
    let wrong = test_failed (numbers_of bs k) (starts_at bs k c.loop-k.before) (sym c.in_default.is ∙ c.entry.ensures) in
    sym (ap (λ l. verdict l (sizes_before bs c.args.self.now.entries)) inv.0 ∙ broken (entry_rule bs) (λ j. fault.Entry (entry_place j)) k _ c.loop-k-test.true _ (wrong ∙ ap (starts_at bs k) inv.1))

pub returns : goal.returns
returns c =
    let bs = c.args.self.now.bytes.now in
    let k : c.loop-k.k ≡ c.args.self.now.entries = omega arith in
    ap Ok (c.loop-k.invariant.1 ∙ ap (sizes_before bs) k) ∙ sym (ap (λ l. verdict l (sizes_before bs c.args.self.now.entries)) (c.loop-k.invariant.0 ∙ ended _ _ _ c.loop-k-test.false))
