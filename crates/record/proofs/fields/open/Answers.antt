-- A data field is opened at its two indicators and at its subfields, which keep their places in the record.
use Rattle.std.proofs.Common.{◌≡◌, ◌+◌, ◌-◌, ◌≤◌, length, get_or, take, drop, sym, ap, ◌∙◌, arith}
use Rattle.std.proofs.lemmas.Bool.{cond-false, le-ltb}
use Rattle.record.specs.Figures.{part}
use Rattle.record.specs.Reading.{subfields_in}
use Rattle.record.specs.Reading.Held.{coded}
use Rattle.record.proofs.Clamped.{from_field}
use Rattle.record.proofs.fields.open.Goals as goal

pub returns-else-tag-lt10 : goal.returns-else-tag-lt10
returns-else-tag-lt10 c =
    let bs = c.args.bytes.now in
    let p = c.args.place in
    let field = part bs p c.args.size in
    let same = c.part_of-field.ensures.value in
    let end : c.saturating_sub-end.result ≡ length field - 1 = c.saturating_sub-end.ensures ∙ ap (λ l. length l - 1) same in
    let a : c.byte_at.result ≡ get_or field 0 0 = c.byte_at.ensures ∙ ap (λ l. get_or l 0 0) same in
    let b : c.byte_at-else-tag-lt10.result ≡ get_or field 1 0 = c.byte_at-else-tag-lt10.ensures ∙ ap (λ l. get_or l 1 0) same in
    let short : length field - 1 ≤ c.args.size = omega (arith, ap length same, c.part_of-field.ensures.short) in
    let rest : drop (p + 2) c.part_of-else-tag-lt10.result.now ≡ drop 2 (take (length field - 1) field) = ap (drop (p + 2)) (c.part_of-else-tag-lt10.ensures.value ∙ ap (λ n. take (p + n) bs) end) ∙ from_field bs p c.args.size (length field - 1) short in
    let subfields = c.new.ensures ∙ ap (subfields_in (p + 2)) rest in
    (λ i. coded (a i) (b i) (subfields i)) ∙ sym (cond-false _ _ _ (le-ltb _ 10 c.if-tag-lt10.false))
