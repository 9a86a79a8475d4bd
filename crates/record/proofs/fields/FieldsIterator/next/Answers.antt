-- One step of the cursor of fields.
use Rattle.std.proofs.Common.{◌≡◌, ℕ, suc, ◌+◌, ◌-◌, ◌<◌, ◌≤◌, List, [], ◌∷◌, sym, ap, ◌∙◌, add-one, arith}
use Rattle.record.specs.Reading.{field_read, fields_from}
use Rattle.record.proofs.fields.FieldsIterator.next.Goals as goal

one_more : (bs : List ℕ) (k n : ℕ) → k < n → fields_from bs k (n - k) ≡ field_read bs k ∷ fields_from bs (k + 1) (n - (k + 1))
unfolding fields_from
one_more bs k n h = let e : n - k ≡ suc (n - (k + 1)) = omega arith in rw (e, add-one)

none_left : (bs : List ℕ) (k n : ℕ) → n ≤ k → fields_from bs k (n - k) ≡ []
unfolding fields_from
none_left bs k n h = let e : n - k ≡ 0 = omega arith in rw e

pub returns-then-k-self-clause-steps : goal.returns-then-k-self-clause-steps
returns-then-k-self-clause-steps c =
    let s = c.args.self.now in
    let none = none_left s.bytes.now s.next s.entries c.if-k-self.true in
    (none, none)

pub returns-clause-steps : goal.returns-clause-steps
returns-clause-steps c =
    let s = c.args.self.now in
    let rest = fields_from s.bytes.now (s.next + 1) (s.entries - (s.next + 1)) in
    one_more s.bytes.now s.next s.entries c.if-k-self.false ∙ ap (λ f. f ∷ rest) (sym c.field_at.ensures)
