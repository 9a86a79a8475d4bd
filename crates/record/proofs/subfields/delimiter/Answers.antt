-- The search stops at the next 1F, or at the end.
use Rattle.std.proofs.Common.{◌≡◌, ◌+◌, length, refl, sym, ap, ◌∙◌, rules, tests}
use Rattle.std.proofs.lemmas.Iterator.{IsFirst-from_position, YieldsList-from_slice, index_from_first}
use Rattle.record.specs.Reading.{piece}
use Rattle.record.proofs.Pieces.{piece_ends, piece_goes_on}
use Rattle.record.proofs.subfields.delimiter.Goals as goal

pub returns-clause-value : goal.returns-clause-value
returns-clause-value c =
    let rest = c.rest_of-rest.result.now in
    let before : length (piece rest) ≡ c.unwrap_or.result =
    index_from_first (λ l. length (piece l)) (λ b. b ≡ 31) (λ b. b ≡ 31 → ⊥) refl piece_ends piece_goes_on rest _
    (IsFirst-from_position _ _ _ (λ b. b ≡ 31) (λ b. b ≡ 31 → ⊥) c.position-before.ensures.ran (YieldsList-from_slice rest cc) (λ x q k. search (rules, tests)) (λ x q k. search (rules, tests)))
    ∙ sym c.unwrap_or.ensures in
    ap (λ n. c.args.place + n) (sym before ∙ ap (λ l. length (piece l)) c.rest_of-rest.ensures)
