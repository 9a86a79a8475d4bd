-- The search through the positions and the codes gives the first code that is no code character.
use Rattle.std.proofs.Common.{◌≡◌, true, false, refl, ap, ◌∙◌, rules, tests, arith}
use Rattle.std.proofs.lemmas.Iterator.{YieldsList-from_slice, YieldsList-from_zip, first_from_find}
use Rattle.std.proofs.lemmas.List.{map-id}
use Rattle.record.specs.declared.faults.FrameFault.TheVariants.{Leader}
use Rattle.record.specs.Classes.{code_character}
use Rattle.record.specs.Leader.{code_positions}
use Rattle.record.specs.PartsFaults.{code_faults}
use Rattle.record.specs.Rules.{over, verdict}
use Rattle.record.proofs.Pairs.{FoundBeside, first_beside, none_beside}
use Rattle.record.proofs.parts.check_codes.Goals as goal
use Rattle.record.proofs.parts.check_codes.Goals.{After-find}

first : (c : After-find) → FoundBeside (λ _ code. code_character code) code_positions c.args.codes.now c.find.result
first c =
    first_from_find c.find.new.self _ c.find.result (λ p. code_character p.1 ≡ false) (λ p. code_character p.1 ≡ true) c.find.ensures.ran
    (YieldsList-from_zip (YieldsList-from_slice code_positions cc) (YieldsList-from_slice c.args.codes.now cc))
    (λ p q k. search (rules, tests)) (λ p q k. search (rules, tests))

pub returns-in-Some : goal.returns-in-Some
returns-in-Some c =
    let codes = c.args.codes.now in
    first_beside (λ n. n) (λ _ code. code_character code) (λ p _. Leader p) 0 0 tt code_positions codes 8 refl (omega arith) _ _ _ c.in-Some.is (first (goal.at.returns-in-Some c).After-find)
    ∙ ap (λ l. verdict (over (code_faults l) 0 8) tt) (map-id codes)

pub returns-in-None : goal.returns-in-None
returns-in-None c =
    let codes = c.args.codes.now in
    none_beside (λ n. n) (λ _ code. code_character code) (λ p _. Leader p) 0 0 tt code_positions codes 8 refl (omega arith) _ c.in-None.is (first (goal.at.returns-in-None c).After-find)
    ∙ ap (λ l. verdict (over (code_faults l) 0 8) tt) (map-id codes)
