-- The search over positions and sets gives the first set that breaks its rule, with its position.
use Rattle.std.proofs.Common.{◌≡◌, true, false, [], refl, arith, rules, tests}
use Rattle.std.proofs.lemmas.Iterator.{YieldsList-from_slice, YieldsList-from_zip, first_from_find}
use Rattle.record.specs.Leader.{code_positions}
use Rattle.rows.specs.declared.faults.RowFault.TheVariants.{Leader}
use Rattle.rows.specs.Sets.{some_characters}
use Rattle.record.proofs.Pairs.{FoundBeside, first_beside, none_beside}
use Rattle.rows.proofs.checking.check_leader.Goals as goal
use Rattle.rows.proofs.checking.check_leader.Goals.{After-find}

first : (c : After-find) → FoundBeside (λ p s. some_characters s.now) code_positions c.args.sets.now c.find.result
first c =
    first_from_find c.find.new.self _ c.find.result (λ p. some_characters p.1.now ≡ false) (λ p. some_characters p.1.now ≡ true) c.find.ensures.ran
    (YieldsList-from_zip (YieldsList-from_slice code_positions cc) (YieldsList-from_slice c.args.sets.now cc))
    (λ p q k. search (rules, tests)) (λ p q k. search (rules, tests))

pub returns-in-Some : goal.returns-in-Some
returns-in-Some c =
    first_beside (λ s. s.now) (λ p s. some_characters s) (λ p s. Leader p) 0 [] tt code_positions c.args.sets.now 8 refl (omega arith) _ _ _ c.in-Some.is
    (first (goal.at.returns-in-Some c).After-find)

pub returns-in-None : goal.returns-in-None
returns-in-None c =
    none_beside (λ s. s.now) (λ p s. some_characters s) (λ p s. Leader p) 0 [] tt code_positions c.args.sets.now 8 refl (omega arith) _ c.in-None.is
    (first (goal.at.returns-in-None c).After-find)
