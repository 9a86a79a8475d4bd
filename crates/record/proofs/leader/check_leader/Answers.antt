-- The search over the leader gives the first position that breaks its rule.
use Rattle.std.proofs.Common.{◌≡◌, true, false, rules, tests}
use Rattle.std.proofs.lemmas.Iterator.{first_from_Range}
use Rattle.record.specs.declared.faults.FrameFault.TheVariants.{Leader}
use Rattle.record.specs.Leader.{leader_faults, leader_rule}
use Rattle.record.proofs.Ranges.{IsFirstBroken, first_broken, none_broken}
use Rattle.record.proofs.leader.check_leader.Goals as goal
use Rattle.record.proofs.leader.check_leader.Goals.{After-find}

first : (c : After-find) → IsFirstBroken (leader_rule c.args.bytes.now) 24 c.find.result
first c =
    first_from_Range _ _ _ _ (λ p. leader_rule c.args.bytes.now p ≡ false) (λ p. leader_rule c.args.bytes.now p ≡ true) c.find.ensures.ran
    (λ p q k. search (rules, tests)) (λ p q k. search (rules, tests))

pub returns-in-Some : goal.returns-in-Some
unfolding leader_faults
returns-in-Some c = first_broken (leader_rule c.args.bytes.now) (λ p. Leader p) 24 tt _ _ c.in-Some.is (first (goal.at.returns-in-Some c).After-find)

pub returns-in-None : goal.returns-in-None
unfolding leader_faults
returns-in-None c = none_broken (leader_rule c.args.bytes.now) (λ p. Leader p) 24 tt _ c.in-None.is (first (goal.at.returns-in-None c).After-find)
