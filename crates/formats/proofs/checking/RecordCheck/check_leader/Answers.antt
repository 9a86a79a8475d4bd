-- The search over positions and codes gives the first code that is not admitted, with its position.
use Rattle.std.proofs.Common.{◌≡◌, true, false, refl, ap, ◌∙◌, arith, rules, tests}
use Rattle.std.proofs.lemmas.Iterator.{YieldsList-from_slice, YieldsList-from_zip, first_from_find}
use Rattle.std.proofs.lemmas.List.{map-id}
use Rattle.record.specs.Leader.{code_positions}
use Rattle.record.specs.Rules.{verdict}
use Rattle.record.proofs.Pairs.{FoundBeside, first_beside, none_beside}
use Rattle.formats.specs.declared.faults.FormatFault.TheVariants.{LeaderCode}
use Rattle.formats.specs.Faults.{leader_faults}
use Rattle.formats.proofs.checking.RecordCheck.check_leader.Given.{Over}
use Rattle.formats.proofs.checking.RecordCheck.check_leader.Goals as goal
use Rattle.formats.proofs.checking.RecordCheck.check_leader.Goals.{After-find}

first : (g : Over) (c : After-find g) → FoundBeside (g.F.Format.meaning c.args.self.now.format.now).leader code_positions c.args.self.now.codes c.find.result
first g c =
    first_from_find c.find.new.self _ c.find.result (λ p. (g.F.Format.meaning c.args.self.now.format.now).leader p.0 p.1 ≡ false) (λ p. (g.F.Format.meaning c.args.self.now.format.now).leader p.0 p.1 ≡ true) c.find.ensures.ran
    (YieldsList-from_zip (YieldsList-from_slice code_positions cc) (YieldsList-from_slice c.args.self.now.codes cc))
    (λ p q k. search (rules, tests)) (λ p q k. search (rules, tests))

pub returns-in-Some : goal.returns-in-Some
returns-in-Some g c =
    first_beside (λ n. n) (g.F.Format.meaning c.args.self.now.format.now).leader (λ p n. LeaderCode p n) 0 0 tt code_positions c.args.self.now.codes 8 refl (omega arith) _ _ _ c.in-Some.is
    (first g (goal.at.returns-in-Some g c).After-find)
    ∙ ap (λ l. verdict (leader_faults (g.F.Format.meaning c.args.self.now.format.now) l) tt) (map-id c.args.self.now.codes)

pub returns-in-None : goal.returns-in-None
returns-in-None g c =
    none_beside (λ n. n) (g.F.Format.meaning c.args.self.now.format.now).leader (λ p n. LeaderCode p n) 0 0 tt code_positions c.args.self.now.codes 8 refl (omega arith) _ c.in-None.is
    (first g (goal.at.returns-in-None g c).After-find)
    ∙ ap (λ l. verdict (leader_faults (g.F.Format.meaning c.args.self.now.format.now) l) tt) (map-id c.args.self.now.codes)
