-- The search over the fields gives the first whose tag the format lacks.
use Rattle.std.proofs.Common.{◌≡◌, not, option_map, rules, tests}
use Rattle.std.specs.List.{find}
use Rattle.std.proofs.lemmas.Iterator.Consumers.{YieldsList-from_first}
use Rattle.std.proofs.lemmas.Iterator.Search.{find_from_yields_List}
use Rattle.record.specs.Cursors.{fields_left, seen_field}
use Rattle.rows.specs.Table.{present}
use Rattle.formats.specs.declared.faults.FormatFault.TheVariants.{Tag}
use Rattle.formats.proofs.Searches.{found}
use Rattle.formats.proofs.checking.RecordCheck.check_tags.Given.{Over}
use Rattle.formats.proofs.checking.RecordCheck.check_tags.Goals as goal
use Rattle.formats.proofs.checking.RecordCheck.check_tags.Goals.{After-find}

first : (g : Over) (c : After-find g) → option_map seen_field c.find.result ≡ find (λ f. not (present ((g.F.Format.meaning c.args.self.now.format.now).occurs f.tag))) (fields_left c.args.self.now.fields)
first g c = find_from_yields_List _ c.find.new.self _ c.find.result c.find.ensures.ran (YieldsList-from_first seen_field fields_left (fields_left c.args.self.now.fields) cc) (λ f b q k. search (rules, tests))

pub returns-in-Some : goal.returns-in-Some
returns-in-Some g c =
    found (λ f. present ((g.F.Format.meaning c.args.self.now.format.now).occurs f.tag)) (λ f. Tag f.entry f.tag) seen_field (fields_left c.args.self.now.fields) _ _ c.in-Some.is
    (first g (goal.at.returns-in-Some g c).After-find)

pub returns-in-None : goal.returns-in-None
returns-in-None g c =
    found (λ f. present ((g.F.Format.meaning c.args.self.now.format.now).occurs f.tag)) (λ f. Tag f.entry f.tag) seen_field (fields_left c.args.self.now.fields) _ _ c.in-None.is
    (first g (goal.at.returns-in-None g c).After-find)
