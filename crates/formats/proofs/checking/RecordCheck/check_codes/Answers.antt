-- The search over the subfields gives the first whose code the tag lacks.
use Rattle.std.proofs.Common.{◌≡◌, not, option_map, rules, tests}
use Rattle.std.specs.List.{find}
use Rattle.std.proofs.lemmas.Iterator.Consumers.{YieldsList-from_first}
use Rattle.std.proofs.lemmas.Iterator.Search.{find_from_yields_List}
use Rattle.record.specs.Cursors.{seen_field, seen_subfield, subfields_left}
use Rattle.record.specs.Reading.{subfields_held}
use Rattle.rows.specs.Table.{present}
use Rattle.formats.specs.Faults.{code_of}
use Rattle.formats.specs.declared.faults.FormatFault.TheVariants.{Subfield}
use Rattle.formats.proofs.Searches.{found}
use Rattle.formats.proofs.checking.RecordCheck.check_codes.Given.{Over}
use Rattle.formats.proofs.checking.RecordCheck.check_codes.Goals as goal
use Rattle.formats.proofs.checking.RecordCheck.check_codes.Goals.{After-find}

first : (g : Over) (c : After-find g) → option_map seen_subfield c.find.result ≡ find (λ s. not (present ((g.F.Format.meaning c.args.self.now.format.now).subfield c.args.field.tag (code_of s)))) (subfields_held (seen_field c.args.field).holds)
first g c = find_from_yields_List _ c.find.new.self _ c.find.result c.find.ensures.ran (YieldsList-from_first seen_subfield subfields_left _ c.subfields-subfields.ensures) (λ s b q k. search (rules, tests))

pub returns-in-Some : goal.returns-in-Some
returns-in-Some g c =
    found (λ s. present ((g.F.Format.meaning c.args.self.now.format.now).subfield c.args.field.tag (code_of s))) (λ s. Subfield s.place c.args.field.tag (code_of s)) seen_subfield (subfields_held (seen_field c.args.field).holds) _ _ c.in-Some.is
    (first g (goal.at.returns-in-Some g c).After-find)

pub returns-in-None : goal.returns-in-None
returns-in-None g c =
    found (λ s. present ((g.F.Format.meaning c.args.self.now.format.now).subfield c.args.field.tag (code_of s))) (λ s. Subfield s.place c.args.field.tag (code_of s)) seen_subfield (subfields_held (seen_field c.args.field).holds) _ _ c.in-None.is
    (first g (goal.at.returns-in-None g c).After-find)
