-- The first fault of a field is the first of all fields, which begin at small places.
use Rattle.std.proofs.Common.{◌<◌, rules, tests}
use Rattle.record.specs.Cursors.{fields_left, seen_field}
use Rattle.formats.specs.Faults.{indicator_faults}
use Rattle.formats.proofs.Each.{answered, holds_of_next}
use Rattle.formats.proofs.checking.RecordCheck.check_indicators.Goals as goal

pub try_for_each-requires-clause-callable : goal.try_for_each-requires-clause-callable
try_for_each-requires-clause-callable g c = record { at = λ xs t q f u went calls step. let small = holds_of_next fields_left seen_field (λ f. f.place < 100000) xs c.args.self.now.fields t u f c.args.self.now.small went step in search (rules, tests) }

pub returns : goal.returns
returns g c = answered fields_left seen_field (indicator_faults (g.F.Format.meaning c.args.self.now.format.now)) _ (λ f v q k. search (rules, tests)) c.args.self.now.fields c.try_for_each.new.self c.try_for_each.result c.try_for_each.ensures.ran
