-- The first fault of a field is the first of all fields.
use Rattle.std.proofs.Common.{rules, tests}
use Rattle.record.specs.Cursors.{fields_left, seen_field}
use Rattle.formats.specs.Faults.{subfield_faults}
use Rattle.formats.proofs.Each.{answered}
use Rattle.formats.proofs.checking.RecordCheck.check_subfields.Goals as goal

pub returns : goal.returns
returns g c = answered fields_left seen_field (subfield_faults (g.F.Format.meaning c.args.self.now.format.now)) _ (λ f v q k. search (rules, tests)) c.args.self.now.fields c.try_for_each.new.self c.try_for_each.result c.try_for_each.ensures.ran
