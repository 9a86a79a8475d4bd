-- The cursor of fields, and each cursor of subfields, hands out all that is left for it.
use Rattle.std.proofs.Common.{map, ap, ◌∙◌, map-id}
use Rattle.record.specs.Cursors.{fields_left, seen_field, seen_subfield, subfields_left}
use Rattle.record.specs.Reading.{bare, fields_from}
use Rattle.record.proofs.Handed.{all_handed}
use Rattle.record.proofs.reading.Record.fields.Goals as goal

pub returns : goal.returns
returns c =
    let all = c.new.ensures ∙ ap (fields_from c.args.self.now.bytes.now 0) c.entries.ensures in
    record {
      left = all;
      fields = all_handed fields_left seen_field (λ f. f) c.new.result _ (map-id _ ∙ all);
      parts = λ bs is. all_handed fields_left seen_field bare c.new.result _ (ap (map bare) (all ∙ is.fields_are));
      subfields = λ s. all_handed subfields_left seen_subfield (λ f. f) s _ (map-id _);
    }
