-- One step of the cursor of subfields.
use Rattle.std.proofs.Common.{◌∙◌}
use Rattle.std.proofs.lemmas.List.{at_drop_all}
use Rattle.record.specs.Reading.{subfields_in}
use Rattle.record.proofs.Pieces.{skipped, turned}
use Rattle.record.proofs.subfields.SubfieldsIterator.next.Goals as goal

pub returns-then-place-self-clause-steps : goal.returns-then-place-self-clause-steps
returns-then-place-self-clause-steps c =
    let s = c.args.self.now in
    let place = c.delimiter-place.result in
    let none = skipped s.bytes.now s.place place c.delimiter-place.ensures.value ∙ at_drop_all (subfields_in place) s.bytes.now place c.if-place-self.true in
    (none, none)

pub returns-clause-steps : goal.returns-clause-steps
returns-clause-steps c =
    let s = c.args.self.now in
    turned s.bytes.now s.place c.delimiter-place.result c.delimiter-end.result _ _ _ (record {
      found = c.delimiter-place.ensures.value;
      within = c.if-place-self.false;
      mark = c.delimiter-place.ensures.stops c.if-place-self.false;
      ended = c.delimiter-end.ensures.value;
      rest_is = c.part_of-rest.ensures.value;
      code_is = c.byte_at.ensures;
      body_is = c.rest_of.ensures;
    })
