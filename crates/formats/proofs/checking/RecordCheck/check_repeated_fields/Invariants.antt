-- The faults of all fields are those of the fields that are left, after the tags that are marked.
use Rattle.record.specs.Cursors.{fields_left}
use Rattle.formats.specs.Faults.{second_field}
use Rattle.formats.proofs.Repeats.{Repeating}
use Rattle.formats.proofs.checking.RecordCheck.check_repeated_fields.Given as goal

abbrev pub invariant-loop-field : goal.invariant-loop-field
invariant-loop-field g l = Repeating (g.F.Format.meaning l.self.format.now).occurs (λ f. f.tag) second_field (fields_left l.initial.field-iterator) l.marks.table (fields_left l.field-iterator)
