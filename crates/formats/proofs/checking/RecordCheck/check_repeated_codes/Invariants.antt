-- The faults of all subfields are those of the subfields that are left, after the codes that are marked.
use Rattle.record.specs.Cursors.{subfields_left}
use Rattle.formats.specs.Faults.{code_of, second_subfield}
use Rattle.formats.proofs.Repeats.{Repeating}
use Rattle.formats.proofs.checking.RecordCheck.check_repeated_codes.Given as goal

abbrev pub invariant-loop-subfield : goal.invariant-loop-subfield
invariant-loop-subfield g l = Repeating ((g.F.Format.meaning l.self.format.now).subfield l.field.tag) code_of (second_subfield l.field.tag) (subfields_left l.initial.subfield-iterator) l.marks.table (subfields_left l.subfield-iterator)
