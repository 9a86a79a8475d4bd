-- What is left decides, and the place of the next field.
use Rattle.std.proofs.Common.{◌≡◌}
use Rattle.record.specs.Contents.{fields_faults, faults_of, field_place}
use Rattle.record.specs.Rules.{over}
use Rattle.record.proofs.directory.Directory.check_fields.Given as goal

-- what is left decides
abbrev pub invariant-loop-k : goal.invariant-loop-k
invariant-loop-k l = (fields_faults l.self.bytes.now ≡ over (faults_of l.self.bytes.now) l.k l.self.entries) × (l.place ≡ field_place l.self.bytes.now l.k)
