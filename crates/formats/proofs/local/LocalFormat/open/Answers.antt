-- Rows that pass are sound by their check, and the bare ones by computing.
use Rattle.std.proofs.Common.{ap, ◌∙◌}
use Rattle.rows.specs.Faults.{sound}
use Rattle.rows.proofs.Passing.{bare_sound}
use Rattle.formats.proofs.local.LocalFormat.open.Goals as goal

pub invariant_of-result-2 : goal.invariant_of-result-2
invariant_of-result-2 c = record { passes = ap sound c.bare.ensures ∙ bare_sound }
