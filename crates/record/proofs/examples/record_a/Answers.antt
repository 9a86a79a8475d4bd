-- The known answers and parts come out by computing.
use Rattle.std.proofs.Common.{refl}
use Rattle.record.specs.Contents.{field_faults, fields_faults}
use Rattle.record.specs.Directory.{directory_faults, sizes_before}
use Rattle.record.specs.Frame.{frame_faults}
use Rattle.record.specs.Layout.{laid}
use Rattle.record.specs.Leader.{leader_faults}
use Rattle.record.specs.Reading.{fields_from}
use Rattle.record.specs.Rules.{from}
use Rattle.record.proofs.examples.record_a.Goals as goal

pub returns : goal.returns
unfolding frame_faults leader_faults directory_faults sizes_before fields_faults field_faults from fields_from laid
returns c = record {
  bytes = refl;
  known = record { one_field = refl; long = refl; no_mark = refl; none = refl; short = refl };
  parts = record { read = refl; written = refl; placed = refl; none_read = refl; none_written = refl };
}
