-- A record is read where the frame check passes.
use Rattle.std.proofs.Common.{refl}
use Rattle.record.specs.Frame.{frame_faults, frame_of}
use Rattle.record.specs.Trips.{Reads}
use Rattle.record.proofs.Trips.{reads}
use Rattle.record.proofs.Verdicts.{answered, none, value}
use Rattle.record.proofs.reading.read.Goals as goal

pub returns : goal.returns
returns c =
    let bs = c.args.record.now in
    let passed = c.in_ok-frame.ensures.answer in
    let framed = none (frame_faults bs) (frame_of bs) _ passed in
    answered (Reads bs) (frame_faults bs) framed _ (reads bs _ framed refl (value (frame_faults bs) (frame_of bs) _ passed))
