-- What is told is the first fault's number and place, and both can be read from it.
use Rattle.std.proofs.Common.{◌≡◌, ◌+◌, ◌*◌, ◌<◌, sym, ap, ◌∙◌, subst}
use Rattle.record.specs.declared.faults.Values.{Values}
use Rattle.record.specs.Frame.{frame_faults, frame_of}
use Rattle.record.specs.Values.{values_of}
use Rattle.record.proofs.Places.{small, told_of}
use Rattle.record.proofs.c_call.ibermarc21_frame_check.Goals as goal

pub in_one_number-requires : goal.in_one_number-requires
in_one_number-requires c =
    subst (λ (v : Values). v.place < 100000) (sym c.values.ensures) (small c.args.record.now c.in-Err.fault c.in-Err.ensures.rules)

pub returns-in-Err : goal.returns-in-Err
returns-in-Err c =
    let bs = c.args.record.now in
    let sum : c.in_one_number.result ≡ (values_of c.in-Err.fault).number * 100000 + (values_of c.in-Err.fault).place = c.in_one_number.ensures ∙ ap (λ (v : Values). v.number * 100000 + v.place) c.values.ensures in
    let t = told_of (frame_faults bs) c.in-Err.fault (frame_of bs) c.in_one_number.result c.in-Err.ensures.answer (small bs c.in-Err.fault c.in-Err.ensures.rules) sum in
    record { answer = t.0; readable = t.1 }
