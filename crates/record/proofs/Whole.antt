-- The frame check passes exactly what is laid out from well-formed parts. Assumes nothing.
use Rattle.std.proofs.Common.{◌≡◌, ℕ, List, Ok, Err, Result, ap, ◌∙◌, MatchResult}
use Rattle.record.specs.declared.faults.FrameFault.{FrameFault}
use Rattle.record.specs.declared.frame.Frame.{Frame}
use Rattle.record.specs.Formed.{LaidOut}
use Rattle.record.specs.Frame.{frame_faults, frame_of}
use Rattle.record.specs.Rules.{verdict}
use Rattle.record.proofs.Back.{laid_framed}
use Rattle.record.proofs.Forth.{framed_laid}
use Rattle.record.proofs.Verdicts.{none}

pub passed_when_laid : (bs : List ℕ) (r : Result Frame FrameFault) → r ≡ verdict (frame_faults bs) (frame_of bs) → MatchResult r (λ _. LaidOut bs) (λ _. LaidOut bs → ⊥)
passed_when_laid bs (Ok x) e = framed_laid bs (none (frame_faults bs) (frame_of bs) x e)
passed_when_laid bs (Err f) e = λ l.
    let told : Err f ≡ Ok (frame_of bs) = e ∙ ap (λ fs. verdict fs (frame_of bs)) (laid_framed bs l) in
    cc
