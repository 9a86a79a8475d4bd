-- Leader, directory, 1E, fields and 1D are written one after the other.
use Rattle.std.proofs.Common.{◌≡◌, ◌+◌, ◌-◌, ◌*◌, [], ◌∷◌, ◌++◌, length, refl, ap, ◌∙◌, append_assoc, arith}
use Rattle.record.specs.Layout.{directory, laid, leader}
use Rattle.record.proofs.Faultless.{faultless}
use Rattle.record.proofs.Laid.{length-directory}
use Rattle.record.proofs.Leaders.{length-leader}
use Rattle.record.proofs.Puts.{next, next_byte, nothing, whole}
use Rattle.record.proofs.output.CheckedParts.put.Goals as goal

pub put_leader-requires-clause-short_length : goal.put_leader-requires-clause-short_length
put_leader-requires-clause-short_length c = omega (arith, (faultless _ _ _ c.args.self.now.faultless).short)

pub put_leader-requires-clause-short_base : goal.put_leader-requires-clause-short_base
put_leader-requires-clause-short_base c = omega (arith, (faultless _ _ _ c.args.self.now.faultless).short)

pub returns : goal.returns
unfolding laid
returns c =
    let codes = c.args.self.now.parts.codes in
    let es = c.args.self.now.parts.extents.now in
    let fs = c.args.self.now.parts.fields.now in
    let long = length c.args.out.now in
    let base = 25 + 12 * length es in
    let front : length (leader codes long base) ≡ 24 = length-leader codes long base (omega arith) in
    let w1 = next (nothing c.args.out.now) 0 24 refl c.put_leader.ensures front in
    let w2 = next w1 24 (base - 1 - 24) refl c.put_directory.ensures (omega (arith, length-directory 0 es)) in
    let w3 = next_byte w2 (base - 1) 30 (omega arith) (omega arith) in
    let w4 = next w3 base (long - 1 - base) (omega arith) c.copy_from_slice.ensures.after (omega arith) in
    let w5 = next_byte w4 (long - 1) 29 (omega arith) (omega arith) in
    let whole_is : (((leader codes long base ++ directory 0 es) ++ (30 ∷ [])) ++ fs) ++ (29 ∷ []) ≡ leader codes long base ++ (directory 0 es ++ (30 ∷ (fs ++ (29 ∷ [])))) = simp append_assoc in
    whole w5 (omega arith) ∙ whole_is ∙ ap (λ n. leader codes n base ++ (directory 0 es ++ (30 ∷ (fs ++ (29 ∷ []))))) c.requires
