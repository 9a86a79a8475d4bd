-- The six parts of the leader are written one after the other.
use Rattle.std.proofs.Common.{◌≡◌, length, take, drop, rules, refl, ◌∙◌, append_assoc, arith, length-drop}
use Rattle.std.proofs.lemmas.List.{length-take-le, places}
use Rattle.record.specs.Layout.{figure}
use Rattle.record.proofs.Decimals.{length_figure}
use Rattle.record.proofs.Puts.{next, nothing, whole}
use Rattle.record.proofs.output.put_leader.Goals as goal

pub returns : goal.returns
returns c =
    let codes = c.args.codes.now in
    let len = c.args.len in
    let base = c.args.base in
    let five : length (take 5 codes) ≡ 5 = length-take-le 5 codes (omega arith) in
    let three : length (take 3 (drop 5 codes)) ≡ 3 = length-take-le 3 (drop 5 codes) (omega (arith, length-drop 5 codes)) in
    let f1 : c.put_figure.new.out ≡ figure 5 len = search (rules, places) in
    let f2 : c.put_figure-2.new.out ≡ figure 5 base = search (rules, places) in
    let w1 = next (nothing c.args.out.now) 0 5 refl f1 (length_figure 5 len) in
    let w2 = next w1 5 5 refl c.copy_from_slice.ensures.after five in
    let w3 = next w2 10 2 refl c.copy_from_slice-2.ensures.after refl in
    let w4 = next w3 12 5 refl f2 (length_figure 5 base) in
    let w5 = next w4 17 3 refl c.copy_from_slice-3.ensures.after three in
    let w6 = next w5 20 4 refl c.copy_from_slice-4.ensures.after refl in
    whole w6 c.requires.room ∙ simp append_assoc
