-- A fault of the parts is a fault of the record; without one the record is written where there is room, and is read back.
use Rattle.std.proofs.Common.{◌≡◌, ℕ, Bool, true, false, leb, List, [], ◌∷◌, ◌++◌, map, length, take, drop, IfOk, IfErr, Ok, Err, Result, sym, refl, ap, ◌∙◌, subst, arith}
use Rattle.std.proofs.lemmas.List.{take_at}
use Rattle.std.proofs.lemmas.Bool.{le-leb, lt-leb}
use Rattle.record.specs.declared.extent.Extent.{Extent}
use Rattle.record.specs.declared.faults.FrameFault.{FrameFault}
use Rattle.record.specs.declared.output.CheckedParts.{CheckedParts}
use Rattle.record.specs.declared.writing.WriteFault.{WriteFault}
use Rattle.record.specs.declared.writing.WriteFault.TheVariants.{Frame, ShortBuffer}
use Rattle.record.specs.Formed.{Formed}
use Rattle.record.specs.Frame.{Framed, frame_faults}
use Rattle.record.specs.Layout.{laid, laid_from, laid_length, layout}
use Rattle.record.specs.Parts.{Parts}
use Rattle.record.specs.PartsFaults.{faults_in, parts_faults}
use Rattle.record.specs.Rules.{Verdict, rule, verdict}
use Rattle.record.specs.Trips.{OfParts, ReadBack}
use Rattle.record.specs.Writing.{left_by, room_for, write_faults, write_number, write_values}
use Rattle.record.proofs.Back.{laid_framed}
use Rattle.record.proofs.Judged.{framed_when, judged, right_when}
use Rattle.record.proofs.Laid.{length-laid}
use Rattle.record.proofs.Numbers.{told_parts}
use Rattle.record.proofs.Trips.{laid_parts, read_back}
use Rattle.record.proofs.Verdicts.{known, returned}
use Rattle.record.proofs.parts.RecordParts.write.Goals as goal
use Rattle.record.proofs.parts.RecordParts.write.Goals.{In_ok-checked}

-- the first fault of the frame is the first of writing
carried : (fs : List FrameFault) (rest : List WriteFault) (x y : ℕ) (f : FrameFault) → Err f ≡ verdict fs x → Err (Frame f) ≡ verdict (map Frame fs ++ rest) y
carried [] rest x y f e = cc
carried (g ∷ fs) rest x y f e = let same : f ≡ g = cc in ap (λ h. Err (Frame h)) same

first_fault : (codes : List ℕ) (es : List Extent) (fs old : List ℕ) → length codes ≡ 8 → (f : FrameFault) → Err f ≡ verdict (parts_faults codes es fs) (laid_length es fs) → Err (Frame f) ≡ verdict (write_faults (laid codes es fs) old) (length (laid codes es fs))
first_fault codes es fs old eight f e = carried (frame_faults (laid codes es fs)) _ _ _ f (e ∙ sym (judged codes es fs eight (laid_length es fs)))

-- where the frame holds, only the buffer may be short
roomy : (bs old : List ℕ) → Framed bs → (t : Bool) → leb (length bs) (length old) ≡ t → verdict (rule t ShortBuffer) (length bs) ≡ verdict (write_faults bs old) (length bs)
roomy bs old framed t e = sym (λ i. verdict (map Frame (framed i) ++ rule (e i) ShortBuffer) (length bs))

-- so it is of well-formed parts
room_formed : (codes : List ℕ) (es : List Extent) (fs old : List ℕ) (r : Result ℕ WriteFault) → r ≡ verdict (write_faults (laid codes es fs) old) (length (laid codes es fs)) → (p : Parts) → Formed p → OfParts p codes es fs → r ≡ room_for (layout p) old
room_formed codes es fs old r is p formed of =
    is
    ∙ ap (λ bs. verdict (write_faults bs old) (length bs)) (laid_parts p codes es fs of)
    ∙ sym (roomy (layout p) old (laid_framed (layout p) (record { parts = p; formed = formed; end_to_end = refl })) (leb (length (layout p)) (length old)) refl)

-- what a check says that failed
failed : (P : CheckedParts → Type 0) (fs : List FrameFault) (f : FrameFault) (x : ℕ) → Verdict fs P (Err f) → Err f ≡ verdict fs x
failed P [] f x h = absurd h
failed P (g ∷ fs) f x h = ap Err h

-- the record that parts without faults make, and its length
module _ (c : In_ok-checked) where
  abbrev codes : List ℕ
  codes = c.args.self.now.codes

  abbrev es : List Extent
  es = c.args.self.now.extents.now

  abbrev fs : List ℕ
  fs = c.args.self.now.fields.now

  eight : length codes ≡ 8
  eight = omega arith

  same : c.in_ok-checked.checked.parts ≡ c.args.self.now
  same = known (λ x. x.parts ≡ c.args.self.now) _ _ c.in_ok-checked.ensures

  faultless : parts_faults codes es fs ≡ []
  faultless = ap faults_in (sym same) ∙ c.in_ok-checked.checked.faultless

  framed : Framed (laid codes es fs)
  framed = framed_when codes es fs eight faultless

  long : (len : ℕ) → len ≡ laid_length c.in_ok-checked.checked.parts.extents.now c.in_ok-checked.checked.parts.fields.now → len ≡ length (laid codes es fs)
  long len e = e ∙ ap (λ p. laid_length p.extents.now p.fields.now) same ∙ sym (length-laid codes es fs eight)

pub returns-in_err-checked : goal.returns-in_err-checked
returns-in_err-checked c =
    let codes = c.args.self.now.codes in
    let es = c.args.self.now.extents.now in
    let fs = c.args.self.now.fields.now in
    let bs = laid codes es fs in
    let old = c.args.out.now in
    let eight : length codes ≡ 8 = omega arith in
    let is = returned _ _ c.from_residual.ensures.1 in
    let Back : Result ℕ WriteFault → Type 0 = λ r. IfOk r (λ n. ReadBack codes es fs (take n old)) in
    let first = failed _ (parts_faults codes es fs) _ (laid_length es fs) c.in_err-checked.ensures in
    let answer = is ∙ first_fault codes es fs old eight _ first in
    record {
      answer = answer;
      buffer = sym (ap (λ r. left_by r bs old) is);
      numbers = subst (λ r. IfErr r (λ f. write_number (write_values f).number ≡ true)) (sym is) (told_parts codes es fs (laid_length es fs) _ first);
      formed = room_formed codes es fs old _ answer;
      read_back = subst Back (sym is) tt;
    }

pub returns-then-out-len : goal.returns-then-out-len
returns-then-out-len c =
    let d = (goal.at.returns-then-out-len c).In_ok-checked in
    let l = long d _ c.len-len.ensures in
    let answer = roomy _ c.args.out.now (framed d) false (lt-leb _ _ (omega arith)) in
    record { answer = answer; buffer = refl; numbers = refl; formed = room_formed _ _ _ _ _ answer; read_back = tt }

pub returns : goal.returns
returns c =
    let codes = c.args.self.now.codes in
    let es = c.args.self.now.extents.now in
    let fs = c.args.self.now.fields.now in
    let bs = laid codes es fs in
    let old = c.args.out.now in
    let d = (goal.at.returns c).In_ok-checked in
    let l = long d _ c.len-len.ensures in
    let answer = ap Ok l ∙ roomy bs old (framed d) true (le-leb _ _ (omega arith)) in
    let record_is : c.put.new.out ≡ bs = c.put.ensures ∙ ap laid_from (same d) in
    let whole : c.put.new.out ++ drop c.len-len.result old ≡ bs ++ drop (length bs) old = λ i. record_is i ++ drop (l i) old in
    let written = ap (take c.len-len.result) whole ∙ take_at bs (drop (length bs) old) _ (sym l) in
    record {
      answer = answer;
      buffer = whole;
      numbers = tt;
      formed = room_formed codes es fs old _ answer;
      read_back = subst (ReadBack codes es fs) (sym written) (read_back codes es fs (right_when codes es fs (eight d) (faultless d)) (framed d));
    }
