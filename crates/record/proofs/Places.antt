-- The place of a fault that is told has at most five digits, so that number and place are read from one figure. Assumes nothing.
use Rattle.std.proofs.Common.{◌≡◌, ℕ, ◌+◌, ◌-◌, ◌*◌, ◌<◌, ◌≤◌, Bool, true, false, List, [], ◌∷◌, length, Err, sym, ap, ◌∙◌, subst, inl, ⊎_elim, arith, length-drop}
use Rattle.std.proofs.lemmas.List.{length-take}
use Rattle.std.proofs.lemmas.Bool.{cases_Bool}
use Rattle.record.specs.declared.faults.FrameFault.{FrameFault}
use Rattle.record.specs.declared.faults.FrameFault.TheVariants.{Length, Leader, Entry, DirectoryEnd, Field, RecordEnd}
use Rattle.record.specs.Broken.{Before, FirstBroken}
use Rattle.record.specs.Contents.{field_bytes, field_place}
use Rattle.record.specs.Frame.{size_rule}
use Rattle.record.specs.Leader.{base_rule}
use Rattle.record.specs.Rules.{verdict}
use Rattle.record.specs.Told.{Readable, told}
use Rattle.record.specs.Values.{values_of}
use Rattle.record.proofs.Sound.{Based, based_by, between}

-- a rule that is not broken holds
stands : (b : Bool) → (b ≡ false → ⊥) → b ≡ true
stands b h = ⊎_elim (λ e. e) (λ e. absurd (h e)) (cases_Bool b)

module _ (bs : List ℕ) (f : FrameFault) (told : FirstBroken bs f) where
  sized : Before Length f → length bs ≤ 99999
  sized earlier = (between 26 99999 (length bs) (sym (stands (size_rule bs) (told.first Length earlier)))).1

  seated : Before (Leader 12) f → Based bs
  seated earlier = based_by bs (stands (base_rule bs) (λ e. told.first (Leader 12) earlier (omega arith, e)))

pub small : (bs : List ℕ) (f : FrameFault) → FirstBroken bs f → (values_of f).place < 100000
small bs Length t = omega arith
small bs (Leader p) t = omega (arith, t.broken.0)
small bs (Entry p) t =
    let s = seated bs (Entry p) t (inl (omega arith)) in
    omega (arith, sized bs (Entry p) t (inl (omega arith)), s.whole, s.inside, t.broken.1, t.broken.2)
small bs (DirectoryEnd p) t =
    let s = seated bs (DirectoryEnd p) t (inl (omega arith)) in
    omega (arith, sized bs (DirectoryEnd p) t (inl (omega arith)), s.whole, s.inside, t.broken.0)
small bs (Field p) t =
    let k = t.broken.0 in
    let inside : length (field_bytes bs k) ≤ length bs - field_place bs k = simp (length-take, length-drop) (omega arith) in
    omega (arith, sized bs (Field p) t (inl (omega arith)), inside, t.broken.3, t.broken.4)
small bs (RecordEnd p) t = omega (arith, sized bs (RecordEnd p) t (inl (omega arith)), t.broken.0)

-- what is told of the first fault, and that its number and place are read from it
pub told_of : {X : Type 0} (fs : List FrameFault) (f : FrameFault) (x : X) (r : ℕ) → Err f ≡ verdict fs x → (values_of f).place < 100000 → r ≡ (values_of f).number * 100000 + (values_of f).place → (r ≡ told fs) × Readable fs r
told_of [] f x r e h is = cc
told_of (g ∷ gs) f x r e h is =
    let same : f ≡ g = cc in
    let small : (values_of g).place < 100000 = subst (λ u. (values_of u).place < 100000) same h in
    let sum : r ≡ (values_of g).number * 100000 + (values_of g).place = is ∙ ap (λ u. (values_of u).number * 100000 + (values_of u).place) same in
    (sum, (omega arith, omega arith))
