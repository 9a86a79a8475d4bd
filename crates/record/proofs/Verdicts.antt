-- What the answer of a check says of its list of faults. Assumes nothing.
use Rattle.std.proofs.Common.{◌≡◌, Bool, true, false, List, [], ◌∷◌, ◌++◌, IsErrAnd, Ok, Err, Result, sym, refl, ap, ◌∙◌, subst}
use Rattle.std.proofs.lemmas.Result.{err_from_is_err_and}
use Rattle.record.specs.Rules.{Verdict, rule, verdict}

module _ {F X : Type 0} where
  -- a check that passed found no fault, and gave its value
  pub none : (fs : List F) (x y : X) → Ok y ≡ verdict fs x → fs ≡ []
  none [] x y e = refl
  none (f ∷ fs) x y e = cc

  pub value : (fs : List F) (x y : X) → Ok y ≡ verdict fs x → y ≡ x
  value [] x y e = cc
  value (f ∷ fs) x y e = cc

  -- the fault of a check is the first of what goes on after it
  pub first : {Y : Type 0} (fs gs : List F) (x : X) (y : Y) (f : F) → Err f ≡ verdict fs x → Err f ≡ verdict (fs ++ gs) y
  first [] gs x y f e = cc
  first (g ∷ fs) gs x y f e = cc

  -- checks that give the same answer, before others that do so where the first have no fault
  pub alike : (fs fs' gs gs' : List F) (x : X) → verdict fs x ≡ verdict fs' x → (fs' ≡ [] → verdict gs x ≡ verdict gs' x) → verdict (fs ++ gs) x ≡ verdict (fs' ++ gs') x
  alike [] [] gs gs' x e next = next refl
  alike [] (g ∷ fs') gs gs' x e next = cc
  alike (f ∷ fs) [] gs gs' x e next = cc
  alike (f ∷ fs) (g ∷ fs') gs gs' x e next = e

  pub none_alike : (fs gs : List F) (x : X) → verdict fs x ≡ verdict gs x → gs ≡ [] → fs ≡ []
  none_alike fs gs x e n = none fs x x (sym (e ∙ ap (λ l. verdict l x) n))

module _ {F : Type 0} where
  -- a check with no fault is passed over
  pub skip : {fs : List F} (gs : List F) → fs ≡ [] → fs ++ gs ≡ gs
  skip gs e = ap (λ l. l ++ gs) e

  pub parts : (fs gs : List F) → fs ++ gs ≡ [] → (fs ≡ []) × (gs ≡ [])
  parts [] gs e = (refl, e)
  parts (f ∷ fs) gs e = cc

  pub holds : (b : Bool) (f : F) → rule b f ≡ [] → b ≡ true
  holds true f e = refl
  holds false f e = cc

  pub unbroken : (b : Bool) (f : F) → b ≡ true → rule b f ≡ []
  unbroken b f e = ap (λ t. rule t f) e

-- what `?` returns where a check failed
pub returned : {X E : Type 0} (r : Result X E) (e : E) → IsErrAnd r (λ g. g ≡ e) → r ≡ Err e
returned r e h = let p = err_from_is_err_and r h in p.1 ∙ ap Err p.2

-- the first fault answers, whatever holds of the value
pub refused : {F X Y : Type 0} (P : X → Type 0) (fs : List F) (y : Y) (f : F) → Err f ≡ verdict fs y → Verdict fs P (Err f)
refused P [] y f e = cc
refused P (g ∷ fs) y f e = cc

-- an answer that is known by what holds of its value
module _ {F X : Type 0} (P : X → Type 0) (fs : List F) where
  pub answered : fs ≡ [] → (x : X) → P x → Verdict fs P (Ok x)
  answered e x h = subst (λ l. Verdict l P (Ok x)) (sym e) h

  pub known : (x : X) → Verdict fs P (Ok x) → P x
  known x = by fs
    where
      by : (gs : List F) → Verdict gs P (Ok x) → P x
      by [] h = h
      by (g ∷ gs) h = absurd h
