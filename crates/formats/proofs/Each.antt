-- A cursor whose items are checked one after the other by `try_for_each`: the first fault of a check is the first fault of all. Assumes nothing.
use Rattle.std.proofs.Common.{◌≡◌, List, [], ◌∷◌, ◌++◌, Some, None, Result, IsErr, IsErrAnd, sym, refl, ap, ◌∙◌, subst}
use denote.Param.Members.{Mut}
use Rattle.std.specs.Fn.{Called}
use Rattle.std.specs.Iterator.{TryCallsOnEach, TryForEachTurn, Yields, YieldsFirstBy}
use Rattle.std.specs.List.{All, FoldsTo, flat_map}
use Rattle.std.proofs.lemmas.List.Elements.{All-head, All-rest, All-same}
use Rattle.std.specs.Result.{result_from_control_flow}
use Rattle.record.specs.Rules.{verdict}
use Rattle.record.proofs.Verdicts.{first, none, returned}

module _ {S A B P F : Type 0} (left : S → List B) (seen : A → B) (faults : B → List F) {g : Mut P (A × Unit {0}) (Result (Unit {0}) F)} (p : P)
    (checks : (x : A) (v : Result (Unit {0}) F) (q : P) → Called g p (x, tt) v q → (q ≡ p) × (v ≡ verdict (faults (seen x)) tt)) where
  -- the items before passed, and the closure is as it was
  passed : (xs : List A) (s t : S) (q r : P) → q ≡ p → Yields (YieldsFirstBy seen left) s xs t → FoldsTo (TryForEachTurn g (λ v o. v ≡ result_from_control_flow o)) q xs r → (r ≡ p) × (flat_map faults (left s) ≡ flat_map faults (left t))
  passed [] s t q r same went calls = (sym calls ∙ same, ap (λ u. flat_map faults (left u)) went)
  passed (x ∷ xs) s t q r same (u, step, more) (h, (v, called, ok), calls) =
      let here = checks x v h (subst (λ f. Called g f (x, tt) v h) same called) in
      let clear : faults (seen x) ≡ [] = none (faults (seen x)) tt tt (sym ok ∙ here.1) in
      let rest = passed xs u t h r here.0 more calls in
      (rest.0, ap (flat_map faults) step ∙ ap (λ l. l ++ flat_map faults (left u)) clear ∙ rest.1)

  pub answered : (s u : S) (r : Result (Unit {0}) F) → TryCallsOnEach (YieldsFirstBy seen left) g (λ v o. v ≡ result_from_control_flow o) (λ e o. IsErr o × IsErrAnd o (λ f. f ≡ e.0)) s p r u → r ≡ verdict (flat_map faults (left s)) tt
  answered s u r (xs, None, q, (t, went, step), calls, end) =
      let before = passed xs s t p q refl went calls in
      end ∙ sym (ap (λ l. verdict l (tt {0})) (before.1 ∙ ap (flat_map faults) step.0))
  answered s u r (xs, Some x, q, (t, went, step), calls, (v, h, e, called, broke, told)) =
      let before = passed xs s t p q refl went calls in
      let here = checks x v h (subst (λ f. Called g f (x, tt) v h) before.0 called) in
      returned r e.0 told.1
      ∙ first (faults (seen x)) (flat_map faults (left u)) tt tt e.0 (sym broke ∙ here.1)
      ∙ sym (ap (λ l. verdict l (tt {0})) (before.1 ∙ ap (flat_map faults) step))

-- what holds of each item that is left holds of the one that is handed out
module _ {S A B : Type 0} (left : S → List B) (seen : A → B) (Q : B → Type 0) where
  pub holds_of_next : (xs : List A) (s t u : S) (x : A) → All Q (left s) → Yields (YieldsFirstBy seen left) s xs t → YieldsFirstBy seen left t (Some x) u → Q (seen x)
  holds_of_next [] s t u x all went step = All-head Q (seen x) (left u) (All-same Q _ (left s) (sym (ap left went ∙ step)) all)
  holds_of_next (y ∷ ys) s t u x all (j, now, more) step = holds_of_next ys j t u x (All-rest Q (seen y) (left j) (left s) now all) more step
