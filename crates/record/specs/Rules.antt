-- Rules in their order: the faults of those that are broken, and the answer that they give. Assumes nothing.
use Rattle.std.specs.Prelude.{◌≡◌, ℕ, zero, suc, ◌-◌, Bool, true, false, List, [], ◌∷◌, ◌++◌, Ok, Err, Result, MatchResult}

-- the fault f where a rule is broken
abbrev pub rule : {F : Type 0} → Bool → F → List F
rule true f = []
rule false f = f ∷ []

-- the faults at n places from p on
unfoldable pub from : {F : Type 0} → (ℕ → List F) → ℕ → ℕ → List F
from G p zero = []
from G p (suc n) = G p ++ from G (suc p) n

-- the faults at a, a + 1, .., b - 1
abbrev pub over : {F : Type 0} → (ℕ → List F) → ℕ → ℕ → List F
over G a b = from G a (b - a)

-- the answer of a check: its first fault, or a value where there is none
abbrev pub verdict : {F X : Type 0} → List F → X → Result X F
verdict [] x = Ok x
verdict (f ∷ fs) x = Err f

-- the same, where the value is known by what holds of it
abbrev pub Verdict : {F X : Type 0} → List F → (X → Type 0) → Result X F → Type 0
Verdict [] P r = MatchResult r P (λ _. ⊥)
Verdict (f ∷ fs) P r = MatchResult r (λ _. ⊥) (λ g. g ≡ f)
