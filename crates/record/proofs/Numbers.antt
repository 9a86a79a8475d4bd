-- A record that is laid out from parts is refused by 18 to 21. Assumes nothing.
use Rattle.std.proofs.Common.{◌≡◌, ℕ, zero, suc, ◌-◌, Bool, true, false, List, [], ◌∷◌, length, Err, sym, refl, subst}
use Rattle.std.specs.List.{All}
use Rattle.std.proofs.lemmas.List.Elements.{All-append, All-cons, All-head, All-nil}
use Rattle.record.specs.declared.extent.Extent.{Extent}
use Rattle.record.specs.declared.faults.FrameFault.{FrameFault}
use Rattle.record.specs.Contents.{field_faults}
use Rattle.record.specs.PartsFaults.{code_faults, content_faults, extent_faults, length_faults, parts_faults, sum_faults}
use Rattle.record.specs.Rules.{from, over, rule, verdict}
use Rattle.record.specs.Values.{values_of}
use Rattle.record.specs.Writing.{write_number}

abbrev Told : FrameFault → Type 0
Told f = write_number (values_of f).number ≡ true

by_rule : (b : Bool) (f : FrameFault) → Told f → All Told (rule b f)
by_rule true f e = All-nil Told
by_rule false f e = All-cons Told f [] e (All-nil Told)

by_all : (G : ℕ → List FrameFault) → ((k : ℕ) → All Told (G k)) → (p n : ℕ) → All Told (from G p n)
unfolding from
by_all G each p zero = All-nil Told
by_all G each p (suc n) = All-append Told (G p) (from G (suc p) n) (each p) (by_all G each (suc p) n)

by_field : (tag : ℕ) (field : List ℕ) (place : ℕ) → All Told (field_faults tag field place)
unfolding field_faults
by_field tag field place = by_all _ (λ i. by_rule _ _ refl) 0 (length field - 0)

by_parts : (codes : List ℕ) (es : List Extent) (fs : List ℕ) → All Told (parts_faults codes es fs)
unfolding parts_faults
by_parts codes es fs =
    All-append Told (length_faults es fs) _ (by_rule _ _ refl)
    (All-append Told (over (code_faults codes) 0 8) _ (by_all _ (λ i. by_rule _ _ refl) 0 8)
    (All-append Told (over (extent_faults es) 0 (length es)) _ (by_all _ (λ k. by_rule _ _ refl) 0 (length es - 0))
    (All-append Told (sum_faults es fs) _ (by_rule _ _ refl)
    (by_all (content_faults es fs) (λ k. by_field _ _ _) 0 (length es - 0)))))

first_told : {X : Type 0} (fs : List FrameFault) (x : X) (f : FrameFault) → All Told fs → Err f ≡ verdict fs x → Told f
first_told [] x f ok e = cc
first_told (g ∷ fs) x f ok e = let same : f ≡ g = cc in subst Told (sym same) (All-head Told g fs ok)

pub told_parts : {X : Type 0} (codes : List ℕ) (es : List Extent) (fs : List ℕ) (x : X) (f : FrameFault) → Err f ≡ verdict (parts_faults codes es fs) x → write_number (values_of f).number ≡ true
told_parts codes es fs x f e = first_told (parts_faults codes es fs) x f (by_parts codes es fs) e
