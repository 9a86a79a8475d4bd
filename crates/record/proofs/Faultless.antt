-- What parts without a fault say: each of their stages has none, their record is short enough, and their extents fit and fill the fields. Assumes nothing.
use Rattle.std.proofs.Common.{◌≡◌, ℕ, ◌<◌, ◌≤◌, true, List, [], length, sym}
use Rattle.std.proofs.lemmas.Bool.{eqb-true}
use Rattle.record.specs.declared.extent.Extent.{Extent}
use Rattle.record.specs.Extents.{extent_of, starts, total}
use Rattle.record.specs.Layout.{laid_length}
use Rattle.record.specs.PartsFaults.{code_faults, extent_faults, extent_rule, length_faults, parts_faults, sum_faults}
use Rattle.record.specs.Rules.{over}
use Rattle.record.proofs.Ranges.{every}
use Rattle.record.proofs.Sound.{between}
use Rattle.record.proofs.Verdicts.{holds, parts}

pub fits : (es : List Extent) → over (extent_faults es) 0 (length es) ≡ [] → (k : ℕ) → k < length es → extent_rule (extent_of es k) (starts es k) ≡ true
fits es e k h = holds _ _ (every (extent_faults es) (length es) e k h)

module _ (es : List Extent) (fs : List ℕ) where
  pub short_enough : length_faults es fs ≡ [] → laid_length es fs ≤ 99999
  short_enough e = (between 26 99999 (laid_length es fs) (sym (holds _ _ e))).1

  pub fills : sum_faults es fs ≡ [] → total es ≡ length fs
  fills e = eqb-true _ _ (holds _ _ e)

pub record Faultless (codes : List ℕ) (es : List Extent) (fs : List ℕ) : Type 0 where
  pub length_none : length_faults es fs ≡ []
  pub codes_none : over (code_faults codes) 0 8 ≡ []
  pub extents_none : over (extent_faults es) 0 (length es) ≡ []
  pub sum_none : sum_faults es fs ≡ []
  pub short : laid_length es fs ≤ 99999
  pub rules : (k : ℕ) → k < length es → extent_rule (extent_of es k) (starts es k) ≡ true
  pub sum : total es ≡ length fs

pub faultless : (codes : List ℕ) (es : List Extent) (fs : List ℕ) → parts_faults codes es fs ≡ [] → Faultless codes es fs
unfolding parts_faults
faultless codes es fs none =
    let a = parts (length_faults es fs) _ none in
    let b = parts (over (code_faults codes) 0 8) _ a.1 in
    let c = parts (over (extent_faults es) 0 (length es)) _ b.1 in
    let d = parts (sum_faults es fs) _ c.1 in
    record {
      length_none = a.0;
      codes_none = b.0;
      extents_none = c.0;
      sum_none = d.0;
      short = short_enough es fs a.0;
      rules = fits es c.0;
      sum = fills es fs d.0;
    }
