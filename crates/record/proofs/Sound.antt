-- What a leader and a directory without faults say of the fields. Assumes nothing.
use Rattle.std.proofs.Common.{◌≡◌, ℕ, zero, suc, ◌+◌, ◌-◌, ◌*◌, ◌<◌, ◌≤◌, true, List, [], length, sym, refl, add-zero, add-one, arith}
use Rattle.std.proofs.lemmas.Bool.{and_parts, eqb-true, leb-true, ltb-true}
use Rattle.record.specs.declared.faults.FrameFault.TheVariants.{Leader}
use Rattle.record.specs.Classes.{within}
use Rattle.record.specs.Directory.{directory_end_rule, directory_faults, entry_size, sizes_before}
use Rattle.record.specs.Leader.{base, base_rule, entry_count, leader_faults, leader_rule}
use Rattle.record.specs.Rules.{rule}
use Rattle.record.proofs.Ranges.{every}
use Rattle.record.proofs.Verdicts.{holds, parts}

-- what a leader without faults says of the base
pub record Based (bs : List ℕ) : Type 0 where
  pub whole : base bs ≡ 25 + 12 * entry_count bs
  pub inside : base bs < length bs

pub based_by : (bs : List ℕ) → base_rule bs ≡ true → Based bs
based_by bs ok = let ps = and_parts _ _ (and_parts _ _ ok).1 in record { whole = eqb-true _ _ ps.0; inside = ltb-true _ _ ps.1 }

pub based : (bs : List ℕ) → leader_faults bs ≡ [] → Based bs
unfolding leader_faults
based bs e = based_by bs (holds _ (Leader 12) (every (λ p. rule (leader_rule bs p) (Leader p)) 24 e 12 (omega arith)))

-- the lengths before a field, one field more, and in order
pub sizes_next : (bs : List ℕ) (k : ℕ) → sizes_before bs (k + 1) ≡ sizes_before bs k + entry_size bs k
unfolding sizes_before
sizes_next bs k = rw add-one

pub sizes_none : (bs : List ℕ) → sizes_before bs 0 ≡ 0
unfolding sizes_before
sizes_none bs = refl

pub sizes_mono : (bs : List ℕ) (k n : ℕ) → k ≤ n → sizes_before bs k ≤ sizes_before bs n
sizes_mono bs k n h = rw e (up (n - k))
  where
    e : n ≡ k + (n - k)
    e = omega arith

    up : (m : ℕ) → sizes_before bs k ≤ sizes_before bs (k + m)
    up zero = rw add-zero (omega arith)
    up (suc m) =
        let q : k + suc m ≡ k + m + 1 = omega arith in
        rw (q, sizes_next bs (k + m)) (omega (arith, up m))

-- what a directory without faults says of the fields
pub filled : (bs : List ℕ) → directory_faults bs ≡ [] → base bs + sizes_before bs (entry_count bs) + 1 ≡ length bs
unfolding directory_faults
filled bs e = eqb-true _ _ (and_parts _ _ (holds (directory_end_rule bs) _ (parts _ _ e).1)).1

-- what a test of a range says
pub between : (low high n : ℕ) → true ≡ within low high n → (low ≤ n) × (n ≤ high)
between low high n e = let ps = and_parts _ _ (sym e) in (leb-true _ _ ps.0, leb-true _ _ ps.1)
