-- The leader, bytes 0 to 23. Assumes nothing.
use Rattle.std.specs.Prelude.{ℕ, ◌+◌, ◌-◌, ◌*◌, ◌/◌, Bool, true, cond, ◌&&◌, ◌||◌, List, [], ◌∷◌, map, length, ◌==◌, nat_lt, slice_index}
use Rattle.record.specs.declared.faults.FrameFault.{FrameFault}
use Rattle.record.specs.declared.faults.FrameFault.TheVariants.{Leader}
use Rattle.record.specs.Classes.{code_character, code_position}
use Rattle.record.specs.Figures.{all_digits, number, part}
use Rattle.record.specs.Rules.{rule, over}

-- where the fields begin
abbrev pub base : List ℕ → ℕ
base bs = number (part bs 12 5)

-- the number of directory entries, n where the base is 25 + 12n
abbrev pub entry_count : List ℕ → ℕ
entry_count bs = (base bs - 25) / 12

-- the positions of the eight codes
abbrev pub code_positions : List ℕ
code_positions = 5 ∷ 6 ∷ 7 ∷ 8 ∷ 9 ∷ 17 ∷ 18 ∷ 19 ∷ []

-- the codes that stand there
abbrev pub codes_of : List ℕ → List ℕ
codes_of bs = map (λ p. slice_index bs p) code_positions

-- five digits that say how long the record is
abbrev pub length_rule : List ℕ → Bool
length_rule bs = all_digits (part bs 0 5) && number (part bs 0 5) == length bs

-- five digits, 25 + 12n, before the last byte
abbrev pub base_rule : List ℕ → Bool
base_rule bs = all_digits (part bs 12 5) && (base bs == 25 + 12 * entry_count bs && nat_lt (base bs) (length bs))

-- 4500, the widths of what an entry has
abbrev pub widths_rule : List ℕ → Bool
widths_rule bs = slice_index bs 20 == 52 && (slice_index bs 21 == 53 && (slice_index bs 22 == 48 && slice_index bs 23 == 48))

-- the rule for what begins at position p
abbrev pub leader_rule : List ℕ → ℕ → Bool
leader_rule bs p =
    cond (p == 0) (length_rule bs)
    (cond (code_position p) (code_character (slice_index bs p))
    (cond (p == 10 || p == 11) (slice_index bs p == 50)
    (cond (p == 12) (base_rule bs)
    (cond (p == 20) (widths_rule bs)
    true))))

-- 19
unfoldable pub leader_faults : List ℕ → List FrameFault
leader_faults bs = over (λ p. rule (leader_rule bs p) (Leader p)) 0 24
