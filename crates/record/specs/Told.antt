-- What a load program in C is told in one number. Assumes nothing.
use Rattle.std.specs.Prelude.{◌≡◌, ℕ, ◌+◌, ◌*◌, ◌/◌, ◌%◌, List, [], ◌∷◌}
use Rattle.record.specs.declared.faults.FrameFault.{FrameFault}
use Rattle.record.specs.Values.{values_of}

-- 0, or the first fault's number times 100,000 plus its place
abbrev pub told : List FrameFault → ℕ
told [] = 0
told (f ∷ fs) = (values_of f).number * 100000 + (values_of f).place

-- the caller reads the number by division, and the place as the remainder
abbrev pub Readable : List FrameFault → ℕ → Type 0
Readable [] r = r ≡ 0
Readable (f ∷ fs) r = (r / 100000 ≡ (values_of f).number) × (r % 100000 ≡ (values_of f).place)
