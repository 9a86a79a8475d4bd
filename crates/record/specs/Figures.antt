-- Figures: numbers in decimal digits. Assumes nothing.
use Rattle.std.specs.Prelude.{ℕ, ◌+◌, ◌-◌, ◌*◌, Bool, cond, ◌&&◌, List, [], ◌∷◌, length, take, drop, Some, None, Option, nat_le}
use Rattle.std.specs.List.{list_all}
use Rattle.record.specs.Classes.{digit}

abbrev pub all_digits : List ℕ → Bool
all_digits bs = list_all digit bs

-- the digits of bs after those of n
abbrev pub number_from : ℕ → List ℕ → ℕ
number_from n [] = n
number_from n (b ∷ bs) = number_from (10 * n + (b - 48)) bs

abbrev pub number : List ℕ → ℕ
number bs = number_from 0 bs

-- n bytes from p on
abbrev pub part : List ℕ → ℕ → ℕ → List ℕ
part bs p n = take n (drop p bs)

-- the number that bytes tell, where all of them are digits
abbrev pub figure_told : List ℕ → Option ℕ
figure_told bs = cond (all_digits bs) (Some (number bs)) None

-- the number in the first five bytes, where they are five digits
abbrev pub length_figure : List ℕ → Option ℕ
length_figure bs = cond (nat_le 5 (length bs) && all_digits (part bs 0 5)) (Some (number (part bs 0 5))) None
