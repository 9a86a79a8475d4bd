-- Sets of codes, as a row lists them. Assumes nothing.
use Rattle.std.specs.Prelude.{ℕ, Bool, not, ◌&&◌, List, length, ◌==◌}
use Rattle.std.specs.List.{list_all, list_any}
use Rattle.record.specs.Classes.{code_character, subfield_code}

-- c is one of them
abbrev pub has : List ℕ → ℕ → Bool
has s c = list_any (λ x. x == c) s

abbrev pub empty : List ℕ → Bool
empty s = length s == 0

-- some codes of a leader position or an indicator
abbrev pub some_characters : List ℕ → Bool
some_characters s = not (empty s) && list_all code_character s

-- subfield codes, perhaps none
abbrev pub subfield_codes : List ℕ → Bool
subfield_codes s = list_all subfield_code s
