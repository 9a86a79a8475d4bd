-- Marks: a table that says of each number whether it is marked. Assumes nothing.
use Rattle.std.specs.Prelude.{ℕ, Bool, false, List, slice_index_or}

-- a number past the end of the table is not
abbrev pub is_marked : List Bool → ℕ → Bool
is_marked table n = slice_index_or table n false
