-- The classes of bytes. Assumes nothing.
use Rattle.std.specs.Prelude.{ℕ, Bool, ◌&&◌, ◌||◌, ◌==◌, nat_le}

-- low ≤ b ≤ high
abbrev pub within : ℕ → ℕ → ℕ → Bool
within low high b = nat_le low b && nat_le b high

abbrev pub digit : ℕ → Bool
digit b = within 48 57 b

abbrev pub small_letter : ℕ → Bool
small_letter b = within 97 122 b

-- a leader code or an indicator: blank, digit or small letter
abbrev pub code_character : ℕ → Bool
code_character b = b == 32 || (digit b || small_letter b)

abbrev pub subfield_code : ℕ → Bool
subfield_code b = digit b || small_letter b

-- 1D, 1E or 1F, which end a record, end a field and begin a subfield
abbrev pub separator : ℕ → Bool
separator b = within 29 31 b

-- the positions of the leader that hold a code character
abbrev pub code_position : ℕ → Bool
code_position p = within 5 9 p || within 17 19 p
