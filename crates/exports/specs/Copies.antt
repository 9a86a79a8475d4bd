-- What copying a record answers, and what its buffer then holds. Assumes nothing.
use Rattle.std.specs.Prelude.{◌≡◌, ℕ, List, [], ◌++◌, length, drop, Ok, Err, Result}
use Rattle.record.specs.Rules.{verdict}
use Rattle.record.specs.Writing.{write_faults}
use Rattle.exports.specs.declared.copy.Uncopied.{Uncopied}
use Rattle.exports.specs.declared.copy.Uncopied.TheVariants.{Refused, NoMemory}

-- the record's own bytes in front of what the buffer held past them; or its first fault, by the frame and then by the buffer,
-- or no memory, and the buffer as it was
abbrev pub Copies : List ℕ → List ℕ → Result ℕ Uncopied → List ℕ → Type 0
Copies bs old (Ok n) new = (write_faults bs old ≡ []) × (n ≡ length bs) × (new ≡ bs ++ drop n old)
Copies bs old (Err (Refused f)) new = (verdict (write_faults bs old) (length bs) ≡ Err f) × (new ≡ old)
Copies bs old (Err NoMemory) new = new ≡ old
