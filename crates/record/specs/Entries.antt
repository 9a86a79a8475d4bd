-- Directory entries, as they are read. Assumes nothing.
use Rattle.std.specs.Prelude.{ℕ, cond, List, Some, None, Option}
use Rattle.record.specs.declared.entry.Entry.{Entry}
use Rattle.record.specs.Directory.{entry_place, entry_size, entry_start, entry_tag, starts_at}
use Rattle.record.specs.Figures.{all_digits, part}

-- the numbers of entry k
abbrev pub numbers_of : List ℕ → ℕ → Entry
numbers_of bs k = record { tag = entry_tag bs k; size = entry_size bs k; start = entry_start bs k }

-- what entry k tells, where it is twelve digits
abbrev pub entry_told : List ℕ → ℕ → Option Entry
entry_told bs k = cond (all_digits (part bs (entry_place k) 12)) (Some (numbers_of bs k)) None

-- the same, where it also starts where the lengths before it add up to
abbrev pub entry_after : List ℕ → ℕ → ℕ → Option Entry
entry_after bs k before = cond (starts_at bs k before) (Some (numbers_of bs k)) None
