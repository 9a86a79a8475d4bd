-- The directory: entries of 12 digits from byte 24 on, and the byte that ends it. Assumes nothing.
use Rattle.std.specs.Prelude.{ℕ, zero, suc, ◌+◌, ◌*◌, Bool, ◌&&◌, List, ◌++◌, length, ◌==◌, nat_lt, slice_index}
use Rattle.record.specs.declared.faults.FrameFault.{FrameFault}
use Rattle.record.specs.declared.faults.FrameFault.TheVariants.{Entry, DirectoryEnd}
use Rattle.record.specs.Figures.{all_digits, number, part}
use Rattle.record.specs.Leader.{base, entry_count}
use Rattle.record.specs.Rules.{rule, over}

-- where entry k stands
abbrev pub entry_place : ℕ → ℕ
entry_place k = 24 + 12 * k

abbrev pub entry_tag : List ℕ → ℕ → ℕ
entry_tag bs k = number (part bs (entry_place k) 3)

abbrev pub entry_size : List ℕ → ℕ → ℕ
entry_size bs k = number (part bs (entry_place k + 3) 4)

abbrev pub entry_start : List ℕ → ℕ → ℕ
entry_start bs k = number (part bs (entry_place k + 7) 5)

-- the lengths of the fields before field k, added up
unfoldable pub sizes_before : List ℕ → ℕ → ℕ
sizes_before bs zero = 0
sizes_before bs (suc k) = sizes_before bs k + entry_size bs k

-- digits, a tag and a length that are not 0, and this start
abbrev pub starts_at : List ℕ → ℕ → ℕ → Bool
starts_at bs k before = all_digits (part bs (entry_place k) 12) && (nat_lt 0 (entry_tag bs k) && (nat_lt 0 (entry_size bs k) && entry_start bs k == before))

-- each start is the sum of the lengths before it
abbrev pub entry_rule : List ℕ → ℕ → Bool
entry_rule bs k = starts_at bs k (sizes_before bs k)

-- 1E after the last entry, and fields that fill the record up to its last byte
abbrev pub directory_end_rule : List ℕ → Bool
directory_end_rule bs = slice_index bs (entry_place (entry_count bs)) == 30 && base bs + sizes_before bs (entry_count bs) + 1 == length bs

-- 20, at an entry
abbrev pub entry_faults : List ℕ → ℕ → List FrameFault
entry_faults bs k = rule (entry_rule bs k) (Entry (entry_place k))

-- 20, after the entries
abbrev pub directory_end_faults : List ℕ → List FrameFault
directory_end_faults bs = rule (directory_end_rule bs) (DirectoryEnd (entry_place (entry_count bs)))

unfoldable pub directory_faults : List ℕ → List FrameFault
directory_faults bs = over (entry_faults bs) 0 (entry_count bs) ++ directory_end_faults bs
