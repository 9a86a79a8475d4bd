-- The tags and lengths of fields, and where the fields start. Assumes nothing.
use Rattle.std.specs.Prelude.{ℕ, ◌+◌, List, [], ◌∷◌, take, slice_index_or}
use Rattle.record.specs.declared.extent.Extent.{Extent}

-- the lengths added up
abbrev pub total : List Extent → ℕ
total [] = 0
total (e ∷ es) = e.size + total es

-- where there is no field
abbrev pub no_extent : Extent
no_extent = record { tag = 0; size = 0 }

-- the extent of field k
abbrev pub extent_of : List Extent → ℕ → Extent
extent_of es k = slice_index_or es k no_extent

-- the start of field k: the lengths before it, added up
abbrev pub starts : List Extent → ℕ → ℕ
starts es k = total (take k es)
