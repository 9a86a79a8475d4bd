-- What one step of the walk over an export gives. Assumes nothing.
use Rattle.std.specs.Prelude.{◌≡◌, ℕ, ◌+◌, cond, List, [], ◌∷◌, ◌++◌, map, length, drop, Some, None, Ok, Err, Option, Result, nat_lt}
use Rattle.std.specs.Iterator.{Yields}
use Rattle.record.specs.Figures.{length_figure}
use Rattle.exports.specs.declared.walk.Offered.{Offered}
use Rattle.exports.specs.declared.walk.Records.{Records}
use Rattle.exports.specs.declared.walk.Stop.{Stop}
use Rattle.exports.specs.declared.walk.Unread.{Unread}
use Rattle.exports.specs.declared.walk.Unread.TheVariants.{NoLength, Torn}

-- a told length is at least that of its own five digits, and at most what is there
abbrev pub taken : ℕ → Option ℕ → Result ℕ Unread
taken there None = Err NoLength
taken there (Some told) = cond (nat_lt told 5) (Err NoLength) (cond (nat_lt there told) (Err (Torn told)) (Ok told))

-- the length of the record that begins these bytes
abbrev pub length_of : List ℕ → Result ℕ Unread
length_of bs = taken (length bs) (length_figure bs)

-- the bytes of the export that are still to be read
abbrev pub rest : Records → List ℕ
rest s = drop s.place s.export.now

-- nothing is left; or a record of its told length stands there, and what follows it is left; or no record does, and the walk is over
abbrev pub Steps : Records → Option (Result Offered Stop) → Records → Type 0
Steps s None t = (rest s ≡ []) × (t ≡ s)
Steps s (Some (Ok r)) t =
    (r.place ≡ s.place) × (length_of (rest s) ≡ Ok (length r.bytes.now)) × (rest s ≡ r.bytes.now ++ rest t)
    × (t.place ≡ s.place + length r.bytes.now)
Steps s (Some (Err f)) t = (f.place ≡ s.place) × (length_of (rest s) ≡ Err f.why) × (rest t ≡ [])

abbrev pub end_to_end : List Offered → List ℕ
end_to_end [] = []
end_to_end (r ∷ rs) = r.bytes.now ++ end_to_end rs

-- however far a walk has come, the records that it gave, end to end, and the bytes still to be read are the export
abbrev pub Walks : List ℕ → Records → Type 0
Walks export s = (rs : List Offered) (t : Records) → Yields Steps s (map Ok rs) t → export ≡ end_to_end rs ++ rest t
