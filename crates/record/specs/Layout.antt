-- A record laid end to end from its parts: leader, directory, 1E, fields and 1D. Assumes nothing.
use Rattle.std.specs.Prelude.{ℕ, zero, suc, ◌+◌, ◌*◌, ◌/◌, ◌%◌, ◌^◌, cond, List, [], ◌∷◌, ◌++◌, map, length, take, drop, replicate, nat_lt}
use Rattle.record.specs.declared.extent.Extent.{Extent}
use Rattle.record.specs.declared.parts.RecordParts.{RecordParts}
use Rattle.record.specs.Parts.{Field, Parts, Subfield, tag_of}
use Rattle.record.specs.Parts.Field.{Control, Data}

-- the last w decimal digits of n
abbrev pub digits : ℕ → ℕ → List ℕ
digits zero n = []
digits (suc w) n = digits w (n / 10) ++ ((48 + n % 10) ∷ [])

-- a number in w digits; one that is too wide for them is no figure
abbrev pub figure : ℕ → ℕ → List ℕ
figure w n = cond (nat_lt n (10 ^ w)) (digits w n) (replicate w 42)

-- an entry: tag, length and start
abbrev pub entry : Extent → ℕ → List ℕ
entry e start = figure 3 e.tag ++ (figure 4 e.size ++ figure 5 start)

-- the entries of fields from this start on: each start is the sum of the lengths before it
abbrev pub directory : ℕ → List Extent → List ℕ
directory start [] = []
directory start (e ∷ es) = entry e start ++ directory (start + e.size) es

-- the leader of a record of this length, with this base: length, five codes, 22, base, three codes, 4500
abbrev pub leader : List ℕ → ℕ → ℕ → List ℕ
leader codes len base = figure 5 len ++ (take 5 codes ++ (50 ∷ 50 ∷ (figure 5 base ++ (take 3 (drop 5 codes) ++ (52 ∷ 53 ∷ 48 ∷ 48 ∷ [])))))

-- 24 bytes of leader, 12 an entry, 1E, the fields and 1D
abbrev pub laid_length : List Extent → List ℕ → ℕ
laid_length es fs = 26 + 12 * length es + length fs

-- eight leader codes, the extents of the fields, and the bytes of the fields end to end, laid out as a record
unfoldable pub laid : List ℕ → List Extent → List ℕ → List ℕ
laid codes es fs = leader codes (laid_length es fs) (25 + 12 * length es) ++ (directory 0 es ++ (30 ∷ (fs ++ (29 ∷ []))))

-- the same, from the parts that a caller lends
abbrev pub laid_from : RecordParts → List ℕ
laid_from p = laid p.codes p.extents.now p.fields.now

-- 1F, code and body of each subfield
abbrev pub subfields_laid : List Subfield → List ℕ
subfields_laid [] = []
subfields_laid (s ∷ ss) = 31 ∷ s.code ∷ (s.body ++ subfields_laid ss)

-- the bytes of a field, with the 1E that ends it
abbrev pub field_laid : Field → List ℕ
field_laid (Control t bs) = bs ++ (30 ∷ [])
field_laid (Data t i j ss) = i ∷ j ∷ (subfields_laid ss ++ (30 ∷ []))

abbrev pub fields_laid : List Field → List ℕ
fields_laid [] = []
fields_laid (f ∷ fs) = field_laid f ++ fields_laid fs

abbrev pub extent : Field → Extent
extent f = record { tag = tag_of f; size = length (field_laid f) }

abbrev pub layout : Parts → List ℕ
layout r = laid r.codes (map extent r.fields) (fields_laid r.fields)
