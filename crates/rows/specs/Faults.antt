-- The row check: what is wrong with a format's rows, in the order in which it is told. Assumes nothing.
use Rattle.std.specs.Prelude.{ℕ, zero, suc, Bool, true, false, cond, ◌&&◌, List, [], ◌∷◌, ◌++◌, length, replicate, nat_lt, slice_index, slice_index_or}
use Rattle.record.specs.Leader.{code_positions}
use Rattle.record.specs.Rules.{over, rule}
use Rattle.rows.specs.declared.faults.RowFault.{RowFault}
use Rattle.rows.specs.declared.faults.RowFault.TheVariants.{Tag, Row, Leader}
use Rattle.rows.specs.Rows.{PlainRow, PlainRows, no_row}
use Rattle.rows.specs.Sets.{empty, some_characters, subfield_codes}
use Rattle.rows.specs.Table.{tag, data_tag, present}

-- row k, counted from 0
abbrev pub row_at : List PlainRow → ℕ → PlainRow
row_at rows k = slice_index_or rows k no_row

-- the tag of the row before row k; 0 before the first
abbrev pub tag_before : List PlainRow → ℕ → ℕ
tag_before rows zero = 0
tag_before rows (suc k) = (row_at rows k).tag

-- a tag from 1 to 999, above the one before
abbrev pub tag_rule : ℕ → ℕ → Bool
tag_rule before t = tag t && nat_lt before t

-- A data tag's row has codes at both indicators, and right characters; a control tag's has no codes. Neither marks its tag absent.
abbrev pub row_rule : PlainRow → Bool
row_rule r =
    present r.occurs
    && cond (data_tag r.tag)
    (some_characters r.first && some_characters r.second && subfield_codes r.once && subfield_codes r.many)
    (empty r.first && empty r.second && empty r.once && empty r.many)

-- 7, of row k
abbrev pub tag_fault : List PlainRow → ℕ → List RowFault
tag_fault rows k = rule (tag_rule (tag_before rows k) (row_at rows k).tag) (Tag k)

abbrev pub tag_faults : List PlainRow → List RowFault
tag_faults rows = over (tag_fault rows) 0 (length rows)

-- 8, of row k
abbrev pub row_fault : List PlainRow → ℕ → List RowFault
row_fault rows k = rule (row_rule (row_at rows k)) (Row k)

abbrev pub row_faults : List PlainRow → List RowFault
row_faults rows = over (row_fault rows) 0 (length rows)

-- 9, of set k, which is empty or has a wrong character, at its position
abbrev pub leader_fault : List (List ℕ) → ℕ → List RowFault
leader_fault sets k = rule (some_characters (slice_index_or sets k [])) (Leader (slice_index code_positions k))

abbrev pub leader_faults : List (List ℕ) → List RowFault
leader_faults sets = over (leader_fault sets) 0 8

-- by number, then by row or position
unfoldable pub rows_faults : PlainRows → List RowFault
rows_faults s = tag_faults s.rows ++ (row_faults s.rows ++ leader_faults s.leader)

-- there is none
abbrev pub no_fault : List RowFault → Bool
no_fault [] = true
no_fault (f ∷ fs) = false

-- the rows pass the check
abbrev pub sound : PlainRows → Bool
sound s = no_fault (rows_faults s)

-- the bare format: blank at every code position and no field
abbrev pub bare : PlainRows
bare = record { leader = replicate 8 (0x20 ∷ []); rows = [] }

-- what is opened over given rows: these, or the bare format where the check refuses them
abbrev pub opened : PlainRows → PlainRows
opened s = cond (sound s) s bare
