-- A format by its rows: eight leader sets, and a row for each tag. Which table they mean. Assumes nothing.
use Rattle.std.specs.Prelude.{ℕ, ◌-◌, cond, ◌&&◌, List, [], map, Option, ◌==◌, nat_le, slice_index_or, unwrap_or}
use Rattle.std.specs.Borrow.{Bor}
use Rattle.std.specs.List as list
use Rattle.record.specs.Classes.{code_position}
use Rattle.rows.specs.declared.occurs.Occurs.{Occurs}
use Rattle.rows.specs.declared.occurs.Occurs.TheVariants.{Absent, Once, Many}
use Rattle.rows.specs.declared.rows.Row.{Row}
use Rattle.rows.specs.declared.rows.FormatRows.{FormatRows}
use Rattle.rows.specs.Sets.{has}
use Rattle.rows.specs.Table.{Table}

-- a row without its references: a tag, how often it may occur, the codes of its indicators, and its subfield codes
pub record PlainRow : Type 0 where
  pub tag : ℕ
  pub occurs : Occurs
  pub first : List ℕ
  pub second : List ℕ
  pub once : List ℕ
  pub many : List ℕ

-- the sets of the eight code positions in their order, and the rows
pub record PlainRows : Type 0 where
  pub leader : List (List ℕ)
  pub rows : List PlainRow

-- what the references of a row, of sets and of a format's rows point to
abbrev pub seen_row : Row → PlainRow
seen_row r = record { tag = r.tag; occurs = r.occurs; first = r.first.now; second = r.second.now; once = r.once.now; many = r.many.now }

abbrev pub seen_sets : List (Bor (List ℕ)) → List (List ℕ)
seen_sets leader = map (λ s. s.now) leader

abbrev pub seen_rows : FormatRows → PlainRows
seen_rows f = record { leader = seen_sets f.leader; rows = map seen_row f.rows.now }

-- the place of a code position among the eight sets
abbrev pub place_of : ℕ → ℕ
place_of p = cond (nat_le p 9) (p - 5) (p - 12)

-- a tag that the rows lack: absent, with no codes
abbrev pub no_row : PlainRow
no_row = record { tag = 0; occurs = Absent; first = []; second = []; once = []; many = [] }

-- the first row of a tag, where there is one
abbrev pub row_of : List PlainRow → ℕ → Option PlainRow
row_of rows g = list.find (λ r. r.tag == g) rows

-- that row, or the one of a tag that the rows lack
abbrev pub find : List PlainRow → ℕ → PlainRow
find rows g = unwrap_or (row_of rows g) no_row

-- the codes of the first or the second indicator
abbrev pub indicator_set : PlainRow → ℕ → List ℕ
indicator_set r i = cond (i == 1) r.first (cond (i == 2) r.second [])

-- a code that stands in both sets is allowed many times
abbrev pub subfield_in : PlainRow → ℕ → Occurs
subfield_in r c = cond (has r.many c) Many (cond (has r.once c) Once Absent)

-- the table that the rows mean
abbrev pub table : PlainRows → Table
table s = record {
  leader = λ p c. code_position p && has (slice_index_or s.leader (place_of p) []) c;
  occurs = λ g. (find s.rows g).occurs;
  indicator = λ g i c. has (indicator_set (find s.rows g) i) c;
  subfield = λ g c. subfield_in (find s.rows g) c;
}
