-- The six values that each fault of rows carries. Assumes nothing.
use Rattle.std.specs.Prelude.{ℕ}
use Rattle.record.specs.declared.faults.Layer.TheVariants.{Format}
use Rattle.record.specs.declared.faults.Values.{Values}
use Rattle.record.specs.Values.{values_at}
use Rattle.rows.specs.declared.faults.RowFault.{RowFault}
use Rattle.rows.specs.declared.faults.RowFault.TheVariants.{Tag, Row, Leader}

-- the row check tells a number and a place
abbrev pub row_values : ℕ → ℕ → Values
row_values n p = values_at Format n p

-- the place is the row, counted from 0, or the leader position
abbrev pub values_of : RowFault → Values
values_of (Tag row) = row_values 7 row
values_of (Row row) = row_values 8 row
values_of (Leader position) = row_values 9 position
