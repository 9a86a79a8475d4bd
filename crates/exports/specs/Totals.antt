-- What the totals of a check count. Assumes nothing.
use Rattle.std.specs.Prelude.{ℕ, ◌+◌, ◌-◌, ◌^◌, min, Ok, Err, Result}
use Rattle.record.specs.declared.faults.FrameFault.{FrameFault}
use Rattle.record.specs.declared.frame.Frame.{Frame}
use Rattle.exports.specs.declared.totals.Totals.{Totals}

abbrev pub none : Totals
none = record { good = 0; bad = 0; bytes = 0 }

-- a count that is full stays as it is
abbrev pub plus : ℕ → ℕ → ℕ
plus n more = min (n + more) (2 ^ 64 - 1)

-- one record more, of so many bytes
abbrev pub counted : Totals → ℕ → Result Frame FrameFault → Totals
counted t size (Ok frame) = record { good = plus t.good 1; bad = t.bad; bytes = plus t.bytes size }
counted t size (Err fault) = record { good = t.good; bad = plus t.bad 1; bytes = plus t.bytes size }

-- each record is good or bad
abbrev pub records_of : Totals → ℕ
records_of t = plus t.good t.bad
