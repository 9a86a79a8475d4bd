-- The numbers of the two indicators, as they are asked for and told. Assumes nothing.
use Rattle.std.specs.Prelude.{ℕ}
use Rattle.formats.specs.declared.indicator.WhichIndicator.{WhichIndicator}
use Rattle.formats.specs.declared.indicator.WhichIndicator.TheVariants.{First, Second}

abbrev pub number_of_indicator : WhichIndicator → ℕ
number_of_indicator First = 1
number_of_indicator Second = 2
