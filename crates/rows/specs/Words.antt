-- What each fault of rows means, in the words that are printed. Assumes nothing.
use Rattle.std.specs.Prelude.{ℕ, List, codes}
use Rattle.rows.specs.declared.faults.RowFault.{RowFault}
use Rattle.rows.specs.declared.faults.RowFault.TheVariants.{Tag, Row, Leader}

abbrev pub words_of : RowFault → List ℕ
words_of (Tag row) = codes "the tag is outside 1 to 999, or not above the one before"
words_of (Row row) = codes "the row marks its tag absent, has a wrong character, or lacks a code at an indicator of a data tag; or it has one at a control tag"
words_of (Leader position) = codes "the set of a leader position is empty or has a wrong character"
