-- What each fault of a record in a format means, in the words that are printed. Assumes nothing.
use Rattle.std.specs.Prelude.{ℕ, List, codes}
use Rattle.record.specs.Words as frame
use Rattle.formats.specs.declared.faults.FormatFault.{FormatFault}
use Rattle.formats.specs.declared.faults.FormatFault.TheVariants.{Frame, LeaderCode, Tag, Indicator, Subfield, RepeatedSubfield, RepeatedField}

-- a fault of the frame keeps the frame's words
abbrev pub words_of : FormatFault → List ℕ
words_of (Frame f) = frame.words_of f
words_of (LeaderCode p c) = codes "a leader code is not admitted at its position"
words_of (Tag p t) = codes "the format lacks the tag"
words_of (Indicator p t i c) = codes "an indicator is not admitted"
words_of (Subfield p t c) = codes "the tag lacks the subfield code"
words_of (RepeatedSubfield p t c) = codes "a second subfield has a code that is allowed once"
words_of (RepeatedField p t) = codes "a second field has a tag that is allowed once"
