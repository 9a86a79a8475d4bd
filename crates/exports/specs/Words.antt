-- The words for what stops a walk or a copy. Assumes nothing.
use Rattle.std.specs.Prelude.{ℕ, List, ◌++◌, codes, decimal}
use Rattle.record.specs.Writing.{write_words}
use Rattle.exports.specs.declared.copy.Uncopied.{Uncopied}
use Rattle.exports.specs.declared.copy.Uncopied.TheVariants.{Refused, NoMemory}
use Rattle.exports.specs.declared.walk.Stop.{Stop}
use Rattle.exports.specs.declared.walk.Unread.{Unread}
use Rattle.exports.specs.declared.walk.Unread.TheVariants.{NoLength, Torn}

abbrev pub unread_text : Unread → List ℕ
unread_text NoLength = codes "no length of a record in five digits; the rest of the file is not read"
unread_text (Torn told) = codes "the file ends before the " ++ decimal told ++ codes " bytes of the record do"

abbrev pub stop_text : Stop → List ℕ
stop_text stop = codes "at byte " ++ decimal stop.place ++ codes ": " ++ unread_text stop.why

abbrev pub uncopied_text : Uncopied → List ℕ
uncopied_text (Refused fault) = write_words fault
uncopied_text NoMemory = codes "no memory for the fields of a record"
