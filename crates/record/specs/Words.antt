-- What each fault of the frame means, in the words that are printed. Assumes nothing.
use Rattle.std.specs.Prelude.{ℕ, List, cond, codes, ◌==◌}
use Rattle.record.specs.declared.faults.FrameFault.{FrameFault}
use Rattle.record.specs.declared.faults.FrameFault.TheVariants.{Length, Leader, Entry, DirectoryEnd, Field, RecordEnd}

-- a fault at this position of the leader
abbrev pub leader_words : ℕ → List ℕ
leader_words p =
    cond (p == 0) (codes "the record length is not five digits that tell the record's length")
    (cond (p == 10) (codes "the number of indicators is not 2")
    (cond (p == 11) (codes "the length of a subfield code is not 2")
    (cond (p == 12) (codes "the base is not five digits, not 25 and 12 for each entry, or past the last byte")
    (cond (p == 20) (codes "the widths of what an entry has are not 4500")
    (codes "a leader code is not a blank, a digit or a small letter")))))

abbrev pub words_of : FrameFault → List ℕ
words_of Length = codes "the record is not 26 to 99,999 bytes long"
words_of (Leader p) = leader_words p
words_of (Entry p) = codes "a directory entry is not twelve digits: a tag from 001 on, a length from 0001 on, and the sum of the lengths before it"
words_of (DirectoryEnd p) = codes "the directory does not end with 1E, or the lengths do not add up to the bytes of the fields"
words_of (Field p) = codes "a byte of a field breaks the rule for its place"
words_of (RecordEnd p) = codes "the last byte is not 1D"
