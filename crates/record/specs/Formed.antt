-- Parts that make a record, and what such a record is: its leader, directory, 1E, fields and 1D end to end. Assumes nothing.
use Rattle.std.specs.Prelude.{◌≡◌, ℕ, ◌≤◌, true, false, List, length}
use Rattle.std.specs.List.{All}
use Rattle.record.specs.Classes.{code_character, separator, subfield_code}
use Rattle.record.specs.Layout.{field_laid, layout}
use Rattle.record.specs.Parts.{Field, Parts, Subfield}
use Rattle.record.specs.Parts.Field.{Control, Data}

-- no byte is 1D, 1E or 1F
abbrev pub Text : List ℕ → Type 0
Text bs = All (λ b. separator b ≡ false) bs

pub record FormedSubfield (s : Subfield) : Type 0 where
  pub code_is : subfield_code s.code ≡ true
  pub body_is : Text s.body

-- tags 1 to 9 are control fields; tags 10 to 999 are data fields, with at least one subfield
abbrev pub FormedField : Field → Type 0
FormedField (Control tag bs) = (1 ≤ tag) × (tag ≤ 9) × Text bs
FormedField (Data tag i j ss) = (10 ≤ tag) × (tag ≤ 999) × (code_character i ≡ true) × (code_character j ≡ true) × (1 ≤ length ss) × All FormedSubfield ss

pub record Formed (r : Parts) : Type 0 where
  pub eight : length r.codes ≡ 8
  pub codes_are : All (λ c. code_character c ≡ true) r.codes
  pub fields_are : All FormedField r.fields
  pub fields_fit : All (λ f. length (field_laid f) ≤ 9999) r.fields
  pub fits : length (layout r) ≤ 99999

-- the bytes are well-formed parts, end to end
pub record LaidOut (bs : List ℕ) : Type 0 where
  pub parts : Parts
  pub formed : Formed parts
  pub end_to_end : bs ≡ layout parts
