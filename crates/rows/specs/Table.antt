-- The meaning of a format: the table of its answers, and the laws that bind it. Assumes nothing.
use Rattle.std.specs.Prelude.{◌≡◌, ℕ, Bool, true, false, ◌&&◌}
use Rattle.record.specs.Classes.{within, code_character, code_position, subfield_code}
use Rattle.rows.specs.declared.occurs.Occurs.{Occurs}
use Rattle.rows.specs.declared.occurs.Occurs.TheVariants.{Absent, Once, Many}

-- the tags of fields
abbrev pub tag : ℕ → Bool
tag t = within 1 999 t

-- the tags of data fields; 1 to 9 are control fields
abbrev pub data_tag : ℕ → Bool
data_tag t = within 10 999 t

abbrev pub indicator_number : ℕ → Bool
indicator_number i = within 1 2 i

abbrev pub present : Occurs → Bool
present Absent = false
present Once = true
present Many = true

abbrev pub only_once : Occurs → Bool
only_once Absent = false
only_once Once = true
only_once Many = false

pub record Table : Type 0 where
  -- is this code admitted at this leader position?
  pub leader : ℕ → ℕ → Bool
  -- is this tag absent, allowed once, or many times?
  pub occurs : ℕ → Occurs
  -- is, of this tag, as indicator 1 or 2, this code admitted?
  pub indicator : ℕ → ℕ → ℕ → Bool
  -- is, of this tag, this subfield code absent, once or many?
  pub subfield : ℕ → ℕ → Occurs

-- a data tag that the table has: only such a tag may have indicators and subfields
abbrev pub open_tag : Table → ℕ → Bool
open_tag t g = data_tag g && present (t.occurs g)

-- Outside the positions, tags and characters the entries are no or absent, and a control or absent tag admits no indicator and
-- no subfield; each code position admits some code, and each present data tag some code at each indicator.
pub record Lawful (t : Table) : Type 0 where
  pub leader_within : (p c : ℕ) → t.leader p c ≡ true → (code_position p ≡ true) × (code_character c ≡ true)
  pub tag_within : (g : ℕ) → present (t.occurs g) ≡ true → tag g ≡ true
  pub indicator_within : (g i c : ℕ) → t.indicator g i c ≡ true → (open_tag t g ≡ true) × (indicator_number i ≡ true) × (code_character c ≡ true)
  pub subfield_within : (g c : ℕ) → present (t.subfield g c) ≡ true → (open_tag t g ≡ true) × (subfield_code c ≡ true)
  pub leader_some : (p : ℕ) → code_position p ≡ true → (c : ℕ) × (t.leader p c ≡ true)
  pub indicator_some : (g i : ℕ) → open_tag t g ≡ true → indicator_number i ≡ true → (c : ℕ) × (t.indicator g i c ≡ true)
