-- A record by its parts. Assumes nothing.
use Rattle.std.specs.Prelude.{ℕ, List}

pub record Subfield : Type 0 where
  pub code : ℕ
  pub body : List ℕ

-- a control field has a tag and bytes, a data field a tag, two indicators and subfields
pub data Field : Type 0 where
  Control : ℕ → List ℕ → Field
  Data : ℕ → ℕ → ℕ → List Subfield → Field

abbrev pub tag_of : Field → ℕ
tag_of (Control t bs) = t
tag_of (Data t i j ss) = t

-- the codes at the eight code positions of the leader, and the fields
pub record Parts : Type 0 where
  pub codes : List ℕ
  pub fields : List Field
