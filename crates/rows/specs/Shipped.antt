-- The shipped formats, bibliographic and authority. Source and target are alike except where `either` tells them apart. Assumes nothing.
use Rattle.std.specs.Prelude.{ℕ, [], ◌∷◌, ◌++◌, map, codes}
use Prim.Native.String.{String}
use Rattle.rows.specs.declared.occurs.Occurs.{Occurs}
use Rattle.rows.specs.declared.occurs.Occurs.TheVariants.{Once, Many}
use Rattle.rows.specs.declared.shipped.Shipped.{Shipped}
use Rattle.rows.specs.declared.shipped.Shipped.TheVariants.{BibliographicSource, BibliographicTarget, AuthoritySource, AuthorityTarget}
use Rattle.rows.specs.Rows.{PlainRow, PlainRows}

-- the format that records come in, and the one that they go to
pub data Side : Type 0 where
  source : Side
  target : Side

abbrev pub either : {A : Type 0} → Side → A → A → A
either source x y = x
either target x y = y

-- a data tag, how often it occurs, the codes of its indicators, the subfield codes allowed once, those allowed many times
abbrev pub data_row : ℕ → Occurs → String → String → String → String → PlainRow
data_row g o first second once many = record { tag = g; occurs = o; first = codes first; second = codes second; once = codes once; many = codes many }

abbrev pub control_row : ℕ → Occurs → PlainRow
control_row g o = data_row g o "" "" "" ""

-- the leader sets of 05 to 09 and 17 to 19, with a blank for the blank; then the rows
abbrev pub bibliographic : Side → PlainRows
bibliographic side = record {
  leader =
      map codes
      ("acdnp"
      ∷ "acdefgijkmoprt"
      ∷ either side "abcdms" "abcdims"
      ∷ " a"
      ∷ either side " a78" " a"
      ∷ " 1234578uz"
      ∷ either side "abiu" " aciu"
      ∷ either side " r" " abc"
      ∷ []);
  rows =
      (control_row 1 Once
      ∷ control_row 5 Once
      ∷ control_row 7 Many
      ∷ control_row 8 Once
      ∷ [])
      ++ (either side [] (data_row 66 Once " " " " "ab" "c" ∷ [])
      ++ (data_row 100 Once "013" " " (either side "aghl" "agl") (either side "kmn" "kn")
      ∷ data_row 270 Many " 12" " 07" "bcdefghi" "ajklmnpqrz"
      ∷ []));
}

abbrev pub authority : Side → PlainRows
authority side = record {
  leader =
      map codes
      (either side "acdnsx" "acdnosx"
      ∷ "z"
      ∷ " "
      ∷ " "
      ∷ either side " " " a"
      ∷ "no"
      ∷ " "
      ∷ " "
      ∷ []);
  rows =
      control_row 1 Once
      ∷ control_row 3 Once
      ∷ control_row 5 Once
      ∷ control_row 8 Once
      ∷ data_row 80 Many (either side "012" " 01") " " (either side "ac" "a") ""
      ∷ data_row 185 Once " " " " "6" (either side "jxyz" "8vxyz")
      ∷ data_row 640 Many "01" " " "6az" (either side "" "8")
      ∷ [];
}

abbrev pub rows_of : Shipped → PlainRows
rows_of BibliographicSource = bibliographic source
rows_of BibliographicTarget = bibliographic target
rows_of AuthoritySource = authority source
rows_of AuthorityTarget = authority target
