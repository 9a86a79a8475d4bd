-- The rows of each shipped format and of the bare format pass the check, which is computed. Assumes nothing.
use Rattle.std.proofs.Common.{◌≡◌, true, refl}
use Rattle.record.specs.Rules.{from}
use Rattle.rows.specs.declared.shipped.Shipped.{Shipped}
use Rattle.rows.specs.declared.shipped.Shipped.TheVariants.{BibliographicSource, BibliographicTarget, AuthoritySource, AuthorityTarget}
use Rattle.rows.specs.Faults.{bare, rows_faults, sound}
use Rattle.rows.specs.Shipped.{rows_of}

pub shipped_sound : (f : Shipped) → sound (rows_of f) ≡ true
unfolding rows_faults from
shipped_sound BibliographicSource = refl
shipped_sound BibliographicTarget = refl
shipped_sound AuthoritySource = refl
shipped_sound AuthorityTarget = refl

pub bare_sound : sound bare ≡ true
unfolding rows_faults from
bare_sound = refl
