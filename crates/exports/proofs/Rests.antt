-- What is left of an export after a walk over some of its records. Assumes nothing.
use Rattle.std.proofs.Common.{◌≡◌, List, [], ◌∷◌, ◌++◌, map, Ok, sym, ap, ◌∙◌, append_assoc}
use Rattle.std.specs.Iterator.{Yields}
use Rattle.exports.specs.declared.walk.Offered.{Offered}
use Rattle.exports.specs.declared.walk.Records.{Records}
use Rattle.exports.specs.Walk.{Steps, end_to_end, rest}

-- what a walk gave and what is left, from any byte on
pub walked : (s : Records) (rs : List Offered) (t : Records) → Yields Steps s (map Ok rs) t → rest s ≡ end_to_end rs ++ rest t
walked s [] t h = ap rest h
walked s (r ∷ rs) t h =
    h.1.2 ∙ ap (λ l. r.bytes.now ++ l) (walked h.0 rs t h.2) ∙ sym (append_assoc r.bytes.now (end_to_end rs) (rest t))
