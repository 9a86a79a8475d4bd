-- Extents that an entry has room for, and the starts of fields. Assumes nothing.
use Rattle.std.proofs.Common.{◌≡◌, ℕ, ◌+◌, ◌<◌, ◌≤◌, true, List, [], ◌∷◌, ◌++◌, length, take, drop, sym, ap, ◌∙◌, add_assoc, zero-add, arith, take-append-drop}
use Rattle.std.proofs.lemmas.List.{drop_more, take_all, take_more}
use Rattle.std.proofs.lemmas.Bool.{and_from, and_parts, le-leb}
use Rattle.record.specs.declared.extent.Extent.{Extent}
use Rattle.record.specs.Classes.{within}
use Rattle.record.specs.Extents.{extent_of, no_extent, starts, total}
use Rattle.record.specs.PartsFaults.{extent_rule}
use Rattle.record.proofs.Sound.{between}

-- an entry has room for the tag and for the length, and neither is 0
pub record Fits (e : Extent) : Type 0 where
  pub some_tag : 1 ≤ e.tag
  pub small_tag : e.tag < 1000
  pub some_size : 1 ≤ e.size
  pub small_size : e.size < 10000

-- what the rule for an extent says, and when it holds
module _ (e : Extent) (start : ℕ) where
  pub fits_when : extent_rule e start ≡ true → Fits e
  fits_when ok =
      let ps = and_parts (within 1 999 e.tag) _ ok in
      let tag = between 1 999 e.tag (sym ps.0) in
      let size = between 1 9999 e.size (sym (and_parts (within 1 9999 e.size) _ ps.1).0) in
      record { some_tag = tag.0; small_tag = omega arith; some_size = size.0; small_size = omega arith }

  pub rule_when : Fits e → start ≤ 99999 → extent_rule e start ≡ true
  rule_when f low =
      and_from _ _ (and_from _ _ (le-leb 1 e.tag f.some_tag) (le-leb e.tag 999 (omega arith)))
      (and_from _ _ (and_from _ _ (le-leb 1 e.size f.some_size) (le-leb e.size 9999 (omega arith))) (le-leb start 99999 low))

total-append : (xs ys : List Extent) → total (xs ++ ys) ≡ total xs + total ys
total-append [] ys = sym (zero-add (total ys))
total-append (x ∷ xs) ys = ap (λ n. x.size + n) (total-append xs ys) ∙ sym (add_assoc x.size (total xs) (total ys))

pub starts_all : (es : List Extent) (k : ℕ) → length es ≤ k → starts es k ≡ total es
starts_all es k h = ap total (take_all k es h)

module _ (es : List Extent) (k : ℕ) (within : k < length es) where
  pub starts_next : starts es (k + 1) ≡ starts es k + (extent_of es k).size
  starts_next = ap total (take_more es k no_extent within) ∙ total-append (take k es) (extent_of es k ∷ []) ∙ omega arith

  -- a field ends within the fields
  pub starts_within : starts es k + (extent_of es k).size ≤ total es
  starts_within =
      let whole : total (take k es) + total (drop k es) ≡ total es = sym (total-append (take k es) (drop k es)) ∙ ap total (take-append-drop k es) in
      let more : total (drop k es) ≡ (extent_of es k).size + total (drop (k + 1) es) = ap total (drop_more es k no_extent within) in
      omega arith
