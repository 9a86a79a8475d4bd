-- The steps of the check of tags: one row more. Assumes nothing.
use Rattle.std.proofs.Common.{◌≡◌, ℕ, ◌+◌, ◌<◌, ◌≤◌, Bool, true, false, List, map, length, get_or, Ok, Err, sym, ap, ◌∙◌, add-one}
use lib.ListN.{length-map}
use Rattle.std.proofs.lemmas.List.{get_or-map}
use Rattle.record.specs.Rules.{over, rule, verdict}
use Rattle.record.proofs.Ranges.{broken, ended, kept}
use Rattle.rows.specs.declared.rows.Row.{Row}
use Rattle.rows.specs.declared.faults.RowFault.{RowFault}
use Rattle.rows.specs.declared.faults.RowFault.TheVariants.{Tag}
use Rattle.rows.specs.Faults.{row_at, tag_before, tag_faults, tag_rule}
use Rattle.rows.specs.Rows.{no_row, seen_row}

-- row k, as the check reads it
module _ (rows : List Row) (k : ℕ) (within : k < length rows) where
  pub row_is : (d : Row) → seen_row (get_or rows k d) ≡ row_at (map seen_row rows) k
  row_is d = sym (get_or-map seen_row rows k d no_row within)

  pub listed : k < length (map seen_row rows)
  listed = rw length-map within

-- the tags, each held against the one before
module _ (rows : List Row) where
  abbrev holds : ℕ → Bool
  holds k = tag_rule (tag_before (map seen_row rows) k) (row_at (map seen_row rows) k).tag

  abbrev left : ℕ → List RowFault
  left k = over (λ k. rule (holds k) (Tag k)) k (length (map seen_row rows))

  -- the tags before row k are right
  pub record TagsPassed (k before : ℕ) : Type 0 where
    pub left_are : tag_faults (map seen_row rows) ≡ left k
    pub before_is : before ≡ tag_before (map seen_row rows) k

  module _ {k before : ℕ} (passed : TagsPassed k before) where
    pub tags_end : length rows ≤ k → Ok (tt {0}) ≡ verdict (tag_faults (map seen_row rows)) (tt {0})
    tags_end past = ap (λ l. verdict l (tt {0})) (sym (passed.left_are ∙ ended (λ k. rule (holds k) (Tag k)) k _ (rw length-map past)))

    module _ (d : Row) (within : k < length rows) where
      same : tag_rule before (get_or rows k d).tag ≡ holds k
      same i = tag_rule (passed.before_is i) (row_is rows k within d i).tag

      pub tags_on : true ≡ tag_rule before (get_or rows k d).tag → TagsPassed (k + 1) (get_or rows k d).tag
      tags_on e = record {
        left_are = passed.left_are ∙ kept holds (λ k. Tag k) k _ (listed rows k within) (e ∙ same);
        before_is = rw add-one (ap (λ r. r.tag) (row_is rows k within d));
      }

      pub tags_stop : false ≡ tag_rule before (get_or rows k d).tag → Err (Tag k) ≡ verdict (tag_faults (map seen_row rows)) (tt {0})
      tags_stop e = sym (ap (λ l. verdict l (tt {0})) passed.left_are ∙ broken holds (λ k. Tag k) k _ (listed rows k within) (tt {0}) (e ∙ same))
