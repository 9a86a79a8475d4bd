-- The search over the rows gives the first that breaks its rule.
use Rattle.std.proofs.Common.{◌≡◌, true, false, map, length, rules, tests}
use Rattle.std.proofs.lemmas.Iterator.{IsFirst-from_position, YieldsList-from_slice}
use Rattle.record.proofs.Ranges.{IsFirstBroken, first_broken, none_broken}
use Rattle.rows.specs.declared.faults.RowFault.TheVariants.{Row}
use Rattle.rows.specs.Faults.{row_at, row_rule}
use Rattle.rows.specs.Rows.{no_row, seen_row}
use Rattle.rows.proofs.Searches.{found_seen}
use Rattle.rows.proofs.checking.check_rows.Goals as goal
use Rattle.rows.proofs.checking.check_rows.Goals.{After-position}

first : (c : After-position) → IsFirstBroken (λ k. row_rule (row_at (map seen_row c.args.rows.now) k)) (length (map seen_row c.args.rows.now)) c.position.result
first c =
    found_seen seen_row row_rule c.args.rows.now no_row _
    (IsFirst-from_position _ _ _ (λ r. row_rule (seen_row r) ≡ false) (λ r. row_rule (seen_row r) ≡ true) c.position.ensures.ran (YieldsList-from_slice c.args.rows.now cc)
    (λ r q k. search (rules, tests)) (λ r q k. search (rules, tests)))

pub returns-in-Some : goal.returns-in-Some
returns-in-Some c = first_broken _ (λ k. Row k) _ tt _ _ c.in-Some.is (first (goal.at.returns-in-Some c).After-position)

pub returns-in-None : goal.returns-in-None
returns-in-None c = none_broken _ (λ k. Row k) _ tt _ c.in-None.is (first (goal.at.returns-in-None c).After-position)
