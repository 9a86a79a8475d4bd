-- Tags, then rows, then leader sets: the first fault of each check is the first of all where those before it have none.
use Rattle.std.proofs.Common.{◌++◌, ◌∙◌}
use Rattle.record.proofs.Sequence.{Left, failed, last, passed, whole}
use Rattle.record.proofs.Verdicts.{returned}
use Rattle.rows.specs.Faults.{leader_faults, row_faults, rows_faults, tag_faults}
use Rattle.rows.specs.Rows.{PlainRows, seen_rows}
use Rattle.rows.proofs.rows.FormatRows.check.Goals as goal
use Rattle.rows.proofs.rows.FormatRows.check.Goals.{In_ok-check_tags}

from_tags : (s : PlainRows) → Left (rows_faults s) (tag_faults s.rows ++ (row_faults s.rows ++ leader_faults s.leader))
unfolding rows_faults
from_tags s = whole (rows_faults s)

from_rows : (c : In_ok-check_tags) → Left (rows_faults (seen_rows c.args.self.now)) (row_faults (seen_rows c.args.self.now).rows ++ leader_faults (seen_rows c.args.self.now).leader)
from_rows c = let s = seen_rows c.args.self.now in passed (tag_faults s.rows) _ (from_tags s) _ _ c.in_ok-check_tags.ensures

pub returns-in_err-check_tags : goal.returns-in_err-check_tags
returns-in_err-check_tags c =
    let s = seen_rows c.args.self.now in
    returned _ _ c.from_residual.ensures.1 ∙ failed (tag_faults s.rows) _ (from_tags s) _ _ _ c.in_err-check_tags.ensures

pub returns-in_err-check_rows : goal.returns-in_err-check_rows
returns-in_err-check_rows c =
    let s = seen_rows c.args.self.now in
    let left = from_rows (goal.at.returns-in_err-check_rows c).In_ok-check_tags in
    returned _ _ c.from_residual-in_err-check_rows.ensures.1 ∙ failed (row_faults s.rows) _ left _ _ _ c.in_err-check_rows.ensures

pub returns : goal.returns
returns c =
    let s = seen_rows c.args.self.now in
    let left = passed (row_faults s.rows) (leader_faults s.leader) (from_rows (goal.at.returns c).In_ok-check_tags) _ _ c.in_ok-check_rows.ensures in
    last _ left _ _ c.check_leader.ensures
