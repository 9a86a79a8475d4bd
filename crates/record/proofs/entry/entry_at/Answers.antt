-- An entry is told where each of its three figures is.
use Rattle.std.proofs.Common.{◌+◌, sym, ◌∙◌}
use Rattle.record.specs.Directory.{entry_place}
use Rattle.record.specs.Figures.{figure_told, part}
use Rattle.record.proofs.Figured.{figured, figured_told}
use Rattle.record.proofs.entry.entry_at.Goals as goal

pub returns-in_err-figure_at-2 : goal.returns-in_err-figure_at-2
returns-in_err-figure_at-2 c =
    let tag = sym c.in_ok-figure_at.was ∙ c.figure_at.ensures in
    let size = sym c.in_err-figure_at-2.was ∙ c.figure_at-2.ensures in
    c.from_residual-in_err-figure_at-2.ensures ∙ (λ i. figured (tag i) (size i) (figure_told (part c.args.bytes.now (entry_place c.args.k + 7) 5))) ∙ figured_told c.args.bytes.now c.args.k

pub returns-in_err-figure_at-3 : goal.returns-in_err-figure_at-3
returns-in_err-figure_at-3 c =
    let tag = sym c.in_ok-figure_at.was ∙ c.figure_at.ensures in
    let size = sym c.in_ok-figure_at-2.was ∙ c.figure_at-2.ensures in
    let start = sym c.in_err-figure_at-3.was ∙ c.figure_at-3.ensures in
    c.from_residual-in_err-figure_at-3.ensures ∙ (λ i. figured (tag i) (size i) (start i)) ∙ figured_told c.args.bytes.now c.args.k

pub returns : goal.returns
returns c =
    let tag = sym c.in_ok-figure_at.was ∙ c.figure_at.ensures in
    let size = sym c.in_ok-figure_at-2.was ∙ c.figure_at-2.ensures in
    let start = sym c.in_ok-figure_at-3.was ∙ c.figure_at-3.ensures in
    (λ i. figured (tag i) (size i) (start i)) ∙ figured_told c.args.bytes.now c.args.k
