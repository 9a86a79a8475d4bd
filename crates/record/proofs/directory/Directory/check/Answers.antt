-- The entries come first, then the end of the directory.
use Rattle.std.proofs.Common.{◌≡◌, ℕ, Bool, List, [], ◌++◌, sym, ap, ◌∙◌}
use Rattle.record.specs.declared.faults.FrameFault.TheVariants.{DirectoryEnd}
use Rattle.record.specs.Directory.{directory_end_rule, directory_faults, entry_faults, entry_place}
use Rattle.record.specs.Leader.{entry_count}
use Rattle.record.specs.Rules.{over, rule, verdict}
use Rattle.record.proofs.Verdicts.{none, first, skip, returned}
use Rattle.record.proofs.directory.Directory.check.Goals as goal

module _ (bs : List ℕ) (n : ℕ) (count : n ≡ entry_count bs) where
  whole : directory_faults bs ≡ over (entry_faults bs) 0 n ++ rule (directory_end_rule bs) (DirectoryEnd (entry_place n))
  unfolding directory_faults
  whole = ap (λ m. over (entry_faults bs) 0 m ++ rule (directory_end_rule bs) (DirectoryEnd (entry_place m))) (sym count)

  last : {X : Type 0} (x : X) (t : Bool) → over (entry_faults bs) 0 n ≡ [] → t ≡ directory_end_rule bs → verdict (rule t (DirectoryEnd (entry_place n))) x ≡ verdict (directory_faults bs) x
  last x t e h = ap (λ l. verdict l x) (ap (λ u. rule u (DirectoryEnd (entry_place n))) h ∙ sym (whole ∙ skip _ e))

pub returns-in_err-sum : goal.returns-in_err-sum
returns-in_err-sum c =
    returned _ _ c.from_residual.ensures.1 ∙ first _ _ _ tt _ c.in_err-sum.ensures ∙ ap (λ l. verdict l tt) (sym (whole c.args.self.now.bytes.now c.args.self.now.entries c.args.self.now.counted))

pub returns-then-not-end_holds : goal.returns-then-not-end_holds
returns-then-not-end_holds c =
    last c.args.self.now.bytes.now c.args.self.now.entries c.args.self.now.counted tt _ (none _ _ _ c.in_ok-sum.ensures) c.if-not-end_holds.ensures

pub returns : goal.returns
returns c =
    last c.args.self.now.bytes.now c.args.self.now.entries c.args.self.now.counted tt _ (none _ _ _ c.in_ok-sum.ensures) c.if-not-end_holds.ensures
