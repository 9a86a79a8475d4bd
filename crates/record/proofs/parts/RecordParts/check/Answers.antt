-- Number by number: the first fault of a stage is the first of all where the stages before it have none.
use Rattle.std.proofs.Common.{◌≡◌, List, [], ◌++◌, length, IsErrAnd, Err, Result, sym, refl, ap, ◌∙◌, subst, append-nil}
use Rattle.std.proofs.lemmas.Bool.{eq-eqb, ne_eqb}
use Rattle.record.specs.declared.faults.FrameFault.{FrameFault}
use Rattle.record.specs.declared.faults.FrameFault.TheVariants.{DirectoryEnd}
use Rattle.record.specs.declared.output.CheckedParts.{CheckedParts}
use Rattle.record.specs.declared.parts.RecordParts.{RecordParts}
use Rattle.record.specs.Directory.{entry_place}
use Rattle.record.specs.Extents.{total}
use Rattle.record.specs.PartsFaults.{code_faults, content_faults, extent_faults, faults_in, length_faults, parts_faults, sum_faults}
use Rattle.record.specs.Rules.{Verdict, over, rule, verdict}
use Rattle.record.proofs.Verdicts.{first, none, refused, returned, skip, unbroken, value}
use Rattle.record.proofs.parts.RecordParts.check.Goals as goal
use Rattle.record.proofs.parts.RecordParts.check.Goals.{In_ok-check_length, In_ok-check_codes, In_ok-sum}

module _ (p : RecordParts) where
  abbrev codes : List FrameFault
  codes = over (code_faults p.codes) 0 8

  abbrev extents : List FrameFault
  extents = over (extent_faults p.extents.now) 0 (length p.extents.now)

  abbrev sum : List FrameFault
  sum = sum_faults p.extents.now p.fields.now

  abbrev contents : List FrameFault
  contents = over (content_faults p.extents.now p.fields.now) 0 (length p.extents.now)

  -- the faults that decide
  abbrev Decides : List FrameFault → Type 0
  Decides l = faults_in p ≡ l

  abbrev Answer : Result CheckedParts FrameFault → Type 0
  Answer = Verdict (faults_in p) (λ c. c.parts ≡ p)

  -- the first fault of a stage is the first of all
  decided : {X : Type 0} (stage rest : List FrameFault) → Decides (stage ++ rest) → (x : X) (f : FrameFault) → Err f ≡ verdict stage x → Answer (Err f)
  decided stage rest is x f e = refused {X = CheckedParts} (λ c. c.parts ≡ p) (faults_in p) (tt {0}) f (first stage rest x tt f e ∙ ap (λ l. verdict l tt) (sym is))

  stopped : {X : Type 0} (stage rest : List FrameFault) → Decides (stage ++ rest) → (x : X) (f : FrameFault) → Err f ≡ verdict stage x → (r : Result CheckedParts FrameFault) → IsErrAnd r (λ g. g ≡ f) → Answer r
  stopped stage rest is x f e r h = subst Answer (sym (returned r f h)) (decided stage rest is x f e)

  whole : Decides (length_faults p.extents.now p.fields.now ++ (codes ++ (extents ++ (sum ++ contents))))
  unfolding parts_faults
  whole = refl

-- what decides after each stage that has no fault
past_length : (c : In_ok-check_length) → let p = c.args.self.now in Decides p (codes p ++ (extents p ++ (sum p ++ contents p)))
past_length c = whole c.args.self.now ∙ skip _ (none _ tt _ c.in_ok-check_length.ensures)

past_codes : (c : In_ok-check_codes) → let p = c.args.self.now in Decides p (extents p ++ (sum p ++ contents p))
past_codes c = whole c.args.self.now ∙ skip _ (none _ tt _ c.in_ok-check_length.ensures) ∙ skip _ (none _ tt _ c.in_ok-check_codes.ensures)

module _ (c : In_ok-sum) where
  past_extents : let p = c.args.self.now in Decides p (sum p ++ contents p)
  past_extents =
      whole c.args.self.now ∙ skip _ (none _ tt _ c.in_ok-check_length.ensures) ∙ skip _ (none _ tt _ c.in_ok-check_codes.ensures)
      ∙ skip _ (none _ _ _ c.in_ok-sum.ensures)

  added_up : c.in_ok-sum.sum ≡ total c.args.self.now.extents.now
  added_up = value (extents c.args.self.now) _ _ c.in_ok-sum.ensures

  past_sum : c.in_ok-sum.sum ≡ length c.args.self.now.fields.now → let p = c.args.self.now in Decides p (contents p ++ [])
  past_sum e = past_extents ∙ skip _ (unbroken _ _ (eq-eqb _ _ (sym added_up ∙ e))) ∙ sym (append-nil (contents c.args.self.now))

  past_contents : c.in_ok-sum.sum ≡ length c.args.self.now.fields.now → contents c.args.self.now ≡ [] → Decides c.args.self.now []
  past_contents e none_left = past_sum e ∙ skip [] none_left

pub returns-in_err-check_length : goal.returns-in_err-check_length
returns-in_err-check_length c = stopped c.args.self.now _ _ (whole c.args.self.now) tt _ c.in_err-check_length.ensures _ c.from_residual.ensures.1

pub returns-in_err-check_codes : goal.returns-in_err-check_codes
returns-in_err-check_codes c =
    stopped c.args.self.now _ _ (past_length (goal.at.returns-in_err-check_codes c).In_ok-check_length) tt _ c.in_err-check_codes.ensures _ c.from_residual-in_err-check_codes.ensures.1

pub returns-in_err-sum : goal.returns-in_err-sum
returns-in_err-sum c =
    stopped c.args.self.now _ _ (past_codes (goal.at.returns-in_err-sum c).In_ok-check_codes) _ _ c.in_err-sum.ensures _ c.from_residual-in_err-sum.ensures.1

pub returns-then-sum-self : goal.returns-then-sum-self
returns-then-sum-self c =
    let p = c.args.self.now in
    let d = (goal.at.returns-then-sum-self c).In_ok-sum in
    let other : total p.extents.now ≡ length p.fields.now → ⊥ = λ e. c.if-sum-self.true (added_up d ∙ e) in
    decided p (sum p) _ (past_extents d) (tt {0}) _ (ap (λ b. verdict (rule b (DirectoryEnd (entry_place (length p.extents.now)))) (tt {0})) (sym (ne_eqb _ _ other)))

pub returns-in_err-check_contents : goal.returns-in_err-check_contents
returns-in_err-check_contents c =
    stopped c.args.self.now _ _ (past_sum (goal.at.returns-in_err-check_contents c).In_ok-sum c.if-sum-self.false) tt _ c.in_err-check_contents.ensures _ c.from_residual-in_err-check_contents.ensures.1

pub invariant_of-result : goal.invariant_of-result
invariant_of-result c = record { faultless = past_contents (goal.at.invariant_of-result c).In_ok-sum c.if-sum-self.false (none _ tt _ c.in_ok-check_contents.ensures) }
