-- The faults of a leader that was laid out are those of its codes. Assumes nothing.
use Rattle.std.proofs.Common.{◌≡◌, ℕ, ◌+◌, ◌-◌, ◌*◌, ◌/◌, ◌<◌, true, List, [], ◌∷◌, ◌++◌, length, take, drop, sym, ap, ◌∙◌, arith, length-append, length-drop}
use Rattle.std.proofs.lemmas.List.{length-take-le}
use Rattle.std.proofs.lemmas.Bool.{and_from, eq-eqb, lt-ltb}
use Rattle.record.specs.declared.faults.FrameFault.{FrameFault}
use Rattle.record.specs.declared.faults.FrameFault.TheVariants.{Leader}
use Rattle.record.specs.Classes.{code_character}
use Rattle.record.specs.Figures.{number}
use Rattle.record.specs.Layout.{digits, leader}
use Rattle.record.specs.Leader.{base, base_rule, leader_faults, length_rule}
use Rattle.record.specs.PartsFaults.{code_faults}
use Rattle.record.specs.Rules.{from, over, rule}
use Rattle.record.proofs.Decimals.{digits_all, figure_digits, length_figure, number_digits}

pub length-leader : (codes : List ℕ) (len b : ℕ) → length codes ≡ 8 → length (leader codes len b) ≡ 24
length-leader codes len b eight =
    let five : length (take 5 codes) ≡ 5 = length-take-le 5 codes (omega arith) in
    let three : length (take 3 (drop 5 codes)) ≡ 3 = length-take-le 3 (drop 5 codes) (omega (arith, length-drop 5 codes)) in
    simp (length-append, length_figure, five, three)

-- a list of eight, by its elements
by_eight : (P : List ℕ → Type 0) → ((a b c d e f g h : ℕ) → P (a ∷ b ∷ c ∷ d ∷ e ∷ f ∷ g ∷ h ∷ [])) → (cs : List ℕ) → length cs ≡ 8 → P cs
by_eight P p [] n = absurd (omega arith)
by_eight P p (a ∷ []) n = absurd (omega arith)
by_eight P p (a ∷ b ∷ []) n = absurd (omega arith)
by_eight P p (a ∷ b ∷ c ∷ []) n = absurd (omega arith)
by_eight P p (a ∷ b ∷ c ∷ d ∷ []) n = absurd (omega arith)
by_eight P p (a ∷ b ∷ c ∷ d ∷ e ∷ []) n = absurd (omega arith)
by_eight P p (a ∷ b ∷ c ∷ d ∷ e ∷ f ∷ []) n = absurd (omega arith)
by_eight P p (a ∷ b ∷ c ∷ d ∷ e ∷ f ∷ g ∷ []) n = absurd (omega arith)
by_eight P p (a ∷ b ∷ c ∷ d ∷ e ∷ f ∷ g ∷ h ∷ []) n = p a b c d e f g h
by_eight P p (a ∷ b ∷ c ∷ d ∷ e ∷ f ∷ g ∷ h ∷ i ∷ cs) n = absurd (omega arith)

-- a leader before the rest of a record, with a length and a base that have room
module _ (len bas : ℕ) (rest : List ℕ) (len_fits : len < 100000) (base_fits : bas < 100000) where
  -- its figures are digits
  abbrev plain : List ℕ → List ℕ
  plain cs = digits 5 len ++ (take 5 cs ++ (50 ∷ 50 ∷ (digits 5 bas ++ (take 3 (drop 5 cs) ++ (52 ∷ 53 ∷ 48 ∷ 48 ∷ []))))) ++ rest

  plain_is : (cs : List ℕ) → leader cs len bas ++ rest ≡ plain cs
  plain_is cs = λ i. figure_digits 5 len len_fits i ++ (take 5 cs ++ (50 ∷ 50 ∷ (figure_digits 5 bas base_fits i ++ (take 3 (drop 5 cs) ++ (52 ∷ 53 ∷ 48 ∷ 48 ∷ []))))) ++ rest

  pub leader_base : (cs : List ℕ) → length cs ≡ 8 → base (leader cs len bas ++ rest) ≡ bas
  leader_base cs eight = ap base (plain_is cs) ∙ by_eight (λ l. base (plain l) ≡ bas) (λ a b c d e f g h. number_digits 5 bas base_fits) cs eight

  module _ (whole : bas ≡ 25 + 12 * ((bas - 25) / 12)) (inside : bas < len) where
    abbrev Judged : List ℕ → Type 0
    Judged cs = length (plain cs) ≡ len → leader_faults (plain cs) ≡ over (code_faults cs) 0 8

    eight_judged : (a b c d e f g h : ℕ) → Judged (a ∷ b ∷ c ∷ d ∷ e ∷ f ∷ g ∷ h ∷ [])
    unfolding leader_faults from
    eight_judged a b c d e f g h long =
        let bs = plain (a ∷ b ∷ c ∷ d ∷ e ∷ f ∷ g ∷ h ∷ []) in
        let n = number_digits 5 bas base_fits in
        let first : length_rule bs ≡ true = and_from _ _ (digits_all 5 len) (eq-eqb _ _ (number_digits 5 len len_fits ∙ sym long)) in
        let room : number (digits 5 bas) ≡ 25 + 12 * ((number (digits 5 bas) - 25) / 12) = n ∙ whole ∙ ap (λ m. 25 + 12 * ((m - 25) / 12)) (sym n) in
        let second : base_rule bs ≡ true = and_from _ _ (digits_all 5 bas) (and_from _ _ (eq-eqb _ _ room) (lt-ltb (number (digits 5 bas)) (length bs) (omega arith))) in
        let code : ℕ → ℕ → List FrameFault = λ b p. rule (code_character b) (Leader p) in
        λ i.
        rule (first i) (Leader 0)
        ++ (code a 5 ++ (code b 6 ++ (code c 7 ++ (code d 8 ++ (code e 9
        ++ (rule (second i) (Leader 12)
        ++ (code f 17 ++ (code g 18 ++ (code h 19 ++ [])))))))))

    pub leader_judged : (cs : List ℕ) → length cs ≡ 8 → length (leader cs len bas ++ rest) ≡ len → leader_faults (leader cs len bas ++ rest) ≡ over (code_faults cs) 0 8
    leader_judged cs eight long = ap leader_faults (plain_is cs) ∙ by_eight Judged eight_judged cs eight (ap length (sym (plain_is cs)) ∙ long)
