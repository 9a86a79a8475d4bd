-- Bytes that follow the rules of a field are a well-formed field, laid out. Assumes nothing.
use Rattle.std.proofs.Common.{◌≡◌, ℕ, suc, ◌+◌, ◌-◌, ◌<◌, ◌≤◌, Bool, true, false, cond, not, ◌&&◌, eqb, ltb, List, [], ◌∷◌, ◌++◌, length, get_or, sym, refl, ap, ◌∙◌, append_assoc, arith}
use Rattle.std.specs.List.{All}
use Rattle.std.proofs.lemmas.List.Elements.{All-cons, All-nil}
use Rattle.std.proofs.lemmas.Bool.{and_parts, both_ways, cond-true, cond-false, eq-eqb, eqb-true, le-ltb, ltb-true, ltb-false, ne_eqb, not-true}
use Rattle.std.proofs.lemmas.Bool.Decides.{nat_tests}
use Rattle.record.specs.Classes.{code_character, separator, subfield_code, within}
use Rattle.record.specs.Contents.{byte_rule, control_rule, data_rule, last}
use Rattle.record.specs.Formed.{FormedField, FormedSubfield, Text}
use Rattle.record.specs.Layout.{field_laid, subfields_laid}
use Rattle.record.specs.Parts.{Field, Subfield, tag_of}
use Rattle.record.specs.Parts.Field.{Control, Data}
use Rattle.record.proofs.Texts.{text_first, text_more, text_none, text_rest}

-- these bytes are a field with this tag, laid out
pub record Opened (tag : ℕ) (bytes : List ℕ) : Type 0 where
  pub field : Field
  pub formed : FormedField field
  pub tagged : tag_of field ≡ tag
  pub laid : field_laid field ≡ bytes

-- what a rule says of the last byte, and of the bytes before it
module _ (bs : List ℕ) (q : ℕ) (x y : Bool) (rule : cond (last bs q) x y ≡ true) where
  at_end : suc q ≡ length bs → x ≡ true
  at_end h = sym (cond-true _ x y (eq-eqb (q + 1) (length bs) (omega arith))) ∙ rule

  before_end : suc q < length bs → y ≡ true
  before_end h = sym (cond-false _ x y (ne_eqb (q + 1) (length bs) (λ e. omega arith))) ∙ rule

-- the last byte is 1E
abbrev Ends : List ℕ → Type 0
Ends bs = (q : ℕ) → suc q ≡ length bs → get_or bs q 0 ≡ 30

-- a control field: text and 1E
control_text :
    (b : ℕ) (bs : List ℕ) → Ends (b ∷ bs)
    → ((q : ℕ) → suc q < length (b ∷ bs) → separator (get_or (b ∷ bs) q 0) ≡ false)
    → (t : List ℕ) × Text t × (t ++ (30 ∷ []) ≡ b ∷ bs)
control_text b [] ends plain = ([], text_none, ap (λ x. x ∷ []) (sym (ends 0 refl)))
control_text b (c ∷ bs) ends plain =
    let rest = control_text c bs (λ q h. ends (suc q) (omega arith)) (λ q h. plain (suc q) (omega arith)) in
    (b ∷ rest.0, text_more b rest.0 (plain 0 (omega arith)) rest.1, ap (λ l. b ∷ l) rest.2)

control_field : (tag : ℕ) (bs : List ℕ) → 1 ≤ tag → tag ≤ 9 → 0 < length bs → ((i : ℕ) → i < length bs → control_rule bs i ≡ true) → Opened tag bs
control_field tag [] some small full rules = absurd (omega arith)
control_field tag (b ∷ bs) some small full rules =
    let t = control_text b bs (λ q h. eqb-true _ _ (at_end (b ∷ bs) q _ _ (rules q (omega arith)) h)) (λ q h. not-true _ (before_end (b ∷ bs) q _ _ (rules q (omega arith)) h)) in
    record { field = Control tag t.0; formed = (some, small, t.1); tagged = refl; laid = t.2 }

-- bytes cut at each 1F: what stands before the first, the subfields, and 1E
data Cut : List ℕ → Type 0 where
  pieces : (body : List ℕ) (ss : List Subfield) → Text body → All FormedSubfield ss → Cut (body ++ (subfields_laid ss ++ (30 ∷ [])))

-- a 1F before a subfield code begins a subfield
begin : (bs : List ℕ) → Cut bs → subfield_code (get_or bs 0 0) ≡ true → Cut (31 ∷ bs)
begin _ (pieces [] [] text are) code = absurd (both_ways _ refl code)
begin _ (pieces [] (s ∷ ss) text are) code = absurd (both_ways _ refl code)
begin _ (pieces (c ∷ body) ss text are) code =
    rw (← append_assoc body (subfields_laid ss) (30 ∷ [])) (pieces [] (record { code = c; body = body } ∷ ss) text_none (All-cons FormedSubfield _ ss (record { code_is = code; body_is = text_rest c body text }) are))

no_mark : (b : ℕ) → not (within 29 30 b) ≡ true → eqb b 31 ≡ false → separator b ≡ false
no_mark b plain other = grind (arith, nat_tests)

one_more : (b : ℕ) (bs : List ℕ) → not (within 29 30 b) ≡ true → (b ≡ 31 → subfield_code (get_or bs 0 0) ≡ true) → (t : Bool) → eqb b 31 ≡ t → Cut bs → Cut (b ∷ bs)
one_more b bs plain code true e c = let is = eqb-true b 31 e in rw is (begin bs c (code is))
one_more b bs plain code false e (pieces body ss text are) = pieces (b ∷ body) ss (text_more b body (no_mark b plain e) text) are

-- no byte but the last is 1D or 1E
abbrev Open : List ℕ → Type 0
Open bs = (q : ℕ) → suc q < length bs → not (within 29 30 (get_or bs q 0)) ≡ true

-- a subfield code follows each 1F
abbrev CodesFollow : List ℕ → Type 0
CodesFollow bs = (q : ℕ) → suc q < length bs → get_or bs q 0 ≡ 31 → subfield_code (get_or bs (suc q) 0) ≡ true

cut : (b : ℕ) (bs : List ℕ) → Ends (b ∷ bs) → Open (b ∷ bs) → CodesFollow (b ∷ bs) → Cut (b ∷ bs)
cut b [] ends plain codes = rw (ends 0 refl) (pieces [] [] text_none (All-nil FormedSubfield))
cut b (c ∷ bs) ends plain codes =
    one_more b (c ∷ bs) (plain 0 (omega arith)) (codes 0 (omega arith)) (eqb b 31) refl
    (cut c bs (λ q h. ends (suc q) (omega arith)) (λ q h. plain (suc q) (omega arith)) (λ q h. codes (suc q) (omega arith)))

-- bytes that begin with a 1F are subfields and 1E
subfields : (bs : List ℕ) → Cut bs → get_or bs 0 0 ≡ 31 → (ss : List Subfield) × (1 ≤ length ss) × All FormedSubfield ss × (subfields_laid ss ++ (30 ∷ []) ≡ bs)
subfields _ (pieces [] [] text are) mark = absurd (omega arith)
subfields _ (pieces [] (s ∷ ss) text are) mark = (s ∷ ss, omega arith, are, refl)
subfields _ (pieces (c ∷ body) ss text are) mark = absurd (both_ways _ (rw mark at (text_first c body text)) refl)

-- a data field: two indicators, neither of which is the last byte, subfields and 1E
indicator_last : (b : ℕ) → (code_character b && eqb b 30) ≡ true → ⊥
indicator_last b e = grind (arith, nat_tests)

code_after : (field : List ℕ) (p : ℕ) → 2 ≤ p → data_rule field (suc p) ≡ true → get_or field p 0 ≡ 31 → subfield_code (get_or field (suc p) 0) ≡ true
code_after field p h rule mark =
    let back : suc p - 1 ≡ p = omega arith in
    let low = le-ltb (suc p) 2 (omega arith) in
    let other = ne_eqb (suc p) 2 (λ e. omega arith) in
    (and_parts (subfield_code (get_or field (suc p) 0)) _ (rw (low, other, back, mark) at rule)).0

after_indicators : (i j b : ℕ) (bs : List ℕ) → ((p : ℕ) → p < length (i ∷ j ∷ b ∷ bs) → data_rule (i ∷ j ∷ b ∷ bs) p ≡ true) → Cut (b ∷ bs)
after_indicators i j b bs rules =
    cut b bs
    (λ q h. eqb-true _ _ (at_end (i ∷ j ∷ b ∷ bs) (suc (suc q)) _ _ (and_parts _ _ (rules (suc (suc q)) (omega arith))).1 (omega arith)))
    (λ q h. before_end (i ∷ j ∷ b ∷ bs) (suc (suc q)) _ _ (and_parts _ _ (rules (suc (suc q)) (omega arith))).1 (omega arith))
    (λ q h. code_after (i ∷ j ∷ b ∷ bs) (suc (suc q)) (omega arith) (rules (suc (suc (suc q))) (omega arith)))

data_field : (tag : ℕ) (bs : List ℕ) → 10 ≤ tag → tag ≤ 999 → 0 < length bs → ((i : ℕ) → i < length bs → data_rule bs i ≡ true) → Opened tag bs
data_field tag [] some small full rules = absurd (omega arith)
data_field tag (i ∷ []) some small full rules = absurd (indicator_last i (rules 0 full))
data_field tag (i ∷ j ∷ []) some small full rules = absurd (indicator_last j (rules 1 (omega arith)))
data_field tag (i ∷ j ∷ b ∷ bs) some small full rules =
    let mark : b ≡ 31 = eqb-true b 31 (and_parts _ _ (rules 2 (omega arith))).0 in
    let ss = subfields (b ∷ bs) (after_indicators i j b bs rules) mark in
    record {
      field = Data tag i j ss.0;
      formed = (some, small, (and_parts _ _ (rules 0 full)).0, (and_parts _ _ (rules 1 (omega arith))).0, ss.1, ss.2);
      tagged = refl;
      laid = ap (λ l. i ∷ j ∷ l) ss.3;
    }

pub opened : (tag : ℕ) (bs : List ℕ) → 1 ≤ tag → tag ≤ 999 → 0 < length bs → ((i : ℕ) → i < length bs → byte_rule tag bs i ≡ true) → Opened tag bs
opened tag bs some small full = by_tag (ltb tag 10) refl
  where
    by_tag : (t : Bool) → ltb tag 10 ≡ t → ((i : ℕ) → i < length bs → cond t (control_rule bs i) (data_rule bs i) ≡ true) → Opened tag bs
    by_tag true e rules = control_field tag bs some (omega (arith, ltb-true tag 10 e)) full rules
    by_tag false e rules = data_field tag bs (ltb-false tag 10 e) small full rules
