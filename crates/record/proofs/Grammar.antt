-- The bytes of a well-formed field follow the rule for their place. Assumes nothing.
use Rattle.std.proofs.Common.{◌≡◌, ℕ, zero, suc, ◌+◌, ◌-◌, ◌<◌, Bool, true, false, cond, not, ◌||◌, eqb, ltb, List, [], ◌∷◌, ◌++◌, length, get_or, refl, ap, ◌∙◌, ⊎_elim, append_assoc, arith}
use Rattle.std.specs.List.{All}
use Rattle.std.proofs.lemmas.List.Elements.{All-append, All-cons, All-get_or, All-head, All-nil, All-tail, All-weaker}
use Rattle.std.proofs.lemmas.List.{get_or_append_left, get_or_push, length_push}
use Rattle.std.proofs.lemmas.Bool.{and_from, cases_lt, cond-false, cond-true, eq-eqb, le-ltb, lt-ltb, ne_eqb, not_from_false, or_left, or_right}
use Rattle.std.proofs.lemmas.Bool.Decides.{nat_tests}
use Rattle.record.specs.Classes.{code_character, separator, subfield_code, within}
use Rattle.record.specs.Contents.{byte_rule, last}
use Rattle.record.specs.Formed.{FormedField, FormedSubfield, Text}
use Rattle.record.specs.Layout.{field_laid, subfields_laid}
use Rattle.record.specs.Parts.{Field, Subfield, tag_of}
use Rattle.record.specs.Parts.Field.{Control, Data}
use Rattle.record.proofs.Texts.{text_first, text_more, text_rest}

-- 1E at the end, and nowhere else a byte that is barred
abbrev closes : (ℕ → Bool) → List ℕ → ℕ → Bool
closes barred field i = cond (last field i) (eqb (get_or field i 0) 30) (not (barred (get_or field i 0)))

closed : (barred : ℕ → Bool) (xs : List ℕ) → All (λ b. barred b ≡ false) xs → (i : ℕ) → i < length (xs ++ (30 ∷ [])) → closes barred (xs ++ (30 ∷ [])) i ≡ true
closed barred xs free i h =
    let n = length_push xs 30 in
    ⊎_elim
    (λ l. cond-false _ _ _ (ne_eqb (i + 1) (length (xs ++ (30 ∷ []))) (λ e. omega arith))
    ∙ ap (λ b. not (barred b)) (get_or_append_left xs (30 ∷ []) 0 i l)
    ∙ not_from_false _ (All-get_or (λ b. barred b ≡ false) xs i 0 l free))
    (λ l. cond-true _ _ _ (eq-eqb (i + 1) (length (xs ++ (30 ∷ []))) (omega arith))
    ∙ eq-eqb _ 30 (get_or_push xs 30 0 i (omega arith)))
    (cases_lt i (length xs))

-- one byte after another: a subfield code after 1F
abbrev follows : ℕ → ℕ → Bool
follows b c = not (eqb b 31) || subfield_code c

-- a subfield code follows each 1F
abbrev Coded : List ℕ → Type 0
Coded [] = Unit {0}
Coded (b ∷ bs) = (follows b (get_or bs 0 0) ≡ true) × Coded bs

coded_at : (bs : List ℕ) → Coded bs → (i : ℕ) → follows (get_or bs i 0) (get_or bs (suc i) 0) ≡ true
coded_at [] ok i = refl
coded_at (b ∷ bs) ok zero = ok.0
coded_at (b ∷ bs) ok (suc i) = coded_at bs ok.1 i

-- what the classes of bytes leave out
pub text_31 : (b : ℕ) → separator b ≡ false → eqb b 31 ≡ false
text_31 b e = grind (arith, nat_tests)

text_30 : (b : ℕ) → separator b ≡ false → within 29 30 b ≡ false
text_30 b e = grind (arith, nat_tests)

code_text : (b : ℕ) → code_character b ≡ true → separator b ≡ false
code_text b e = grind (arith, nat_tests)

pub subfield_text : (s : Subfield) → FormedSubfield s → Text (s.code ∷ s.body)
subfield_text s ok = text_more s.code s.body (code_text s.code (or_right _ _ ok.code_is)) ok.body_is

coded_text : (bs rest : List ℕ) → Text bs → Coded rest → Coded (bs ++ rest)
coded_text [] rest text ok = ok
coded_text (b ∷ bs) rest text ok = (or_left _ _ (not_from_false _ (text_31 b (text_first b bs text))), coded_text bs rest (text_rest b bs text) ok)

coded_subfields : (ss : List Subfield) → All FormedSubfield ss → Coded (subfields_laid ss ++ (30 ∷ []))
coded_subfields [] ok = (refl, tt)
coded_subfields (s ∷ ss) ok =
    let first = All-head FormedSubfield s ss ok in
    rw append_assoc (first.code_is, coded_text (s.code ∷ s.body) (subfields_laid ss ++ (30 ∷ [])) (subfield_text s first) (coded_subfields ss (All-tail FormedSubfield s ss ok)))

open_subfields : (ss : List Subfield) → All FormedSubfield ss → All (λ b. within 29 30 b ≡ false) (subfields_laid ss)
open_subfields [] ok = All-nil (λ b. within 29 30 b ≡ false)
open_subfields (s ∷ ss) ok =
    let inside = λ (b : ℕ). within 29 30 b ≡ false in
    let first = All-weaker (λ b. separator b ≡ false) inside text_30 (s.code ∷ s.body) (subfield_text s (All-head FormedSubfield s ss ok)) in
    All-cons inside 31 (s.code ∷ s.body ++ subfields_laid ss) refl (All-append inside (s.code ∷ s.body) (subfields_laid ss) first (open_subfields ss (All-tail FormedSubfield s ss ok)))

-- two indicators, 1F, and a subfield code after each 1F
abbrev opens : List ℕ → ℕ → Bool
opens field i = cond (ltb i 2) (code_character (get_or field i 0)) (cond (eqb i 2) (eqb (get_or field i 0) 31) (follows (get_or field (i - 1) 0) (get_or field i 0)))

opened : (a b : ℕ) (bs : List ℕ) → code_character a ≡ true → code_character b ≡ true → Coded (31 ∷ bs) → (i : ℕ) → opens (a ∷ b ∷ 31 ∷ bs) i ≡ true
opened a b bs first second ok zero = first
opened a b bs first second ok (suc zero) = second
opened a b bs first second ok (suc (suc zero)) = refl
opened a b bs first second ok (suc (suc (suc i))) =
    let before : suc (suc (suc i)) - 1 ≡ suc (suc i) = omega arith in
    cond-false _ _ _ (le-ltb (suc (suc (suc i))) 2 (omega arith))
    ∙ cond-false _ _ _ (ne_eqb (suc (suc (suc i))) 2 (λ e. omega arith))
    ∙ ap (λ n. follows (get_or (a ∷ b ∷ 31 ∷ bs) n 0) (get_or bs i 0)) before
    ∙ coded_at (31 ∷ bs) ok i

pub field_holds : (f : Field) → FormedField f → (i : ℕ) → i < length (field_laid f) → byte_rule (tag_of f) (field_laid f) i ≡ true
field_holds (Control tag bs) (low, high, text) i h = cond-true _ _ _ (lt-ltb tag 10 (omega arith)) ∙ closed separator bs text i h
field_holds (Data tag a b []) (low, high, first, second, some, ok) i h = absurd (omega arith)
field_holds (Data tag a b (s ∷ ss)) (low, high, first, second, some, ok) i h =
    let rest = s.code ∷ ((s.body ++ subfields_laid ss) ++ (30 ∷ [])) in
    let inside = λ (c : ℕ). within 29 30 c ≡ false in
    let laid = subfields_laid (s ∷ ss) in
    let free = All-cons inside a (b ∷ laid) (text_30 a (code_text a first)) (All-cons inside b laid (text_30 b (code_text b second)) (open_subfields (s ∷ ss) ok)) in
    cond-false _ _ _ (le-ltb tag 10 low)
    ∙ and_from _ _ (opened a b rest first second (coded_subfields (s ∷ ss) ok) i) (closed (within 29 30) (a ∷ b ∷ laid) free i h)
