-- What is laid out from a well-formed field is read as that field, with its subfields where they stand. Assumes nothing.
use Rattle.std.proofs.Common.{◌≡◌, ℕ, ◌+◌, ◌-◌, List, [], ◌∷◌, ◌++◌, map, length, get_or, take, drop, sym, refl, ap, ◌∙◌, append_assoc, arith}
use Rattle.std.specs.List.{All}
use Rattle.std.proofs.lemmas.List.Elements.{All-cons, All-head, All-nil, All-tail}
use Rattle.std.proofs.lemmas.List.{drop_at, drop-drop, length_push, take_at}
use Rattle.std.proofs.lemmas.Bool.{cond-false, cond-true, le-ltb, lt-ltb}
use Rattle.record.specs.Figures.{part}
use Rattle.record.specs.Formed.{FormedField, FormedSubfield, Text}
use Rattle.record.specs.Layout.{field_laid, subfields_laid}
use Rattle.record.specs.Parts.{Field, Subfield, tag_of}
use Rattle.record.specs.Parts.Field.{Control, Data}
use Rattle.record.specs.Reading.{Held, PlacedSubfield, held, piece, subfields_in, without_places}
use Rattle.record.specs.Reading.Held.{bytes, coded}
use Rattle.record.specs.Trips.{SubfieldStands, SubfieldsStand}
use Rattle.record.proofs.Texts.{text_first, text_rest}
use Rattle.record.proofs.Clamped.{next_part}
use Rattle.record.proofs.Grammar.{subfield_text, text_31}
use Rattle.record.proofs.Pieces.{to_next}

-- subfields end to end from p on, each with the place of its 1F
abbrev placed : ℕ → List Subfield → List PlacedSubfield
placed p [] = []
placed p (s ∷ ss) = record { place = p; subfield = s } ∷ placed (p + (2 + length s.body)) ss

subfields_placed : (p : ℕ) (ss : List Subfield) → map (λ s. s.subfield) (placed p ss) ≡ ss
subfields_placed p [] = refl
subfields_placed p (s ∷ ss) = ap (λ l. s ∷ l) (subfields_placed (p + (2 + length s.body)) ss)

-- text is cut where the next subfield begins
piece_text : (bs : List ℕ) (ss : List Subfield) → Text bs → piece (bs ++ subfields_laid ss) ≡ bs
piece_text [] [] text = refl
piece_text [] (s ∷ ss) text = refl
piece_text (b ∷ bs) ss text = cond-false _ _ _ (text_31 b (text_first b bs text)) ∙ ap (λ l. b ∷ l) (piece_text bs ss (text_rest b bs text))

subfields_back : (p : ℕ) (ss : List Subfield) → All FormedSubfield ss → subfields_in p (subfields_laid ss) ≡ placed p ss
subfields_back p [] ok = refl
subfields_back p (s ∷ ss) ok =
    let text = s.code ∷ s.body in
    let rest = subfields_laid ss in
    let cut : piece (text ++ rest) ≡ text = piece_text text ss (subfield_text s (All-head FormedSubfield s ss ok)) in
    let next : p + 1 + length text ≡ p + (2 + length s.body) = omega arith in
    let after : subfields_in (p + 1) (text ++ rest) ≡ placed (p + (2 + length s.body)) ss =
    to_next (p + 1) (text ++ rest)
    ∙ ap (λ l. subfields_in (p + 1 + length l) (drop (length l) (text ++ rest))) cut
    ∙ (λ i. subfields_in (next i) (drop_at text rest (length text) refl i))
    ∙ subfields_back (p + (2 + length s.body)) ss (All-tail FormedSubfield s ss ok) in
    λ i. record { place = p; subfield = record { code = get_or (cut i) 0 0; body = drop 1 (cut i) } } ∷ after i

-- what a field that begins at p holds
abbrev pub holding : ℕ → Field → Held
holding p (Control tag bs) = bytes bs
holding p (Data tag i j ss) = coded i j (placed (p + 2) ss)

without_end : (bs : List ℕ) → take (length (bs ++ (30 ∷ [])) - 1) (bs ++ (30 ∷ [])) ≡ bs
without_end bs = take_at bs (30 ∷ []) (length (bs ++ (30 ∷ [])) - 1) (omega (arith, length_push bs 30))

pub held_back : (f : Field) → FormedField f → (p : ℕ) → held (tag_of f) p (field_laid f) ≡ holding p f
held_back (Control tag bs) (low, high, text) p = cond-true _ _ _ (lt-ltb tag 10 (omega arith)) ∙ ap bytes (without_end bs)
held_back (Data tag i j ss) (low, high, first, second, some, ok) p =
    cond-false _ _ _ (le-ltb tag 10 low)
    ∙ ap (λ l. coded i j (subfields_in (p + 2) (drop 2 l))) (without_end (i ∷ j ∷ subfields_laid ss))
    ∙ ap (coded i j) (subfields_back (p + 2) ss ok)

without_holding : (f : Field) (p : ℕ) → without_places (tag_of f) (holding p f) ≡ f
without_holding (Control tag bs) p = refl
without_holding (Data tag i j ss) p = ap (Data tag i j) (subfields_placed (p + 2) ss)

pub reopened : (f : Field) → FormedField f → (p : ℕ) → without_places (tag_of f) (held (tag_of f) p (field_laid f)) ≡ f
reopened f ok p = ap (without_places (tag_of f)) (held_back f ok p) ∙ without_holding f p

-- the subfields of a field that stands at p stand where they are placed
module _ (bs : List ℕ) where
  placed_stand : (p : ℕ) (ss : List Subfield) (rest : List ℕ) → drop p bs ≡ subfields_laid ss ++ rest → All (SubfieldStands bs) (placed p ss)
  placed_stand p [] rest at = All-nil (SubfieldStands bs)
  placed_stand p (s ∷ ss) rest at =
      let whole = 31 ∷ s.code ∷ s.body in
      let n = 2 + length s.body in
      let long : length whole ≡ n = omega arith in
      let here : drop p bs ≡ whole ++ (subfields_laid ss ++ rest) = at ∙ append_assoc whole (subfields_laid ss) rest in
      let first = ap (take n) here ∙ take_at whole (subfields_laid ss ++ rest) n long in
      let next = sym (drop-drop n p bs) ∙ ap (drop n) here ∙ drop_at whole (subfields_laid ss ++ rest) n long in
      All-cons (SubfieldStands bs) (record { place = p; subfield = s }) (placed (p + n) ss) first (placed_stand (p + n) ss rest next)

  pub holding_stands : (f : Field) (p n : ℕ) → part bs p n ≡ field_laid f → SubfieldsStand bs (holding p f)
  holding_stands (Control tag text) p n at = tt
  holding_stands (Data tag i j ss) p n at =
      let rest = drop (p + n) bs in
      placed_stand (p + 2) ss (30 ∷ rest) (sym (drop-drop 2 p bs) ∙ ap (drop 2) (next_part bs p n ∙ ap (λ l. l ++ rest) at) ∙ append_assoc (subfields_laid ss) (30 ∷ []) rest)
