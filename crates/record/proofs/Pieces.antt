-- From one 1F to the next. Assumes nothing.
use Rattle.std.proofs.Common.{◌≡◌, ℕ, suc, ◌+◌, ◌-◌, ◌<◌, Bool, true, false, cond, eqb, List, [], ◌∷◌, length, get_or, take, drop, sym, refl, ap, ◌∙◌, add-zero, add-one, arith}
use Rattle.std.proofs.lemmas.List.{at_drop_more, drop-drop}
use Rattle.std.proofs.lemmas.Bool.{cond-true, cond-false, eq-eqb, ne_eqb}
use Rattle.record.specs.Figures.{part}
use Rattle.record.specs.Reading.{PlacedSubfield, piece, subfield_in, subfields_in}

-- a piece ends at a 1F, and is a byte longer for each other byte
pub piece_ends : (b : ℕ) (bs : List ℕ) → b ≡ 31 → length (piece (b ∷ bs)) ≡ 0
piece_ends b bs mark = ap length (cond-true _ _ _ (eq-eqb b 31 mark))

pub piece_goes_on : (b : ℕ) (bs : List ℕ) → (b ≡ 31 → ⊥) → length (piece (b ∷ bs)) ≡ length (piece bs) + 1
piece_goes_on b bs other = ap length (cond-false _ _ _ (ne_eqb b 31 other)) ∙ sym (add-one _)

module _ (bs : List ℕ) (i : ℕ) where
  module _ (within : i < length bs) where
    -- the subfield that begins here, and those after it
    pub begun : get_or bs i 0 ≡ 31 → subfields_in i (drop i bs) ≡ record { place = i; subfield = subfield_in (drop (i + 1) bs) } ∷ subfields_in (i + 1) (drop (i + 1) bs)
    begun mark = at_drop_more (subfields_in i) bs i 0 within ∙ cond-true _ _ _ (eq-eqb _ 31 mark)

pub piece_front : (bs : List ℕ) → piece bs ≡ take (length (piece bs)) bs
piece_front [] = refl
piece_front (b ∷ bs) = elim (eqb b 31) as (λ t. cond t [] (b ∷ piece bs) ≡ take (length (cond t [] (b ∷ piece bs))) (b ∷ bs)) [ true ↦ refl | false ↦ ap (λ l. b ∷ l) (piece_front bs) ]

-- no subfield begins before the next 1F
module _ (p b : ℕ) (bs : List ℕ) where
  onwards : List ℕ → List PlacedSubfield
  onwards l = subfields_in (p + length l) (drop (length l) (b ∷ bs))

  to_next_by : (t : Bool) → eqb b 31 ≡ t → subfields_in (p + 1) bs ≡ subfields_in (p + 1 + length (piece bs)) (drop (length (piece bs)) bs) → subfields_in p (b ∷ bs) ≡ onwards (piece (b ∷ bs))
  unfolding onwards
  to_next_by true e ih = ap (λ k. subfields_in k (b ∷ bs)) (sym (add-zero p)) ∙ ap onwards (sym (cond-true _ [] (b ∷ piece bs) e))
  to_next_by false e ih =
      let more : p + 1 + length (piece bs) ≡ p + suc (length (piece bs)) = omega arith in
      cond-false _ _ _ e ∙ ih ∙ ap (λ k. subfields_in k (drop (length (piece bs)) bs)) more ∙ ap onwards (sym (cond-false _ [] (b ∷ piece bs) e))

pub to_next : (p : ℕ) (bs : List ℕ) → subfields_in p bs ≡ subfields_in (p + length (piece bs)) (drop (length (piece bs)) bs)
unfolding onwards
to_next p [] = refl
to_next p (b ∷ bs) = to_next_by p b bs (eqb b 31) refl (to_next (p + 1) bs)

pub skipped : (bs : List ℕ) (i j : ℕ) → j ≡ i + length (piece (drop i bs)) → subfields_in i (drop i bs) ≡ subfields_in j (drop j bs)
skipped bs i j e =
    to_next i (drop i bs)
    ∙ ap (subfields_in (i + length (piece (drop i bs)))) (drop-drop (length (piece (drop i bs))) i bs)
    ∙ ap (λ k. subfields_in k (drop k bs)) (sym e)

-- one turn of the cursor: from a place to the next 1F, and on to the one after it
pub record Turn (bs : List ℕ) (from place end code : ℕ) (rest body : List ℕ) : Type 0 where
  pub found : place ≡ from + length (piece (drop from bs))
  pub within : place < length bs
  pub mark : get_or bs place 0 ≡ 31
  pub ended : end ≡ place + 1 + length (piece (drop (place + 1) bs))
  pub rest_is : rest ≡ part bs (place + 1) (end - place - 1)
  pub code_is : code ≡ get_or rest 0 0
  pub body_is : body ≡ drop 1 rest

pub turned : (bs : List ℕ) (from place end code : ℕ) (rest body : List ℕ) → Turn bs from place end code rest body → subfields_in from (drop from bs) ≡ record { place = place; subfield = record { code = code; body = body } } ∷ subfields_in end (drop end bs)
turned bs from place end code rest body t =
    let after = drop (place + 1) bs in
    let size : end - place - 1 ≡ length (piece after) = omega arith in
    let whole : rest ≡ piece after = t.rest_is ∙ ap (λ n. take n after) size ∙ sym (piece_front after) in
    let first : get_or (piece after) 0 0 ≡ code = ap (λ l. get_or l 0 0) (sym whole) ∙ sym t.code_is in
    let others : drop 1 (piece after) ≡ body = ap (drop 1) (sym whole) ∙ sym t.body_is in
    skipped bs from place t.found
    ∙ begun bs place t.within t.mark
    ∙ (λ i. record { place = place; subfield = record { code = first i; body = others i } } ∷ skipped bs (place + 1) end t.ended i)
