-- Bytes written one after the other into a buffer. Assumes nothing.
use borrow.Rule.Slice.PartMut.{put_mid}
use Rattle.std.proofs.Common.{◌≡◌, ℕ, suc, ◌+◌, ◌<◌, List, [], ◌∷◌, ◌++◌, length, take, drop, set, sym, refl, ap, ◌∙◌, append_assoc, append-nil, add-one, arith, length-append, length-drop}
use Rattle.std.proofs.lemmas.List.{drop_all, drop_at, drop-drop, set_split, take_at}

-- the front is written up to this place, and past it stands what was there before
pub record Written (old out front : List ℕ) (at : ℕ) : Type 0 where
  pub out_is : out ≡ front ++ drop at old
  pub long : length front ≡ at

pub nothing : (old : List ℕ) → Written old old [] 0
nothing old = record { out_is = refl; long = refl }

module _ {old out front : List ℕ} {at : ℕ} (w : Written old out front at) where
  before : take at out ≡ front
  before = ap (take at) w.out_is ∙ take_at front (drop at old) at w.long

  after : (n : ℕ) → drop n (drop at out) ≡ drop (at + n) old
  after n = ap (λ l. drop n (drop at l)) w.out_is ∙ ap (drop n) (drop_at front (drop at old) at w.long) ∙ drop-drop n at old

  -- bytes, and one byte, that are written next
  pub next : {new bs : List ℕ} (p size : ℕ) → p ≡ at → new ≡ bs → length bs ≡ size → Written old (put_mid p size out new) (front ++ bs) (at + size)
  next {new} {bs} p size e is n = record {
    out_is = (λ i. take (e i) out ++ (is i ++ drop size (drop (e i) out))) ∙ (λ i. before i ++ (bs ++ after size i)) ∙ sym (append_assoc front bs (drop (at + size) old));
    long = length-append front bs ∙ omega (arith, n, w.long);
  }

  rest : drop (at + 1) out ≡ drop (at + 1) old
  rest = sym (drop-drop 1 at out) ∙ after 1

  pub next_byte : (p b : ℕ) → p ≡ at → at < length old → Written old (set out p b) (front ++ (b ∷ [])) (at + 1)
  next_byte p b e room = record {
    out_is =
        set_split out p b (omega (arith, ap length w.out_is, length-append front (drop at old), w.long, length-drop at old))
        ∙ (λ i. take (e i) out ++ (b ∷ drop (suc (e i)) out))
        ∙ ap (λ n. take at out ++ (b ∷ drop n out)) (sym (add-one at))
        ∙ (λ i. before i ++ (b ∷ rest i))
        ∙ sym (append_assoc front (b ∷ []) (drop (at + 1) old));
    long = length-append front (b ∷ []) ∙ omega (arith, w.long);
  }

  -- all is written
  pub whole : length old ≡ at → out ≡ front
  whole e = w.out_is ∙ ap (λ l. front ++ l) (drop_all at old (omega arith)) ∙ append-nil front
