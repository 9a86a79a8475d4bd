-- Text, byte by byte. Assumes nothing.
use Rattle.std.proofs.Common.{◌≡◌, ℕ, false, List, [], ◌∷◌}
use Rattle.std.proofs.lemmas.List.Elements.{All-cons, All-head, All-nil, All-tail}
use Rattle.record.specs.Classes.{separator}
use Rattle.record.specs.Formed.{Text}

pub text_none : Text []
text_none = All-nil (λ b. separator b ≡ false)

module _ (b : ℕ) (bs : List ℕ) where
  pub text_more : separator b ≡ false → Text bs → Text (b ∷ bs)
  text_more = All-cons (λ b. separator b ≡ false) b bs

  pub text_first : Text (b ∷ bs) → separator b ≡ false
  text_first = All-head (λ b. separator b ≡ false) b bs

  pub text_rest : Text (b ∷ bs) → Text bs
  text_rest = All-tail (λ b. separator b ≡ false) b bs
