-- Numbers in decimal digits, written and read. Assumes nothing.
use Rattle.std.proofs.Common.{◌≡◌, ℕ, zero, suc, ◌+◌, ◌-◌, ◌*◌, ◌/◌, ◌%◌, ◌^◌, ◌<◌, true, false, cond, ltb, List, [], ◌∷◌, ◌++◌, length, replicate, sym, refl, ap, ◌∙◌, append_assoc, append-nil, add-zero, mul-le-mul_right, mul_assoc, zero-add, mul_left_comm, arith, length-append}
use native.Mathlib.Nat.{pow-succ'}
use lib.ListN.{length-replicate}
use Rattle.std.proofs.lemmas.Bool.{and_from, and_parts, cond-true, le-leb, leb-true, lt-ltb}
use Rattle.std.proofs.lemmas.List.Folds.{list_all-append}
use Rattle.record.specs.Classes.{digit}
use Rattle.record.specs.Figures.{all_digits, number, number_from}
use Rattle.record.specs.Layout.{digits, figure}

pub length_digits : (w n : ℕ) → length (digits w n) ≡ w
length_digits zero n = refl
length_digits (suc w) n = length-append (digits w (n / 10)) ((48 + n % 10) ∷ []) ∙ omega (arith, length_digits w (n / 10))

pub number_push : (n : ℕ) (xs : List ℕ) (d : ℕ) → number_from n (xs ++ (d ∷ [])) ≡ 10 * number_from n xs + (d - 48)
number_push n [] d = refl
number_push n (x ∷ xs) d = number_push (10 * n + (x - 48)) xs d

pub number_digits : (w n : ℕ) → n < 10 ^ w → number (digits w n) ≡ n
number_digits zero n h = omega arith
number_digits (suc w) n h =
    let up = pow-succ' 10 w in
    let ih = number_digits w (n / 10) (omega arith) in
    number_push 0 (digits w (n / 10)) (48 + n % 10) ∙ omega arith

pub digits_all : (w n : ℕ) → all_digits (digits w n) ≡ true
digits_all zero n = refl
digits_all (suc w) n =
    list_all-append digit (digits w (n / 10)) ((48 + n % 10) ∷ [])
    ∙ and_from _ _ (digits_all w (n / 10)) (and_from _ _ (and_from _ _ (le-leb 48 (48 + n % 10) (omega arith)) (le-leb (48 + n % 10) 57 (omega arith))) refl)

-- a figure that is wide enough
module _ (w n : ℕ) (fits : n < 10 ^ w) where
  pub figure_digits : figure w n ≡ digits w n
  figure_digits = cond-true _ _ _ (lt-ltb n (10 ^ w) fits)

  pub number-figure : number (figure w n) ≡ n
  number-figure = ap number figure_digits ∙ number_digits w n fits

pub length_figure : (w n : ℕ) → length (figure w n) ≡ w
length_figure w n =
    elim (ltb n (10 ^ w)) as (λ t. length (cond t (digits w n) (replicate w 42)) ≡ w) [ true ↦ length_digits w n | false ↦ length-replicate w 42 ]

-- a figure has digits where the number fits, and else none
pub figure_all : (w n : ℕ) → all_digits (figure (suc w) n) ≡ ltb n (10 ^ suc w)
figure_all w n =
    elim (ltb n (10 ^ suc w)) as (λ t. all_digits (cond t (digits (suc w) n) (replicate (suc w) 42)) ≡ t) [ true ↦ digits_all (suc w) n | false ↦ refl ]

-- digits that are read are written back
pub digits_after : (xs : List ℕ) (n v : ℕ) → all_digits xs ≡ true → digits (v + length xs) (number_from n xs) ≡ digits v n ++ xs
digits_after [] n v ok = ap (λ w. digits w n) (add-zero v) ∙ sym (append-nil (digits v n))
digits_after (x ∷ xs) n v ok =
    let here = and_parts _ _ (and_parts (digit x) (all_digits xs) ok).0 in
    let low = leb-true 48 x here.0 in
    let high = leb-true x 57 here.1 in
    let w : v + suc (length xs) ≡ suc v + length xs = omega arith in
    let up : (10 * n + (x - 48)) / 10 ≡ n = omega arith in
    let last : 48 + (10 * n + (x - 48)) % 10 ≡ x = omega arith in
    ap (λ m. digits m (number_from (10 * n + (x - 48)) xs)) w
    ∙ digits_after xs (10 * n + (x - 48)) (suc v) (and_parts (digit x) (all_digits xs) ok).1
    ∙ append_assoc (digits v ((10 * n + (x - 48)) / 10)) ((48 + (10 * n + (x - 48)) % 10) ∷ []) xs
    ∙ (λ i. digits v (up i) ++ (last i ∷ xs))

pub digits_number : (xs : List ℕ) → all_digits xs ≡ true → digits (length xs) (number xs) ≡ xs
digits_number xs ok = ap (λ w. digits w (number xs)) (sym (zero-add (length xs))) ∙ digits_after xs 0 0 ok

-- a number after n is below the next one with as many digits more
number_small : (xs : List ℕ) (n : ℕ) → all_digits xs ≡ true → number_from n xs < (n + 1) * 10 ^ length xs
number_small [] n ok = omega arith
number_small (x ∷ xs) n ok =
    let here = and_parts _ _ (and_parts (digit x) (all_digits xs) ok).0 in
    let low = leb-true 48 x here.0 in
    let high = leb-true x 57 here.1 in
    let m = 10 * n + (x - 48) in
    let p = 10 ^ length xs in
    let ih = number_small xs m (and_parts (digit x) (all_digits xs) ok).1 in
    let up = mul-le-mul_right {m = m + 1} {n = 10 * (n + 1)} p (omega arith) in
    let regroup = mul_assoc 10 (n + 1) p in
    let more : (n + 1) * 10 ^ suc (length xs) ≡ 10 * ((n + 1) * p) = ap (λ q. (n + 1) * q) (pow-succ' 10 (length xs)) ∙ mul_left_comm (n + 1) 10 p in
    omega arith

-- a number that was read from w digits fits into them, and is written back
module _ (xs : List ℕ) (w n : ℕ) (long : length xs ≡ w) (ok : all_digits xs ≡ true) (is : number xs ≡ n) where
  pub number_fits : n < 10 ^ w
  number_fits = let small : number xs < 10 ^ length xs = omega (arith, number_small xs 0 ok) in rw (long, is) at small

  pub figure_back : figure w n ≡ xs
  figure_back = figure_digits w n number_fits ∙ sym (λ i. digits (long i) (is i)) ∙ digits_number xs ok
