-- Parts of a list: what follows them, how long they are, and their bytes. Assumes nothing.
use Rattle.std.proofs.Common.{◌≡◌, ℕ, ◌+◌, ◌≤◌, List, ◌++◌, map, length, get_or, take, drop, sym, ap, ◌∙◌, arith, length-drop, take-add, take-append-drop}
use Rattle.std.specs.List.{range_with_len}
use Rattle.std.proofs.lemmas.List.FromFn.{fill_by_all}
use Rattle.std.proofs.lemmas.List.{drop-drop, drop-take, get_or-drop, get_or-take, length-take-le, take-take}
use Rattle.record.specs.Figures.{part}

pub next_part : (bs : List ℕ) (p n : ℕ) → drop p bs ≡ part bs p n ++ drop (p + n) bs
next_part bs p n = sym (take-append-drop n (drop p bs)) ∙ ap (λ l. part bs p n ++ l) (drop-drop n p bs)

-- a part in two
pub part_parts : (bs : List ℕ) (p n m : ℕ) → part bs p (n + m) ≡ part bs p n ++ part bs (p + n) m
part_parts bs p n m = take-add n m (drop p bs) ∙ ap (λ l. part bs p n ++ take m l) (drop-drop n p bs)

pub length_part : (bs : List ℕ) (p n : ℕ) → p + n ≤ length bs → length (part bs p n) ≡ n
length_part bs p n h = length-take-le n (drop p bs) (omega (arith, length-drop p bs))

-- a part, byte by byte
pub part_bytes : (bs : List ℕ) (p n : ℕ) → p + n ≤ length bs → part bs p n ≡ map (λ k. get_or bs (p + k) 0) (range_with_len 0 n)
part_bytes bs p n h = fill_by_all (λ k. get_or bs (p + k) 0) (part bs p n) n 0 (length_part bs p n h) (λ k l. get_or-take n (drop p bs) k 0 l ∙ get_or-drop p bs k 0)

-- the front of a part, past its first two, seen from the whole list
pub from_field : (bs : List ℕ) (p size m : ℕ) → m ≤ size → drop (p + 2) (take (p + m) bs) ≡ drop 2 (take m (part bs p size))
from_field bs p size m h = sym (drop-drop 2 p (take (p + m) bs)) ∙ ap (drop 2) (drop-take p m bs ∙ sym (take-take m size (drop p bs) h))
