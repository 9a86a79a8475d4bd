-- An entry is twelve digits where its three figures are digits. Assumes nothing.
use Rattle.std.proofs.Common.{◌≡◌, ℕ, ◌+◌, ◌*◌, ◌<◌, ◌≤◌, Bool, true, false, cond, ◌&&◌, List, length, Option, Some, None, sym, refl, ap, ◌∙◌, arith}
use Rattle.std.proofs.lemmas.Bool.{and_parts}
use Rattle.std.proofs.lemmas.Option.{none-some}
use Rattle.std.proofs.lemmas.List.Folds.{list_all-append}
use Rattle.record.specs.declared.entry.Entry.{Entry}
use Rattle.record.specs.Classes.{digit}
use Rattle.record.specs.Directory.{entry_place, entry_size, entry_start, entry_tag, starts_at}
use Rattle.record.specs.Entries.{entry_told, numbers_of}
use Rattle.record.specs.Figures.{all_digits, figure_told, part}
use Rattle.record.proofs.Clamped.{length_part, part_parts}
use Rattle.record.proofs.Decimals.{number_fits}

-- the entry that three figures tell
abbrev pub figured : Option ℕ → Option ℕ → Option ℕ → Option Entry
figured None s u = None
figured (Some t) None u = None
figured (Some t) (Some s) None = None
figured (Some t) (Some s) (Some u) = Some (record { tag = t; size = s; start = u })

all_told : (a b c : Bool) (t s u : ℕ) → figured (cond a (Some t) None) (cond b (Some s) None) (cond c (Some u) None) ≡ cond (a && (b && c)) (Some (record { tag = t; size = s; start = u })) None
all_told false b c t s u = refl
all_told true false c t s u = refl
all_told true true false t s u = refl
all_told true true true t s u = refl

digits_both : (bs : List ℕ) (p n m : ℕ) → all_digits (part bs p (n + m)) ≡ (all_digits (part bs p n) && all_digits (part bs (p + n) m))
digits_both bs p n m = ap all_digits (part_parts bs p n m) ∙ list_all-append digit (part bs p n) (part bs (p + n) m)

pub figured_told : (bs : List ℕ) (k : ℕ) → figured (figure_told (part bs (entry_place k) 3)) (figure_told (part bs (entry_place k + 3) 4)) (figure_told (part bs (entry_place k + 7) 5)) ≡ entry_told bs k
figured_told bs k =
    let p = entry_place k in
    let q : p + 3 + 4 ≡ p + 7 = omega arith in
    let rest : all_digits (part bs (p + 3) 9) ≡ (all_digits (part bs (p + 3) 4) && all_digits (part bs (p + 7) 5)) = rw q at (digits_both bs (p + 3) 4 5) in
    let all : all_digits (part bs p 12) ≡ (all_digits (part bs p 3) && (all_digits (part bs (p + 3) 4) && all_digits (part bs (p + 7) 5))) =
    digits_both bs p 3 9 ∙ ap (λ t. all_digits (part bs p 3) && t) rest in
    all_told _ _ _ (entry_tag bs k) (entry_size bs k) (entry_start bs k) ∙ ap (λ t. cond t (Some (numbers_of bs k)) None) (sym all)

-- a right entry tells a length of four digits
pub size_small : (bs : List ℕ) (k before : ℕ) → 36 + 12 * k ≤ length bs → starts_at bs k before ≡ true → entry_size bs k < 10000
size_small bs k before room ok =
    let p = entry_place k in
    let all = and_parts (all_digits (part bs p 3)) (all_digits (part bs (p + 3) 9)) (sym (digits_both bs p 3 9) ∙ (and_parts (all_digits (part bs p 12)) _ ok).0) in
    let here = and_parts (all_digits (part bs (p + 3) 4)) _ (sym (digits_both bs (p + 3) 4 5) ∙ all.1) in
    number_fits (part bs (p + 3) 4) 4 (entry_size bs k) (length_part bs (p + 3) 4 (omega arith)) here.0 refl

-- a value that is told only where a test passes, and is not told
pub test_failed : {X : Type 0} (x : X) (t : Bool) → None ≡ cond t (Some x) None → false ≡ t
test_failed x true e = absurd (none-some x e)
test_failed x false e = refl
