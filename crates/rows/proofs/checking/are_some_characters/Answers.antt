-- A set that is not empty has some characters where each of its codes is one.
use Rattle.std.proofs.Common.{◌≡◌, not, ◌&&◌, ap, ◌∙◌, rules, tests}
use Rattle.std.specs.List.{list_all}
use Rattle.std.proofs.lemmas.Iterator.{YieldsList-from_slice}
use Rattle.std.proofs.lemmas.Iterator.Search.{all_from_yields_List}
use Rattle.record.specs.Classes.{code_character}
use Rattle.rows.proofs.checking.are_some_characters.Goals as goal

pub returns-then-not-is_empty : goal.returns-then-not-is_empty
returns-then-not-is_empty c =
    let set = c.args.set.now in
    let all : c.all.result ≡ list_all code_character set = all_from_yields_List code_character _ _ c.all.result c.all.ensures.ran (YieldsList-from_slice set cc) (λ x b q k. search (rules, tests)) in
    all ∙ ap (λ b. not b && list_all code_character set) c.if-not-is_empty.ensures
