-- The search over the rows gives the first of the tag.
use Rattle.std.proofs.Common.{eqb, rules, tests}
use Rattle.std.proofs.lemmas.Iterator.{YieldsList-from_slice}
use Rattle.std.proofs.lemmas.Iterator.Search.{find_from_yields_List}
use Rattle.rows.proofs.Searches.{row_seen}
use Rattle.rows.proofs.rows.FormatRows.find.Goals as goal

pub returns : goal.returns
returns c =
    row_seen c.args.self.now.rows.now c.args.tag c.find.result
    (find_from_yields_List (λ row. eqb row.tag c.args.tag) _ _ _ c.find.ensures.ran (YieldsList-from_slice c.args.self.now.rows.now cc) (λ row b q k. search (rules, tests)))
