-- The cursor hands out all fields, and the list has the extent of each.
use Rattle.std.proofs.Common.{rules}
use Rattle.std.proofs.lemmas.Iterator.{YieldsList-from_map, items_from_collect}
use Rattle.std.proofs.lemmas.Iterator.Consumers.{YieldsList-at, YieldsList-from_first}
use Rattle.record.specs.Cursors.{fields_left, seen_field}
use Rattle.record.specs.Reading.{extent_read}
use Rattle.exports.proofs.copy.extents_of.Goals as goal

pub returns : goal.returns
returns c =
    let all = YieldsList-from_first seen_field fields_left _ c.fields.ensures.left in
    items_from_collect c.collect.result c.collect.ensures.ran (YieldsList-from_map _ extent_read (YieldsList-at c.map.ensures.source all) c.map.ensures.closure (λ x r q k. search rules))
