use Rattle.chat_query.proofs.TagLemmas.{plain_id, none_at_first, one_at_first}
use Rattle.chat_query.proofs.tags.is_plain.Goals as goal

pub returns-then-id-lt-LANES : goal.returns-then-id-lt-LANES
returns-then-id-lt-LANES c = plain_id c.args.id.now c.memchr2.result c.is_none.result c.requires c.memchr2.ensures c.is_none.ensures

pub returns-then-begins_plain : goal.returns-then-begins_plain
returns-then-begins_plain c =
    none_at_first c.args.id.now 16 _ _ c.requires c.if-id-lt-LANES.false c.if-id.false c.if-begins_plain.true c.begins_plain.ensures c.begins_plain-then-begins_plain.ensures

pub returns-else-begins_plain : goal.returns-else-begins_plain
returns-else-begins_plain c = one_at_first c.args.id.now 16 _ c.requires c.if-begins_plain.false c.begins_plain.ensures
