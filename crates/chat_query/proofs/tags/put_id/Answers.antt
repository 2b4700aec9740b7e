use Rattle.std.proofs.Common.{sym, ◌∙◌}
use Rattle.byte_text.proofs.CallerLemmas.{writes_same}
use Rattle.chat_query.proofs.TagLemmas.{plain_value}
use Rattle.chat_query.proofs.tags.put_id.Goals as goal

pub returns-then-is_plain : goal.returns-then-is_plain
returns-then-is_plain g c = writes_same _ _ _ _ c.put.result (sym (plain_value c.args.id.now (sym c.is_plain.ensures ∙ c.if-is_plain.true))) c.put.ensures
