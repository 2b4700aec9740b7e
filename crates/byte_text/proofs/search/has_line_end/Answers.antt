use Rattle.std.proofs.Common.{◌∙◌}
use Rattle.byte_text.specs.Bytes.{ends_line}
use Rattle.byte_text.proofs.FoundLemmas.{found_is_any}
use Rattle.byte_text.proofs.search.has_line_end.Goals as goal

pub returns : goal.returns
returns c = c.is_some.ensures ∙ found_is_any ends_line c.args.text.now c.memchr3.result c.memchr3.ensures
