use Rattle.irc_line.proofs.ReadLemmas.{text_is}
use Rattle.irc_line.proofs.line.text_of.Goals as goal

pub returns : goal.returns
returns c = text_is c.args.bytes.now _ _ _ _ c.split_tags.ensures c.split_source.ensures
