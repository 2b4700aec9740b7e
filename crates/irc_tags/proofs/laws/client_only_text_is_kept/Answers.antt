use Rattle.irc_tags.proofs.ClientTextLemmas.{kept_as_written}
use Rattle.irc_tags.proofs.laws.client_only_text_is_kept.Goals as goal

pub returns : goal.returns
returns c = kept_as_written
