use Rattle.irc_tags.proofs.ClientTextLemmas.{is_client_only_text-client_only_text}
use Rattle.irc_tags.proofs.laws.client_only_text_is_client_only.Goals as goal

pub returns : goal.returns
returns c = is_client_only_text-client_only_text
