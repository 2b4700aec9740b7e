use Rattle.irc_tags.proofs.ClientTextLemmas.{kept_text, kept_keys}
use Rattle.irc_tags.proofs.laws.kept_text_is_client_only.Goals as goal

pub returns-clause-text : goal.returns-clause-text
returns-clause-text c = kept_text

pub returns-clause-keys : goal.returns-clause-keys
returns-clause-keys c = kept_keys
