use Rattle.irc_tags.proofs.ClientTextLemmas.{client_only_text-in_line, client_only_text-no_longer}
use Rattle.irc_tags.proofs.laws.client_only_text_stands_in_a_line.Goals as goal

pub returns-clause-no_end : goal.returns-clause-no_end
returns-clause-no_end c = client_only_text-in_line

pub returns-clause-no_longer : goal.returns-clause-no_longer
returns-clause-no_longer c = client_only_text-no_longer
