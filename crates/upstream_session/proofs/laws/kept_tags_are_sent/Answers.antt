use Rattle.upstream_session.proofs.SentLemmas.{sent_as_kept}
use Rattle.upstream_session.proofs.laws.kept_tags_are_sent.Goals as goal

pub returns : goal.returns
returns c = sent_as_kept
