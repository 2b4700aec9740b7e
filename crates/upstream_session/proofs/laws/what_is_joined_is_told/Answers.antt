use Rattle.upstream_session.proofs.JoinLemmas.{joins_it, joins_it_after}
use Rattle.upstream_session.proofs.ChannelLemmas.{joins_none}
use Rattle.upstream_session.proofs.laws.what_is_joined_is_told.Goals as goal

pub returns : goal.returns
returns c = record { joined = joins_it; later = joins_it_after; others = joins_none }
