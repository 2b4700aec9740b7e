use Rattle.std.proofs.Common.{subst}
use Rattle.gossip_link.specs.Cluster.{World, start}
use Rattle.gossip_link.specs.Promises.{IsReached}
use Rattle.gossip_link.proofs.SoundLemmas.{IsSound}
use Rattle.gossip_link.proofs.EventLemmas.{IsSound-run, IsSound-start, comes_from, peer_includes, same_histories}
use Rattle.gossip_link.proofs.laws.cluster.Goals as goal

reached : (w : World) → IsReached w → IsSound w
reached w r = subst IsSound r.ends (IsSound-run r.events (start r.incarnations r.versions) r.differ (IsSound-start r.incarnations r.versions))

pub returns : goal.returns
returns c = record {
  holds = λ w r. (reached w r).holds;
  made = λ w r. comes_from w (reached w r);
  acknowledged = λ w r. peer_includes w (reached w r);
  same = λ w r. same_histories w (reached w r);
}
