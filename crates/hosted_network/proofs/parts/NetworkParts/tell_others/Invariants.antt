use Rattle.std.proofs.Common.{◌≡◌, length}
use Rattle.network_log.specs.NetworkState.{NetworkState}
use Rattle.network_log.specs.Share.{hears_batch}
use Rattle.hosted_network.specs.Shares.{entries_in}
use Rattle.hosted_network.proofs.MarkingLemmas.{OthersAreTold}
use Rattle.hosted_network.proofs.parts.NetworkParts.tell_others.Given as goal

abbrev pub invariant-loop-other : goal.invariant-loop-other
invariant-loop-other g l =
    let now : NetworkState = record l.fn.self { guests = l.self.guests } in
    record {
      count : length l.fn.self.guests ≡ l.other-end;
      same_count : length l.self.guests ≡ l.other-end;
      rest : l.self ≡ now;
      told : ∥ OthersAreTold (hears_batch l.fn.self.held (entries_in l.fn.told)) l.fn.place l.other l.fn.self.guests l.self.guests ∥₁;
      shares : l.shares.told.now ≡ l.fn.told;
      config : l.shares.config.now ≡ l.fn.self.config;
    }
