use Rattle.std.proofs.Common.{◌≡◌, length}
use Rattle.network_log.specs.Following.{AreToldBy}
use Rattle.network_log.specs.NetworkState.{NetworkState}
use Rattle.network_log.specs.Share.{hears_batch}
use Rattle.hosted_network.specs.Shares.{entries_in}
use Rattle.hosted_network.proofs.parts.NetworkParts.tell_all.Given as goal

abbrev pub invariant-loop-place : goal.invariant-loop-place
invariant-loop-place g l =
    let now : NetworkState = record l.fn.self { guests = l.self.guests } in
    record {
      count : length l.fn.self.guests ≡ l.place-end;
      same_count : length l.self.guests ≡ l.place-end;
      rest : l.self ≡ now;
      told : ∥ AreToldBy (hears_batch l.fn.self.held (entries_in l.fn.told)) l.place l.fn.self.guests l.self.guests ∥₁;
      shares : l.shares.told.now ≡ l.fn.told;
      config : l.shares.config.now ≡ l.fn.self.config;
    }
