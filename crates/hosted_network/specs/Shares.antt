-- Texts that several clients are told.
use Rattle.std.specs.Prelude.{ℕ, ◌≡◌, List, Some, slice_get}
use Rattle.std.specs.List.{All}
use Rattle.chat_query.specs.declared.facts.Facts.{Facts}
use Rattle.cluster_directory.specs.declared.config.SessionConfig.{SessionConfig}
use Rattle.network_log.specs.Host.{BatchEntry}
use Rattle.network_log.specs.Share.{nick_by_all}
use Rattle.network_server.specs.Entries.{entries}
use Rattle.hosted_network.specs.Sharing.{told_with}
use Rattle.hosted_network.specs.declared.shares.Share.{Share}
use Rattle.hosted_network.specs.declared.told.Told.{Told}

-- what is told, as the network's log has it
abbrev pub entries_in : Told → List BatchEntry
entries_in told = entries told.parts.now told.changes.now

-- the session is of the network that is configured so
abbrev pub IsOf : SessionConfig → Facts → Type 0
IsOf config f = (f.account ≡ config.account) × (f.network ≡ config.network)

-- the session is one of those for which the text was written, and its client knows that nick
pub record IsHearer (share : Share) (f : Facts) (nick : List ℕ) : Type 0 where
  pub has_caps : f.caps ≡ share.caps
  pub is_cluster : f.cluster ≡ share.cluster
  pub is_nick : nick ≡ share.nick

-- it is what the session is told, and the nick that its client knows then
pub record IsShare (told : Told) (share : Share) (f : Facts) (nick : List ℕ) : Type 0 where
  pub text : share.text.items ≡ told_with told.mark f nick (entries_in told)
  pub nick_after : share.nick_after ≡ nick_by_all nick (entries_in told)

abbrev pub AreShares : Told → SessionConfig → List Share → Type 0
AreShares told config shares =
    All (λ share. (f : Facts) (nick : List ℕ) → IsOf config f → IsHearer share f nick → IsShare told share f nick) shares

-- the text at that place is what the session is told
pub record IsShareAt (told : Told) (shares : List Share) (f : Facts) (nick : List ℕ) (at : ℕ) : Type 0 where
  pub share : Share
  pub is_there : slice_get shares at ≡ Some share
  pub is_share : IsShare told share f nick
