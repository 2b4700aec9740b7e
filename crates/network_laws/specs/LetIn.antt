-- Who is in a network.
use Rattle.std.specs.Prelude.{ℕ, ◌≡◌, List, ◌++◌, Some}
use Rattle.irc_line.specs.Stream.{Item, items}
use Rattle.cluster_directory.specs.Directory.{Account, account_in}
use Rattle.cluster_directory.specs.declared.config.SessionConfig.{SessionConfig}
use Rattle.client_session.specs.Events.{ClientEvent, claim_after, no_claim}
use Rattle.client_session.specs.Registration.{account_of, network_of}
use Rattle.client_session.specs.declared.stage.Stage.{Stage}
use Rattle.client_session.specs.declared.stage.Stage.TheVariants.{Waiting, Registered, Closed}
use Rattle.network_log.specs.Facts.{NodeFacts}
use Rattle.network_log.specs.Guest.{Guest}
use Rattle.network_laws.specs.Heard.{lines_in}

-- By the first of the lines that came over its own connection the client claims to be let in to that network: the last user name
-- among them is that of the account and the network, and the last password is the secret that this node has of the account.
pub record HasLoggedIn (facts : NodeFacts) (config : SessionConfig) (g : Guest) : Type 0 where
  pub events : List ClientEvent
  pub later : List Item
  pub account : Account
  pub user : List ℕ
  pub are_first : items g.received ≡ lines_in events ++ later
  pub is_account : account_in facts.accounts.directory config.account ≡ Some account
  pub has_secret : (claim_after no_claim events).password ≡ account.secret
  pub is_user : (claim_after no_claim events).user ≡ Some user
  pub names_account : account_of user ≡ config.account
  pub names_network : network_of user ≡ config.network

-- The session is registered with that account and network, or closed.
abbrev pub IsOfNetwork : SessionConfig → Stage → Type 0
IsOfNetwork config (Waiting w) = ⊥
IsOfNetwork config (Registered f) = (f.account ≡ config.account) × (f.network ≡ config.network)
IsOfNetwork config Closed = Unit {0}
