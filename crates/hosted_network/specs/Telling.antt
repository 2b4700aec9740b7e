-- How a client is told its share.
use Rattle.std.specs.Prelude.{ℕ, ◌≡◌, Bool, true, false, List, ◌++◌, Option, None, Some, unwrap_or, slice_set}
use Rattle.chat_query.specs.declared.facts.Facts.{Facts}
use Rattle.cluster_directory.specs.declared.config.SessionConfig.{SessionConfig}
use Rattle.client_session.specs.Session.{facts_in}
use Rattle.network_log.specs.Guest.{Guest, fallen}
use Rattle.network_log.specs.Share.{nick_by_all}
use Rattle.hosted_network.specs.Shares.{IsOf, entries_in}
use Rattle.hosted_network.specs.Sharing.{told_with}
use Rattle.hosted_network.specs.declared.told.Told.{Told}

-- it was told that text, and knows that nick, if there is one; or it is gone
pub data IsToldText (text : List ℕ) (nick : Option (List ℕ)) (old new : Guest) : Type 0 where
  WasTold : old.is_gone ≡ false
      → new ≡ record old { told = old.told ++ text; nick = unwrap_or nick old.nick }
      → IsToldText text nick old new
  WentAway : new ≡ fallen old → IsToldText text nick old new

-- A client that is there, with a session of the network, and for which the marker of a channel that was entered is known, where it
-- follows markers.
pub record IsListener (config : SessionConfig) (is_read : Bool) (g : Guest) (f : Facts) : Type 0 where
  pub is_there : g.is_gone ≡ false
  pub has_facts : facts_in g.session ≡ Some f
  pub is_of : IsOf config f
  pub is_known : f.caps.read_marker ≡ true → is_read ≡ true

-- what such a client is told
abbrev pub text_for : Told → Guest → Facts → List ℕ
text_for told g f = told_with told.mark f g.nick (entries_in told)

-- In turn: it is told nothing, since it is gone or not registered; it was told its share; and it is gone.
pub data HasHeard (told : Told) (config : SessionConfig) (is_read : Bool) (old new : Guest) : Type 0 where
  IsGone : old.is_gone ≡ true → new ≡ old → HasHeard told config is_read old new
  IsOutside : facts_in old.session ≡ None → new ≡ old → HasHeard told config is_read old new
  Heard : (f : Facts) → IsListener config is_read old f
      → new ≡ record old {
        told = old.told ++ text_for told old f;
        nick = nick_by_all old.nick (entries_in told);
      }
      → HasHeard told config is_read old new
  Fell : new ≡ fallen old → HasHeard told config is_read old new

-- the client at that place was told, or is gone
pub data IsToldAt (hears : Guest → Guest) (place : ℕ) (g : Guest) (old new : List Guest) : Type 0 where
  IsTold : new ≡ slice_set old place (hears g) → IsToldAt hears place g old new
  HasFallen : new ≡ slice_set old place (fallen g) → IsToldAt hears place g old new
