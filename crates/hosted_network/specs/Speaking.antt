-- A client's line for its network's server.
use Rattle.std.specs.Prelude.{ℕ, ◌≡◌, false, List, ◌∷◌}
use Rattle.client_session.specs.declared.effect.Effect.{Effect}
use Rattle.client_session.specs.declared.effect.Effect.TheVariants.{Upstream}
use Rattle.network_log.specs.Facts.{NodeFacts}
use Rattle.network_log.specs.Guest.{Guest}
use Rattle.network_log.specs.Host.{Host, BatchEntry}
use Rattle.network_server.specs.ServerEvents.{IsSaid, LosesSaid}

-- a line for the server is next of what a client, which is there, has to do, and it is done
pub record IsNextSaid (text : List ℕ) (old new : Guest) : Type 0 where
  pub more : List Effect
  pub is_there : old.is_gone ≡ false
  pub is_next : old.todo ≡ Upstream text ∷ more
  pub is_done : new ≡ record old { todo = more }

-- it is said to the server at that moment
pub record IsSpoken (now : ℕ) (old : Guest) (before : Host) (batch : List BatchEntry) (new : Guest) (after : Host) (later : List BatchEntry) : Type 0 where
  pub text : List ℕ
  pub is_next : IsNextSaid text old new
  pub is_said : IsSaid now text before batch after later

-- it is said, and what came of the server's lines is lost
pub record IsSpokenInVain (facts : NodeFacts) (now : ℕ) (old : Guest) (before : Host) (new : Guest) (after : Host) : Type 0 where
  pub text : List ℕ
  pub is_next : IsNextSaid text old new
  pub is_lost : LosesSaid facts now text before after

-- it is let go
pub record IsLetGo (old new : Guest) : Type 0 where
  pub text : List ℕ
  pub is_next : IsNextSaid text old new
