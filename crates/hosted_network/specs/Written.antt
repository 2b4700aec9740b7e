-- What one part of a batch comes to, as it is written for a session.
use Rattle.std.specs.Prelude.{ℕ, ◌≡◌, List, ◌∷◌, ◌++◌}
use Rattle.network_log.specs.Share.{nick_by_all}
use Rattle.network_server.specs.Entries.{entries}
use Rattle.network_server.specs.declared.batch.BatchPart.{BatchPart}
use Rattle.hosted_network.specs.Sharing.{told_with}
use Rattle.hosted_network.specs.declared.told.Writing.{Writing}

-- The part was written: whatever follows it, this and the text of what follows are the text of both.
pub record IsWritten (p : BatchPart) (old new : Writing) (before after : List ℕ) : Type 0 where
  pub text : (parts : List BatchPart) → after ++ told_with new.mark new.facts.now new.nick.now (entries parts new.changes.now)
      ≡ before ++ told_with old.mark old.facts.now old.nick.now (entries (p ∷ parts) old.changes.now)
  pub nick : (parts : List BatchPart) → nick_by_all new.nick.now (entries parts new.changes.now)
      ≡ nick_by_all old.nick.now (entries (p ∷ parts) old.changes.now)
  pub facts : new.facts.now ≡ old.facts.now
  pub mark : new.mark ≡ old.mark
