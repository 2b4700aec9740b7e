-- Lawful records and changes: those whose parts the makers of parts don't refuse.
use Rattle.std.specs.Prelude.{◌≡◌, ◌≤◌, true, IfSome}
use Rattle.irc_time.specs.Time.{greatest}
use Rattle.chat_change.specs.Words.{is_name, is_id, MayBeTags}
use Rattle.chat_change.specs.Buffer.{IsLawfulBuffer}
use Rattle.chat_change.specs.Message.{IsLawfulMessage}
use Rattle.chat_change.specs.Record.{Record}
use Rattle.chat_change.specs.declared.change.Change.{Change}
use Rattle.chat_change.specs.declared.change.Change.TheVariants.{Post, Redact, Mark, Floor, AccountFloor}

pub record IsLawfulRecord (r : Record) : Type 0 where
  pub buffer : IsLawfulBuffer r.buffer
  pub id : is_id r.id ≡ true
  pub at : r.at ≤ greatest
  pub tags : MayBeTags r.tags
  pub message : IsLawfulMessage r.message

abbrev pub IsLawfulChange : Change → Type 0
IsLawfulChange (Post r) = IsLawfulRecord r
IsLawfulChange (Redact b m t) = IsLawfulBuffer b × (is_id m ≡ true) × IfSome t (λ u. u ≤ greatest)
IsLawfulChange (Mark b t) = IsLawfulBuffer b × (t ≤ greatest)
IsLawfulChange (Floor b t) = IsLawfulBuffer b × (t ≤ greatest)
IsLawfulChange (AccountFloor a t) = (is_name a ≡ true) × (t ≤ greatest)
