-- What is made of the tags that were read of a line is what is made of its tag data.
use Rattle.std.proofs.Common.{◌≡◌, ℕ, ◌+◌, ◌++◌, ◌∷◌, [], List, Option, None, Some, if◌then◌else◌, refl, ap}
use Rattle.std.specs.Option.{option_map}
use Rattle.irc_tags.specs.TagList.{tag_list}
use Rattle.irc_reply.specs.Tagged.{tag_part}
use Rattle.irc_reply.specs.ToServer.{passed_line}
use Rattle.irc_reply.proofs.CallerLemmas.{kept_text_read}
use Rattle.chat_change.specs.Message.{Message}
use Rattle.chat_change.specs.Words.{is_tags}
use Rattle.upstream_session.specs.Messages.{kept_read, kept_tags, post}
use Rattle.upstream_session.specs.Sayings.{say_by_id, say_of_tags, send_of_tags, send_tagged}
use Rattle.upstream_session.specs.Step.{stays}
use Rattle.upstream_session.specs.declared.connection.ServerSession.{ServerSession}
use Rattle.upstream_session.specs.declared.effect.UpEffect.TheVariants.{Send}

pub kept_tags_read : (line : Option (List ℕ)) → kept_read (option_map tag_list line) ≡ kept_tags line
kept_tags_read None = refl
kept_tags_read (Some bytes) = ap (λ text. if is_tags text then text else []) (kept_text_read (Some bytes))

pub say_read : (u : ServerSession) (now : ℕ) (text : List ℕ) (line : Option (List ℕ)) (m : Message) (id : Option (List ℕ))
    → say_of_tags u now text (option_map tag_list line) m id ≡ say_by_id u now text line m id
say_read u now text line m None = ap (λ tags. stays u (Send (tag_part tags ++ passed_line text) ∷ [])) (kept_text_read line)
say_read u now text line m (Some id) = λ i. record {
  session = record u { serial = u.serial + 1 };
  effects = Send (tag_part (kept_text_read line i) ++ passed_line text) ∷ post u id now (kept_tags_read line i) m ∷ [];
}

pub send_tagged_read : (line : Option (List ℕ)) (text : List ℕ) → send_of_tags (option_map tag_list line) text ≡ send_tagged line text
send_tagged_read line text = ap (λ tags. Send (tag_part tags ++ passed_line text) ∷ []) (kept_text_read line)
