use Rattle.std.proofs.Common.{refl, subst₂}
use Rattle.std.specs.Io.KnownBytes.{Appends}
use Rattle.byte_text.specs.Writes.{AppendsPrefix}
use Rattle.irc_reply.specs.Reply.{unknown_text}
use Rattle.chat_batch.proofs.answers.write_incapable.Goals as goal

pub returns-in-Ok-clause-text : goal.returns-in-Ok-clause-text
returns-in-Ok-clause-text g c = (
  subst₂ (λ cluster nick. Appends (g.W.Write.contents c.args.writer.now) (g.W.Write.contents c.write_unknown.new.writer) (unknown_text cluster nick c.args.command.now)) c.as_bytes.ensures c.as_bytes-2.ensures c.in-Ok.ensures,
  refl,
)

pub returns-in-Err-clause-text : goal.returns-in-Err-clause-text
returns-in-Err-clause-text g c =
    subst₂ (λ cluster nick. AppendsPrefix (g.W.Write.contents c.args.writer.now) (g.W.Write.contents c.write_unknown.new.writer) (unknown_text cluster nick c.args.command.now)) c.as_bytes.ensures c.as_bytes-2.ensures c.in-Err.ensures
