use Rattle.std.proofs.Common.{sym, arith}
use Rattle.std.proofs.lemmas.List.{take_all}
use Rattle.irc_reply.proofs.to_client.prefix.Goals as goal

pub returns-then-word-lt300 : goal.returns-then-word-lt300
returns-then-word-lt300 c = sym (take_all 300 c.args.word.now (omega arith))
