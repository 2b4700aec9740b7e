use Rattle.std.proofs.Common.{sym, ◌∙◌}
use Rattle.irc_time.proofs.TextLemmas.{text_once}
use Rattle.irc_time.proofs.laws.a_moment_has_one_text.Goals as goal

pub returns : goal.returns
returns c = λ a b t p q. text_once a t p ∙ sym (text_once b t q)
