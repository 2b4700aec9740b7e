use Rattle.std.proofs.Common.{arith}
use Rattle.std.proofs.lemmas.Grind.{common_steps}
use Rattle.irc_tags.proofs.ClientTextLemmas.{same_text}
use Rattle.irc_tags.proofs.client_only.is_client_only_text.Goals as goal

pub returns-in-Ok : goal.returns-in-Ok
returns-in-Ok c =
    let same = same_text c.args.bytes.now c.in-Ok.text.items c.in-Ok.ensures in
    grind (arith, common_steps, same)
