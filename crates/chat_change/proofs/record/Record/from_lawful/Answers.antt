use Rattle.chat_change.proofs.FaultsLemmas.{lawful_message}
use Rattle.chat_change.specs.Message.{value_of}
use Rattle.chat_change.proofs.record.Record.from_lawful.Goals as goal

pub invariant_of-result : goal.invariant_of-result
invariant_of-result c =
    let h = lawful_message (value_of c.args.message) c.requires.message in
    rw (c.in_ok-parts.ensures.ok, c.in_ok-texts.ensures) (c.requires.tags, h)
