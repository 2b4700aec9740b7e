use Rattle.std.proofs.Common.{sym, ◌∙◌, inr}
use Rattle.chat_change.specs.Message.{value_of}
use Rattle.chat_change.proofs.FaultsLemmas.{tagged_none}
use Rattle.chat_change.proofs.record.Record.new_tagged.Goals as goal

pub from_lawful-requires-clause-message : goal.from_lawful-requires-clause-message
from_lawful-requires-clause-message c =
    (tagged_none (value_of c.args.message) c.args.tags.now (sym c.tagged_fault_of.ensures ∙ c.in-None.is)).0

pub from_lawful-requires-clause-tags : goal.from_lawful-requires-clause-tags
from_lawful-requires-clause-tags c =
    inr (tagged_none (value_of c.args.message) c.args.tags.now (sym c.tagged_fault_of.ensures ∙ c.in-None.is)).1
