use Rattle.std.proofs.Common.{◌∙◌}
use Rattle.chat_buffers.proofs.StepLemmas.{found}
use Rattle.chat_buffers.proofs.messages.Messages.held_message.Goals as goal

pub returns : goal.returns
returns c = c.get.ensures ∙ found c.self.inside.by_id c.args.self.now c.args.id.now c.self.view_is
