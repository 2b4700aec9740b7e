use Rattle.std.proofs.Common.{◌∙◌, ap}
use Rattle.std.specs.Option.{option_map}
use Rattle.chat_buffers.specs.Messages.{number_of}
use Rattle.chat_buffers.proofs.StepLemmas.{found}
use Rattle.chat_buffers.proofs.messages.Messages.redact.Goals as goal

pub returns-in-Some-clause-before : goal.returns-in-Some-clause-before
returns-in-Some-clause-before c = c.number_of-before.ensures ∙ ap (option_map number_of) (found c.self.inside.by_id c.args.self.now c.args.id c.self.view_is)

pub returns-else-not-note-clause-before : goal.returns-else-not-note-clause-before
returns-else-not-note-clause-before c = c.number_of-before.ensures ∙ ap (option_map number_of) (found c.self.inside.by_id c.args.self.now c.args.id c.self.view_is)
