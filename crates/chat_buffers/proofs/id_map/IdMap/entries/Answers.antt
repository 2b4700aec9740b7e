use Rattle.std.proofs.Common.{◌∙◌}
use Rattle.chat_buffers.proofs.CursorLemmas.{filter_all}
use Rattle.chat_buffers.proofs.id_map.IdMap.entries.Goals as goal

pub returns : goal.returns
returns c = c.from.ensures.between ∙ filter_all c.self.inside.messages ∙ c.self.view_is
