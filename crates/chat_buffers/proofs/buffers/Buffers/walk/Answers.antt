use Rattle.std.proofs.Common.{None, sym, subst, ◌∙◌}
use Rattle.chat_buffers.specs.Store.{Store, history_in}
use Rattle.chat_buffers.specs.Ahead.{Entries, IsAhead}
use Rattle.chat_buffers.proofs.CursorLemmas.{filter_all}
use Rattle.chat_buffers.proofs.SettleLemmas.{seen}
use Rattle.chat_buffers.proofs.SoughtLemmas.{all_ahead}
use Rattle.chat_buffers.proofs.buffers.Buffers.walk.Goals as goal

pub invariant_of-result : goal.invariant_of-result
invariant_of-result c =
    subst (λ (x : Store). IsAhead (history_in x) None c.range.result) c.self.view_is
    (subst (λ (es : Entries). IsAhead (history_in (seen c.self.inside.accounts c.self.inside.held)) None es) (sym (c.range.ensures.between tt ∙ filter_all c.self.inside.held.entries))
    (all_ahead c.self.inside.accounts c.self.inside.held c.self.invariant c.range.ensures.ordered))
