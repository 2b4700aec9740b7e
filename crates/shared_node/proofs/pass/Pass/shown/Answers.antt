use Rattle.std.proofs.Common.{◌≡◌, ◌∙◌, ap, subst}
use Rattle.std.specs.Prelude.{◌↔◌, IsTrue}
use Rattle.chat_history.specs.History.{History, norm}
use Rattle.chat_history.specs.Lookups.{IsShown}
use Rattle.shared_node.specs.Lists.{changes_in}
use Rattle.shared_node.proofs.pass.Pass.shown.Goals as goal

pub returns-clause-shown : goal.returns-clause-shown
returns-clause-shown g c =
    let held : c.state.result.now.history ≡ norm (changes_in c.enter.new.seen) = ap (λ s. s.history) (c.state.ensures ∙ c.in-Some.ensures.version) in
    subst (λ (h : History). IsTrue c.is_shown-shown.result ↔ IsShown h c.args.buffer.now c.args.id.now) held c.is_shown-shown.ensures
