use Rattle.std.proofs.Common.{◌≡◌, [], None, Option, refl, sym, ap, ◌∙◌}
use Rattle.std.specs.Prelude.{unwrap_or}
use Rattle.irc_line.specs.Stream.{Held, holding}
use Rattle.node_ports.specs.Unread.{item_ahead}
use Rattle.node_ports.specs.declared.input.Ahead.{Ahead}
use Rattle.node_ports.proofs.UnreadLemmas.{none_next}
use Rattle.node_ports.proofs.input.Input.next_line.Goals as goal

pub returns-in-None : goal.returns-in-None
returns-in-None c =
    let input = c.self.inside in
    let is : c.args.self.now ≡ record { ahead = None; held = holding []; behind = input.rest } = sym c.self.view_is
    ∙ ap (λ (a : Ahead). record { ahead = item_ahead a input.line.items; held = unwrap_or input.feeder (holding []); behind = input.rest }) c.in-Nothing.is
    ∙ ap (λ (f : Option Held). record { ahead = None; held = unwrap_or f (holding []); behind = input.rest }) c.in-None.is in
    let none = none_next c.args.self.now input.rest is in
    ((refl, λ _. tt, ap (λ (f : Option Held). record { ahead = None; held = unwrap_or f (holding []); behind = input.rest }) c.in-None.is ∙ sym is ∙ none.1.1), record { item = none.0; left = tt })
