use Rattle.std.proofs.Common.{◌≡◌, [], Option, sym, ap, ◌∙◌}
use Rattle.std.specs.Prelude.{unwrap_or}
use Rattle.irc_line.specs.Stream.{Held, holding}
use Rattle.node_ports.specs.Unread.{item_ahead}
use Rattle.node_ports.proofs.UnreadLemmas.{look_none}
use Rattle.node_ports.proofs.input.Input.look_in_feeder.Goals as goal

pub returns-in_default-clause-looked : goal.returns-in_default-clause-looked
returns-in_default-clause-looked c =
    let input = c.self.inside in
    let ahead = item_ahead input.ahead input.line.items in
    let is : c.args.self.now ≡ record { ahead = ahead; held = holding []; behind = input.rest } = sym c.self.view_is
    ∙ ap (λ (f : Option Held). record { ahead = ahead; held = unwrap_or f (holding []); behind = input.rest }) c.in_default.is in
    c.self.view_is ∙ look_none c.args.self.now ahead input.rest is
