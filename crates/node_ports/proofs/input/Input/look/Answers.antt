use Rattle.std.proofs.Common.{◌≡◌, List, ℕ, ap, sym, ◌∙◌}
use Rattle.irc_line.specs.Stream.{Item}
use Rattle.node_ports.specs.Unread.{Unread, items_left}
use Rattle.node_ports.proofs.UnreadLemmas.{left_looked, looked_on}
use Rattle.node_ports.proofs.input.Input.look.Goals as goal

pub returns-then-branch-clause-left : goal.returns-then-branch-clause-left
returns-then-branch-clause-left c = λ more.
    ap (λ (u : Unread). items_left u more) c.in_ok-look_in_feeder.ensures.looked ∙ left_looked c.args.self.now more

pub returns-clause-left : goal.returns-clause-left
returns-clause-left c =
    looked_on c.look_in_feeder-2.result c.args.self.now c.feed_rest.new.self c.look_in_feeder-2.new.self c.look_in_feeder-2.ensures.looked
    (λ more. c.feed_rest.ensures.left more ∙ ap (λ (u : Unread). items_left u more) c.in_ok-look_in_feeder.ensures.looked ∙ left_looked c.args.self.now more)
