use Rattle.std.proofs.Common.{rules, ◌≡◌, ap, subst, ◌∙◌}
use Rattle.std.specs.Prelude.{IfOk}
use Rattle.std.specs.Option.{option_map}
use Rattle.std.specs.Map.Iter.{deref}
use Rattle.gossip_link.specs.Handshake.{after}
use Rattle.gossip_link.specs.declared.handshake.Action.TheVariants as act
use Rattle.gossip_link.specs.Session.{Session, step}
use Rattle.gossip_link.proofs.LineLemmas.{acted_session, acted_heard}
use Rattle.gossip_link.proofs.session.PeerSession.take_line.Goals as goal

pub returns-in-Ok-clause-session : goal.returns-in-Ok-clause-session
returns-in-Ok-clause-session c =
    let t = c.args.terms.now in
    let s : Session = record { handshake = c.self.inside.handshake; gather = c.self.inside.gather; pace = c.self.inside.pace } in
    let own : s ≡ c.args.self.now = search rules in
    let line : option_map deref c.as_ref.result ≡ c.args.line = search rules in
    let stage : c.hear.new.self ≡ record s.handshake { stage = after t s.handshake.stage c.args.line } =
    c.in-GreetAndHandUp.ensures.stage ∙ ap (λ l. record s.handshake { stage = after t s.handshake.stage l }) line in
    subst (λ x. IfOk c.gather_line.result (λ heard. c.gather_line.new.self ≡ x))
    (acted_session t s c.args.line (act.GreetAndHandUp c.in-GreetAndHandUp.place) c.hear.new.self stage c.in-GreetAndHandUp.ensures.action ∙ ap (λ (z : Session). (step t z c.args.line).session) own)
    c.gather_line.ensures.session

pub returns-in-Ok-clause-heard : goal.returns-in-Ok-clause-heard
returns-in-Ok-clause-heard c =
    let t = c.args.terms.now in
    let s : Session = record { handshake = c.self.inside.handshake; gather = c.self.inside.gather; pace = c.self.inside.pace } in
    let own : s ≡ c.args.self.now = search rules in
    let line : option_map deref c.as_ref.result ≡ c.args.line = search rules in
    let stage : c.hear.new.self ≡ record s.handshake { stage = after t s.handshake.stage c.args.line } =
    c.in-GreetAndHandUp.ensures.stage ∙ ap (λ l. record s.handshake { stage = after t s.handshake.stage l }) line in
    subst (λ x. IfOk c.gather_line.result (λ heard. heard ≡ x))
    (acted_heard t s c.args.line (act.GreetAndHandUp c.in-GreetAndHandUp.place) c.hear.new.self stage c.in-GreetAndHandUp.ensures.action ∙ ap (λ (z : Session). (step t z c.args.line).heard) own)
    c.gather_line.ensures.heard

pub returns-in-HandUp-clause-session : goal.returns-in-HandUp-clause-session
returns-in-HandUp-clause-session c =
    let t = c.args.terms.now in
    let s : Session = record { handshake = c.self.inside.handshake; gather = c.self.inside.gather; pace = c.self.inside.pace } in
    let own : s ≡ c.args.self.now = search rules in
    let line : option_map deref c.as_ref.result ≡ c.args.line = search rules in
    let stage : c.hear.new.self ≡ record s.handshake { stage = after t s.handshake.stage c.args.line } =
    c.in-HandUp.ensures.stage ∙ ap (λ l. record s.handshake { stage = after t s.handshake.stage l }) line in
    subst (λ x. IfOk c.gather_line-in-HandUp.result (λ heard. c.gather_line-in-HandUp.new.self ≡ x))
    (acted_session t s c.args.line (act.HandUp c.in-HandUp.place) c.hear.new.self stage c.in-HandUp.ensures.action ∙ ap (λ (z : Session). (step t z c.args.line).session) own)
    c.gather_line-in-HandUp.ensures.session

pub returns-in-HandUp-clause-heard : goal.returns-in-HandUp-clause-heard
returns-in-HandUp-clause-heard c =
    let t = c.args.terms.now in
    let s : Session = record { handshake = c.self.inside.handshake; gather = c.self.inside.gather; pace = c.self.inside.pace } in
    let own : s ≡ c.args.self.now = search rules in
    let line : option_map deref c.as_ref.result ≡ c.args.line = search rules in
    let stage : c.hear.new.self ≡ record s.handshake { stage = after t s.handshake.stage c.args.line } =
    c.in-HandUp.ensures.stage ∙ ap (λ l. record s.handshake { stage = after t s.handshake.stage l }) line in
    subst (λ x. IfOk c.gather_line-in-HandUp.result (λ heard. heard ≡ x))
    (acted_heard t s c.args.line (act.HandUp c.in-HandUp.place) c.hear.new.self stage c.in-HandUp.ensures.action ∙ ap (λ (z : Session). (step t z c.args.line).heard) own)
    c.gather_line-in-HandUp.ensures.heard
