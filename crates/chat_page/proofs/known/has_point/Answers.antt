use Rattle.std.proofs.Common.{◌≡◌, ◌∙◌, sym, ap}
use Rattle.std.specs.Prelude.{is_some}
use Rattle.chat_history.specs.History.{norm, position_of}
use Rattle.chat_query.specs.Page.{buffer_of, point_of}
use Rattle.chat_page.proofs.KnownLemmas.{point_known}
use Rattle.chat_page.proofs.known.has_point.Goals as goal

pub returns-in-Timestamp : goal.returns-in-Timestamp
returns-in-Timestamp c changes h =
    ap (λ s. is_some (point_of (norm changes) (buffer_of c.args.scope.now c.args.target.now) s)) (sym c.in-Timestamp.is)

pub returns-in-Message : goal.returns-in-Message
returns-in-Message c changes h =
    let b = buffer_of c.args.scope.now c.args.target.now in
    let at : c.find_position-at.result ≡ position_of changes b c.in-Message.id =
    c.find_position-at.ensures.of_set changes h
    ∙ (λ i. position_of changes (record { account = c.account.ensures i; network = c.network.ensures i; target = c.given.ensures i }) (c.as_bytes-bytes.ensures i)) in
    c.is_some.ensures ∙ sym (point_known changes b c.in-Message.id c.find_position-at.result at)
    ∙ ap (λ s. is_some (point_of (norm changes) b s)) (sym c.in-Message.is)
