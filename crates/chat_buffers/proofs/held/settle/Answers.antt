use Rattle.std.proofs.Common.{sym, subst, ℕ, Some}
use Rattle.std.proofs.lemmas.Result.{on_ok_weaker}
use Rattle.chat_buffers.specs.Held.{Fits, Settles}
use Rattle.chat_buffers.proofs.SettleLemmas.{post_settles, redact_settles, mark_settles, floor_settles}
use Rattle.chat_buffers.proofs.held.settle.Goals as goal

pub returns-in-Post-clause-settled : goal.returns-in-Post-clause-settled
returns-in-Post-clause-settled c =
    let old = c.args.held.now in
    on_ok_weaker c.post.result
    (λ done. subst (λ x. (f : ℕ) → Fits f old x → Settles f (Some old) c.args.number x (record old { messages = c.post.new.self })) (sym c.in-Post.is)
    (λ f _. post_settles f old c.args.number c.in-Post.post c.post.new.self done)) c.post.ensures.placed

pub returns-in-Redact-clause-settled : goal.returns-in-Redact-clause-settled
returns-in-Redact-clause-settled c =
    let old = c.args.held.now in
    on_ok_weaker c.redact.result
    (λ done. subst (λ x. (f : ℕ) → Fits f old x → Settles f (Some old) c.args.number x (record old { messages = c.redact.new.self })) (sym c.in-Redact.is)
    (λ f fits. redact_settles f old c.args.number c.in-Redact.buffer c.in-Redact.id c.in-Redact.at c.redact.new.self fits done)) c.redact.ensures.placed

pub returns-in-Mark-clause-settled : goal.returns-in-Mark-clause-settled
returns-in-Mark-clause-settled c =
    let old = c.args.held.now in
    subst (λ x. (f : ℕ) → Fits f old x → Settles f (Some old) c.args.number x (record old { marker = Some (record { at = c.in-Mark.at; number = c.args.number }) })) (sym c.in-Mark.is)
    (λ f _. mark_settles f old c.args.number c.in-Mark.buffer c.in-Mark.at)

pub returns-in-Floor-clause-settled : goal.returns-in-Floor-clause-settled
returns-in-Floor-clause-settled c =
    let old = c.args.held.now in
    subst (λ x. (f : ℕ) → Fits f old x → Settles f (Some old) c.args.number x (record old { floor = Some (record { at = c.in-Floor.at; number = c.args.number }) })) (sym c.in-Floor.is)
    (λ f fits. floor_settles f old c.args.number c.in-Floor.buffer c.in-Floor.at fits)
