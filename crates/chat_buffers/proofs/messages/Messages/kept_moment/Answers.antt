use Rattle.std.proofs.Common.{rules, ◌≡◌, ◌∙◌, sym, ap, Some, None}
use Rattle.chat_change.specs.Order.{id_cmp}
use Rattle.ordered_maps.specs.MapView.{get}
use Rattle.chat_buffers.specs.Messages.{kept_moment}
use Rattle.chat_buffers.proofs.StepLemmas.{found}
use Rattle.chat_buffers.proofs.messages.Messages.kept_moment.Goals as goal

pub returns-in_err-post : goal.returns-in_err-post
returns-in_err-post c =
    let e : get id_cmp c.self.inside.by_id c.args.id.now ≡ None = search rules in
    c.from_residual.ensures ∙ ap kept_moment (sym e ∙ found c.self.inside.by_id c.args.self.now c.args.id.now c.self.view_is)

pub returns-in-Kept : goal.returns-in-Kept
returns-in-Kept c =
    let e : get id_cmp c.self.inside.by_id c.args.id.now ≡ Some c.in_ok-post.field-0.now = search rules in
    ap Some c.at.ensures ∙ ap kept_moment (sym (e ∙ ap Some c.in-Kept.is) ∙ found c.self.inside.by_id c.args.self.now c.args.id.now c.self.view_is)

pub returns-in-Gone : goal.returns-in-Gone
returns-in-Gone c =
    let e : get id_cmp c.self.inside.by_id c.args.id.now ≡ Some c.in_ok-post.field-0.now = search rules in
    ap kept_moment (sym (e ∙ ap Some c.in-Gone.is) ∙ found c.self.inside.by_id c.args.self.now c.args.id.now c.self.view_is)
