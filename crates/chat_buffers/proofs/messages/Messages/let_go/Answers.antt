use Rattle.std.proofs.Common.{◌∙◌, ap, subst}
use Rattle.std.specs.FinMap as map
use Rattle.chat_change.specs.Order.{id_cmp}
use Rattle.chat_change.proofs.CallerLemmas.{id_total, id_exact}
use Rattle.ordered_maps.specs.MapView.{IsWith}
use Rattle.ordered_maps.proofs.CallerLemmas.{inserted}
use Rattle.chat_buffers.specs.declared.held_message.HeldMessage.TheVariants as held_message
use Rattle.chat_buffers.specs.Messages.{Messages, kept_moment}
use Rattle.chat_buffers.proofs.StepLemmas.{found, kept_held, gone_agree}
use Rattle.chat_buffers.proofs.messages.Messages.let_go.Goals as goal

pub overwrite-requires : goal.overwrite-requires
overwrite-requires c = record { held = kept_held c.self.inside.by_id c.args.self.now c.args.id c.self.view_is c.args.stood c.requires.kept }

pub invariant_of-self : goal.invariant_of-self
invariant_of-self c =
    let ids = c.self.inside.by_id in
    let kept = ap kept_moment (found ids c.args.self.now c.args.id c.self.view_is) ∙ c.requires.kept in
    let stands : IsWith id_cmp ids c.args.id (held_message.Gone c.args.at c.args.number) c.overwrite.new.self =
    subst (λ t. IsWith id_cmp ids c.args.id (held_message.Gone t c.args.number) c.overwrite.new.self) c.new.ensures c.overwrite.ensures in
    gone_agree c.self.inside.by_spot ids c.overwrite.new.self c.self.invariant c.args.id c.args.at c.args.number stands c.take_out.new.self c.args.stood kept c.take_out.ensures

pub returns : goal.returns
returns c =
    let ids = c.self.inside.by_id in
    let stands : IsWith id_cmp ids c.args.id (held_message.Gone c.args.at c.args.number) c.overwrite.new.self =
    subst (λ t. IsWith id_cmp ids c.args.id (held_message.Gone t c.args.number) c.overwrite.new.self) c.new.ensures c.overwrite.ensures in
    inserted id_total id_exact ids c.overwrite.new.self c.args.id (held_message.Gone c.args.at c.args.number) stands
    ∙ ap (λ (s : Messages). map.insert s c.args.id (held_message.Gone c.args.at c.args.number)) c.self.view_is
