use Rattle.std.proofs.Common.{◌≡◌, ◌∙◌, refl, ap, subst, true, false}
use Rattle.std.specs.FinMap as map
use Rattle.chat_change.specs.Order.{id_cmp}
use Rattle.chat_change.proofs.CallerLemmas.{id_total, id_exact}
use Rattle.ordered_maps.specs.MapView.{IsWith}
use Rattle.ordered_maps.proofs.CallerLemmas.{unchanged, inserted}
use Rattle.chat_buffers.specs.declared.held_message.HeldMessage.TheVariants as held_message
use Rattle.chat_buffers.specs.Messages.{Messages, kept_moment}
use Rattle.chat_buffers.specs.Agreement.{Agree}
use Rattle.chat_buffers.proofs.AgreementLemmas.{agree_alike}
use Rattle.chat_buffers.proofs.StepLemmas.{found, noted_agree}
use Rattle.chat_buffers.proofs.messages.Messages.note.Goals as goal

pub invariant_of-self : goal.invariant_of-self
invariant_of-self c =
    let m = c.self.inside.by_spot in
    let ids = c.self.inside.by_id in
    let none = ap kept_moment (found ids c.args.self.now c.args.id c.self.view_is) ∙ c.requires.not_kept in
    let stands : c.put.result ≡ true → IsWith id_cmp ids c.args.id (held_message.Gone c.args.at c.args.number) c.put.new.self = λ e.
    subst (λ t. IsWith id_cmp ids c.args.id (held_message.Gone t c.args.number) c.put.new.self) c.new.ensures (c.put.ensures.put e) in
    elim c.put.result as (λ b. c.put.result ≡ b → Agree m c.put.new.self) [
      | true ↦ λ e. noted_agree m ids c.put.new.self c.self.invariant c.args.id c.args.at c.args.number (stands e) none
      | false ↦ λ e. agree_alike m m ids c.put.new.self (λ q. refl) (unchanged id_cmp ids c.put.new.self (c.put.ensures.refused e)) c.self.invariant
    ] refl

pub returns-clause-placed : goal.returns-clause-placed
returns-clause-placed c e =
    let ids = c.self.inside.by_id in
    let stands : IsWith id_cmp ids c.args.id (held_message.Gone c.args.at c.args.number) c.put.new.self =
    subst (λ t. IsWith id_cmp ids c.args.id (held_message.Gone t c.args.number) c.put.new.self) c.new.ensures (c.put.ensures.put e) in
    inserted id_total id_exact ids c.put.new.self c.args.id (held_message.Gone c.args.at c.args.number) stands
    ∙ ap (λ (s : Messages). map.insert s c.args.id (held_message.Gone c.args.at c.args.number)) c.self.view_is
