use Rattle.std.proofs.Common.{rules, ◌≡◌, ◌≢◌, ◌≤◌, ◌∙◌, refl, sym, ap, subst, ℕ, Some, Option, List}
use Rattle.std.specs.FinMap as map
use Rattle.std.specs.Option.{IsSome, IfSome, option_map}
use Rattle.irc_time.specs.Time.{greatest}
use Rattle.chat_change.specs.Record.{Record}
use Rattle.chat_change.specs.Order.{id_cmp}
use Rattle.chat_change.proofs.CallerLemmas.{id_total, id_exact}
use Rattle.chat_history.specs.Cut.{latest_first, of_record}
use Rattle.ordered_maps.specs.MapView.{get, IsSetTo, IsWith, IsWithout}
use Rattle.ordered_maps.proofs.CallerLemmas.{unchanged, held_alike, inserted, written}
use Rattle.chat_buffers.specs.declared.messages.Copies.{Copies}
use Rattle.chat_buffers.specs.declared.held_message.HeldMessage.{HeldMessage}
use Rattle.chat_buffers.specs.declared.held_message.HeldMessage.TheVariants as held_message
use Rattle.chat_buffers.specs.Messages.{Messages, kept_moment, number_of}
use Rattle.chat_buffers.specs.Agreement.{BySpot, ById, place}
use Rattle.chat_buffers.proofs.AgreementLemmas.{agree_alike}
use Rattle.chat_buffers.proofs.StepLemmas.{found, put_back, left_agree}
use Rattle.chat_buffers.proofs.messages.Messages.post.Goals as goal

abbrev made_of : Record → Copies
made_of r = record { spot = of_record r; id = r.id; name = r.id; post = r }

-- what is said of the copies is said of the record
module _ (r : Record) (f : Copies) (made : f ≡ made_of r) (ids jds : ById) (n : ℕ) where
  stands : IsWith id_cmp ids f.id (held_message.Kept r n) jds → IsWith id_cmp ids r.id (held_message.Kept r n) jds
  stands = subst (λ g. IsWith id_cmp ids g.id (held_message.Kept r n) jds) made

  was : (o : Option HeldMessage) → o ≡ get id_cmp ids f.id → o ≡ get id_cmp ids r.id
  was o e = e ∙ ap (λ g. get id_cmp ids g.id) made

  named : IsWith id_cmp ids f.id (held_message.Kept r n) jds → IsSome (get id_cmp jds f.name)
  named up = subst (λ g. IsSome (get id_cmp jds g.name)) (sym made) (subst IsSome (sym (written id_total ids jds r.id (held_message.Kept r n) (stands up))) refl)

  restored : (kds : ById) (o : Option HeldMessage) → IsWith id_cmp ids f.id (held_message.Kept r n) jds → o ≡ get id_cmp ids f.id → IsSetTo id_cmp jds f.name o kds → (q : List ℕ) → get id_cmp kds q ≡ get id_cmp ids q
  restored kds o up e back = put_back ids jds kds r.id (held_message.Kept r n) o (stands up) (subst (λ g. IsSetTo id_cmp jds g.name o kds) made back) (was o e)

filed : (r : Record) (f : Copies) → f ≡ made_of r → (m n : BySpot) → IsWith latest_first m f.spot f.post n → IsWith latest_first m (of_record r) r n
filed r f made m n = subst (λ g. IsWith latest_first m g.spot g.post n) made

pub restore-requires : goal.restore-requires
restore-requires c = record { held = named c.args.post c.in-Ok.field-0 c.in-Ok.ensures c.self.inside.by_id c.exchange.new.self c.args.number c.in-Ok-exchange.ensures.put }

pub invariant_of-self : goal.invariant_of-self
invariant_of-self c =
    let m = c.self.inside.by_spot in
    let ids = c.self.inside.by_id in
    agree_alike m m ids c.exchange.new.self (λ q. refl) (unchanged id_cmp ids c.exchange.new.self c.in_default-exchange.ensures.refused) c.self.invariant

pub invariant_of-self-then-not-put : goal.invariant_of-self-then-not-put
invariant_of-self-then-not-put c =
    let m = c.self.inside.by_spot in
    let n = c.put.new.self in
    let ids = c.self.inside.by_id in
    agree_alike m n ids c.restore.new.by_id (unchanged latest_first m n (c.if-not-put.ensures.refused refl))
    (restored c.args.post c.in-Ok.field-0 c.in-Ok.ensures ids c.exchange.new.self c.args.number c.restore.new.by_id c.in-Ok-exchange.before c.in-Ok-exchange.ensures.put c.in-Ok-exchange.ensures.before c.restore.ensures) c.self.invariant

pub returns-then-not-put-clause-refused : goal.returns-then-not-put-clause-refused
returns-then-not-put-clause-refused c =
    let ids = c.self.inside.by_id in
    held_alike id_total id_exact ids c.restore.new.by_id
    (restored c.args.post c.in-Ok.field-0 c.in-Ok.ensures ids c.exchange.new.self c.args.number c.restore.new.by_id c.in-Ok-exchange.before c.in-Ok-exchange.ensures.put c.in-Ok-exchange.ensures.before c.restore.ensures)
    ∙ c.self.view_is

pub invariant_of-self-2 : goal.invariant_of-self-2
invariant_of-self-2 c =
    let m = c.self.inside.by_spot in
    let n = c.put.new.self in
    let ids = c.self.inside.by_id in
    let jds = c.exchange.new.self in
    let r = c.args.post in
    let f = c.in-Ok.field-0 in
    let fits : r.at ≤ greatest = search rules in
    let kept = ap kept_moment (sym (was r f c.in-Ok.ensures ids jds c.args.number c.in-Ok-exchange.before c.in-Ok-exchange.ensures.before)) ∙ sym c.moment_in.ensures in
    let up = filed r f c.in-Ok.ensures m n (c.if-not-put.ensures.put refl) in
    let there = stands r f c.in-Ok.ensures ids jds c.args.number c.in-Ok-exchange.ensures.put in
    left_agree m n ids c.self.invariant r fits up jds c.args.number there c.leave_place.new.by_spot c.moment_in.result kept c.leave_place.ensures.first
    (subst (λ x. c.moment_in.result ≡ Some x → c.leave_place.new.by_spot ≡ n) c.at-at.ensures c.leave_place.ensures.same)
    (subst (λ x. IfSome c.moment_in.result (λ t. t ≢ x → IsWithout latest_first n (place t r.id) c.leave_place.new.by_spot)) c.at-at.ensures
    (subst (λ g. IfSome c.moment_in.result (λ t. t ≢ c.at-at.result → IsWithout latest_first n (place t g.name) c.leave_place.new.by_spot)) c.in-Ok.ensures c.leave_place.ensures.moved))

pub returns-clause-before : goal.returns-clause-before
returns-clause-before c =
    let ids = c.self.inside.by_id in
    let r = c.args.post in
    c.number_in-earlier.ensures
    ∙ ap (option_map number_of) (was r c.in-Ok.field-0 c.in-Ok.ensures ids c.exchange.new.self c.args.number c.in-Ok-exchange.before c.in-Ok-exchange.ensures.before ∙ found ids c.args.self.now r.id c.self.view_is)

pub returns-clause-placed : goal.returns-clause-placed
returns-clause-placed c =
    let ids = c.self.inside.by_id in
    let jds = c.exchange.new.self in
    let r = c.args.post in
    inserted id_total id_exact ids jds r.id (held_message.Kept r c.args.number) (stands r c.in-Ok.field-0 c.in-Ok.ensures ids jds c.args.number c.in-Ok-exchange.ensures.put)
    ∙ ap (λ (s : Messages). map.insert s r.id (held_message.Kept r c.args.number)) c.self.view_is
