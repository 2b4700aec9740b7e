use Rattle.std.proofs.Common.{rules, ◌≡◌, ◌≤◌, ◌<◌, ◌∙◌, refl, sym, ap, subst, Some, None, arith}
use Rattle.std.specs.FinMap as map
use Rattle.std.specs.Option.{IfSome, option_map}
use Rattle.chat_change.specs.Order.{id_cmp}
use Rattle.chat_change.proofs.CallerLemmas.{id_total, id_exact}
use Rattle.ordered_maps.specs.MapView.{held_by, get, IsWithout}
use Rattle.ordered_maps.proofs.CallerLemmas.{removed}
use Rattle.chat_buffers.specs.Messages.{Messages, number_of, IsFrom, TakesOne}
use Rattle.chat_buffers.proofs.AgreementLemmas.{its_place}
use Rattle.chat_buffers.proofs.StepLemmas.{found, taken_agree, was_kept, was_known, not_after, from_last, from_empty}
use Rattle.chat_buffers.proofs.messages.Messages.remove_first_below.Goals as goal

pub returns-in-None-clause-done : goal.returns-in-None-clause-done
returns-in-None-clause-done c _ =
    subst (IsFrom c.args.floor) c.self.view_is
    (from_empty c.self.inside.by_spot c.self.inside.by_id c.self.invariant c.args.floor (c.in-None.ensures.none refl))

pub returns-then-ms-clause-done : goal.returns-then-ms-clause-done
returns-then-ms-clause-done c _ =
    let high : c.args.floor ≤ c.in-Some.spot.now.at = search rules in
    subst (IsFrom c.args.floor) c.self.view_is
    (from_last c.self.inside.by_spot c.self.inside.by_id c.self.invariant c.args.floor (c.in-Some.spot.now, c.in-Some.field-0-1.now) c.in-Some.ensures.greatest high)

pub invariant_of-self-2 : goal.invariant_of-self-2
invariant_of-self-2 c =
    let ids = c.self.inside.by_id in
    let r = c.in_ok-_spot.post in
    let stands : IsWithout id_cmp ids r.id c.take_out.new.self = subst (λ x. IsWithout id_cmp ids x c.take_out.new.self) c.id-2.ensures c.take_out.ensures in
    taken_agree c.self.inside.by_spot c.pop_last.new.self ids c.take_out.new.self c.self.invariant c.in_ok-_spot._spot r c.in_ok-_spot.ensures.greatest.value c.in_ok-_spot.ensures.without stands

pub returns-clause-one : goal.returns-clause-one
returns-clause-one c =
    let m = c.self.inside.by_spot in
    let ids = c.self.inside.by_id in
    let k = c.in_ok-_spot._spot in
    let r = c.in_ok-_spot.post in
    let new = c.take_out.new.self in
    let at = c.in_ok-_spot.ensures.greatest.value in
    let out = c.in_ok-_spot.ensures.without in
    let stands : IsWithout id_cmp ids r.id new = subst (λ x. IsWithout id_cmp ids x new) c.id-2.ensures c.take_out.ensures in
    let number : option_map number_of (get id_cmp ids r.id) ≡ c.number_of-number.result =
    ap (λ x. option_map number_of (get id_cmp ids x)) (sym c.id.ensures) ∙ sym c.number_of-number.ensures in
    let low : c.in-Some.spot.now.at < c.args.floor = search rules in
    let under = not_after k c.in-Some.spot.now (c.in_ok-_spot.ensures.greatest.above c.in-Some.spot.now (search rules)) in
    let same : k.at ≡ r.at = ap (λ s. s.at) (its_place m ids c.self.invariant k r at) in
    elim c.number_of-number.result as (λ o. c.number_of-number.result ≡ o → IfSome o (λ n. TakesOne c.args.self.now c.args.floor n (held_by new))) [
      | None ↦ λ _. tt
      | Some n ↦ λ g. record {
        post = r;
        low = (let l : r.at < c.args.floor = omega (arith, low, under, same) in l);
        was = sym (found ids c.args.self.now r.id c.self.view_is) ∙ was_kept m c.pop_last.new.self ids new c.self.invariant k r at out stands n (get id_cmp ids r.id) refl (number ∙ g);
        left = removed id_total id_exact ids new r.id stands ∙ ap (λ (s : Messages). map.remove s r.id) c.self.view_is;
      }
    ] refl

pub returns-clause-done : goal.returns-clause-done
returns-clause-done c none =
    let m = c.self.inside.by_spot in
    let ids = c.self.inside.by_id in
    let k = c.in_ok-_spot._spot in
    let r = c.in_ok-_spot.post in
    let new = c.take_out.new.self in
    let stands : IsWithout id_cmp ids r.id new = subst (λ x. IsWithout id_cmp ids x new) c.id-2.ensures c.take_out.ensures in
    let number : option_map number_of (get id_cmp ids r.id) ≡ c.number_of-number.result =
    ap (λ x. option_map number_of (get id_cmp ids x)) (sym c.id.ensures) ∙ sym c.number_of-number.ensures in
    absurd (was_known m c.pop_last.new.self ids new c.self.invariant k r c.in_ok-_spot.ensures.greatest.value c.in_ok-_spot.ensures.without stands (get id_cmp ids r.id) refl (number ∙ none))

pub returns-clause-kept : goal.returns-clause-kept
returns-clause-kept c none =
    let m = c.self.inside.by_spot in
    let ids = c.self.inside.by_id in
    let k = c.in_ok-_spot._spot in
    let r = c.in_ok-_spot.post in
    let new = c.take_out.new.self in
    let stands : IsWithout id_cmp ids r.id new = subst (λ x. IsWithout id_cmp ids x new) c.id-2.ensures c.take_out.ensures in
    let number : option_map number_of (get id_cmp ids r.id) ≡ c.number_of-number.result =
    ap (λ x. option_map number_of (get id_cmp ids x)) (sym c.id.ensures) ∙ sym c.number_of-number.ensures in
    absurd (was_known m c.pop_last.new.self ids new c.self.invariant k r c.in_ok-_spot.ensures.greatest.value c.in_ok-_spot.ensures.without stands (get id_cmp ids r.id) refl (number ∙ none))
