use Rattle.std.proofs.Common.{rules, ◌≡◌, ◌≢◌, ◌<◌, ◌+◌, ◌++◌, ℕ, Some, refl, sym, ap, ◌∙◌, subst, length, arith}
use Rattle.std.specs.Prelude.{slice_get}
use Rattle.std.proofs.Math.Logic.{∥∥₁_map, ∥∥₁_elim, ∥∥₁_prop}
use Rattle.network_log.specs.Guest.{Guest}
use Rattle.network_log.specs.NetworkState.{NetworkState}
use Rattle.network_log.specs.Share.{hears_batch, told_to}
use Rattle.network_log.specs.Telling.{IsToldToClient}
use Rattle.hosted_network.specs.Shares.{entries_in}
use Rattle.hosted_network.specs.Telling.{IsToldAt}
use Rattle.hosted_network.specs.declared.told.Told.{Told}
use Rattle.hosted_network.proofs.MarkingLemmas.{OthersAreTold, all_others, none_is_told, other_told_more, other_was_there, passed_over}
use Rattle.hosted_network.proofs.TellingLemmas.{kept-count}
use Rattle.hosted_network.proofs.parts.NetworkParts.tell_others.Goals as goal

pub loop-other-init : goal.loop-other-init
loop-other-init g c = record {
  count = search rules;
  same_count = search rules;
  rest = refl;
  told = ∣ none_is_told _ c.args.place _ ∣₁;
  shares = search rules;
  config = search rules;
}

pub tell_at-requires-clause-may : goal.tell_at-requires-clause-may
tell_at-requires-clause-may g c =
    let was = c.loop-other.invariant in
    let start : NetworkState = c.args.self.now in
    let other = c.loop-other.other in
    let count = was.count in
    let here = c.loop-other-test.true in
    let within : other < length start.guests = omega (arith, count, here) in
    let different : c.args.place ≢ other = λ e. c.if-other-place.false (sym e) in
    λ h f at gone has.
    subst (λ (t : Told). ∥ IsToldToClient g.C.Connection.facts h.serial h.received (h.told ++ told_to c.loop-other.self.held f h.nick (entries_in t)) ∥₁)
    (sym was.shares)
    (subst (λ (w : NetworkState). ∥ IsToldToClient g.C.Connection.facts h.serial h.received (h.told ++ told_to w.held f h.nick (entries_in c.args.told.now)) ∥₁)
    (sym was.rest)
    (∥∥₁_elim was.told ∥∥₁_prop (λ q. c.requires.may other h f different (other_was_there c.requires.place within different at q) gone has)))

pub loop-other-preserved-then-other-place : goal.loop-other-preserved-then-other-place
loop-other-preserved-then-other-place g c =
    let was = c.loop-other.invariant in
    let start : NetworkState = c.args.self.now in
    let T : ℕ → Type 0 = λ n. ∥ OthersAreTold (hears_batch start.held (entries_in c.args.told.now)) c.args.place (n + 1) start.guests c.loop-other.self.guests ∥₁ in
    let U : ℕ → Type 0 = λ n. ∥ OthersAreTold (hears_batch start.held (entries_in c.args.told.now)) c.args.place n start.guests c.loop-other.self.guests ∥₁ in
    record {
      count = was.count;
      same_count = was.same_count;
      rest = was.rest;
      told = subst T (sym c.if-other-place.true)
          (∥∥₁_map (subst U c.if-other-place.true was.told) (passed_over c.args.place c.requires.place));
      shares = was.shares;
      config = was.config;
    }

pub loop-other-preserved : goal.loop-other-preserved
loop-other-preserved g c =
    let was = c.loop-other.invariant in
    let start : NetworkState = c.args.self.now in
    let mid : NetworkState = c.loop-other.self in
    let next : NetworkState = c.tell_at.new.self in
    let other = c.loop-other.other in
    let here = c.loop-other-test.true in
    let count = was.count in
    let same_count = was.same_count in
    let within : other < length start.guests = omega (arith, count, here) in
    let within_now : other < length mid.guests = omega (arith, same_count, here) in
    let different : c.args.place ≢ other = λ e. c.if-other-place.false (sym e) in
    let each : (h : Guest) → slice_get mid.guests other ≡ Some h
    → IsToldAt (hears_batch start.held (entries_in c.args.told.now)) other h mid.guests next.guests =
    λ h at. subst (λ (w : NetworkState). IsToldAt (hears_batch w.held (entries_in c.args.told.now)) other h mid.guests next.guests) was.rest
    (subst (λ (t : Told). IsToldAt (hears_batch mid.held (entries_in t)) other h mid.guests next.guests) was.shares (c.tell_at.ensures.told h at)) in
    record {
      count = was.count;
      same_count = kept-count other mid.guests within_now each ∙ was.same_count;
      rest = c.tell_at.ensures.rest ∙ ap (λ (w : NetworkState). let v : NetworkState = record w { guests = next.guests } in v) was.rest;
      told = ∥∥₁_map was.told (other_told_more c.requires.place within different each);
      shares = c.tell_at.ensures.shares ∙ was.shares;
      config = c.tell_at.ensures.same ∙ was.config;
    }

pub returns-clause-told : goal.returns-clause-told
returns-clause-told g c =
    let start : NetworkState = c.args.self.now in
    let all : c.loop-other.other ≡ length start.guests =
    (let count = c.loop-other.invariant.count in let here = c.loop-other-test.false in let end = c.loop-other.auto.other-end in omega (arith, count, here, end)) in
    let T : ℕ → Type 0 = λ n. ∥ OthersAreTold (hears_batch start.held (entries_in c.args.told.now)) c.args.place n start.guests c.loop-other.self.guests ∥₁ in
    ∥∥₁_map (subst T all c.loop-other.invariant.told) all_others
