use Rattle.std.proofs.Common.{◌≡◌, ◌<◌, ℕ, ◌++◌, Some, sym, ap, ◌∙◌, subst, length, arith}
use Rattle.std.specs.Prelude.{slice_get}
use Rattle.std.proofs.Math.Logic.{∥∥₁_map}
use Rattle.network_log.specs.Following.{AreToldBy}
use Rattle.network_log.specs.Guest.{Guest}
use Rattle.network_log.specs.NetworkState.{NetworkState}
use Rattle.network_log.specs.Share.{hears_batch, told_to}
use Rattle.network_log.specs.Telling.{IsToldToClient}
use Rattle.hosted_network.specs.Shares.{entries_in}
use Rattle.hosted_network.specs.Sharing.{AreMarked}
use Rattle.hosted_network.specs.Telling.{IsToldAt}
use Rattle.hosted_network.specs.declared.told.Told.{Told}
use Rattle.hosted_network.proofs.TellingLemmas.{kept-count, may-still, told_more}
use Rattle.hosted_network.proofs.parts.NetworkParts.tell_all.Goals as goal

pub tell_at-requires-clause-place : goal.tell_at-requires-clause-place
tell_at-requires-clause-place g c =
    let count = c.loop-place.invariant.same_count in
    let here = c.loop-place-test.true in
    omega (arith, count, here)

pub tell_at-requires-clause-config : goal.tell_at-requires-clause-config
tell_at-requires-clause-config g c =
    c.loop-place.invariant.config ∙ sym (ap (λ (w : NetworkState). w.config) c.loop-place.invariant.rest)

pub tell_at-requires-clause-marked : goal.tell_at-requires-clause-marked
tell_at-requires-clause-marked g c = λ e.
    subst (λ (t : Told). AreMarked c.loop-place.self.held t.mark c.loop-place.self.config.account c.loop-place.self.config.network (entries_in t))
    (sym c.loop-place.invariant.shares)
    (subst (λ (w : NetworkState). AreMarked w.held c.args.told.now.mark w.config.account w.config.network (entries_in c.args.told.now))
    (sym c.loop-place.invariant.rest) (c.requires.marked e))

pub tell_at-requires-clause-may : goal.tell_at-requires-clause-may
tell_at-requires-clause-may g c =
    let count = c.loop-place.invariant.count in
    let here = c.loop-place-test.true in
    let within : c.loop-place.place < length c.args.self.now.guests = omega (arith, count, here) in
    let may = may-still c.args.self.now.held (entries_in c.args.told.now) within c.requires.may c.loop-place.invariant.told in
    λ h f at gone has.
    subst (λ (t : Told). ∥ IsToldToClient g.C.Connection.facts h.serial h.received (h.told ++ told_to c.loop-place.self.held f h.nick (entries_in t)) ∥₁)
    (sym c.loop-place.invariant.shares)
    (subst (λ (w : NetworkState). ∥ IsToldToClient g.C.Connection.facts h.serial h.received (h.told ++ told_to w.held f h.nick (entries_in c.args.told.now)) ∥₁)
    (sym c.loop-place.invariant.rest) (may h f at gone has))

pub loop-place-preserved : goal.loop-place-preserved
loop-place-preserved g c =
    let was = c.loop-place.invariant in
    let start : NetworkState = c.args.self.now in
    let mid : NetworkState = c.loop-place.self in
    let next : NetworkState = c.tell_at.new.self in
    let place = c.loop-place.place in
    let here = c.loop-place-test.true in
    let count = was.count in
    let same_count = was.same_count in
    let within : place < length start.guests = omega (arith, count, here) in
    let within_now : place < length mid.guests = omega (arith, same_count, here) in
    let each : (h : Guest) → slice_get mid.guests place ≡ Some h
    → IsToldAt (hears_batch start.held (entries_in c.args.told.now)) place h mid.guests next.guests =
    λ h at. subst (λ (w : NetworkState). IsToldAt (hears_batch w.held (entries_in c.args.told.now)) place h mid.guests next.guests) was.rest
    (subst (λ (t : Told). IsToldAt (hears_batch mid.held (entries_in t)) place h mid.guests next.guests) was.shares (c.tell_at.ensures.told h at)) in
    record {
      count = was.count;
      same_count = kept-count place mid.guests within_now each ∙ was.same_count;
      rest = c.tell_at.ensures.rest ∙ ap (λ (w : NetworkState). let v : NetworkState = record w { guests = next.guests } in v) was.rest;
      told = ∥∥₁_map was.told (told_more within each);
      shares = c.tell_at.ensures.shares ∙ was.shares;
      config = c.tell_at.ensures.same ∙ was.config;
    }

pub returns-clause-told : goal.returns-clause-told
returns-clause-told g c =
    let start : NetworkState = c.args.self.now in
    let all : c.loop-place.place ≡ length start.guests =
    (let count = c.loop-place.invariant.count in let here = c.loop-place-test.false in let end = c.loop-place.auto.place-end in omega (arith, count, here, end)) in
    subst (λ (n : ℕ). ∥ AreToldBy (hears_batch start.held (entries_in c.args.told.now)) n start.guests c.loop-place.self.guests ∥₁) all
    c.loop-place.invariant.told
