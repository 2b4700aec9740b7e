use Rattle.std.proofs.Common.{◌≡◌, ◌≤◌, ◌-◌, suc, length, refl, arith}
use Rattle.hosted_network.proofs.GuestLemmas.{all_left, none_left, one_left}
use Rattle.hosted_network.proofs.LogLemmas.{stays, then_both}
use Rattle.hosted_network.proofs.parts.NetworkParts.clients_leave.Goals as goal

pub loop-place-init : goal.loop-place-init
loop-place-init g c = (omega arith, omega arith, none_left _ c.client_count-place.ensures, ∣ stays refl ∣₁)

pub loop-place-preserved : goal.loop-place-preserved
loop-place-preserved g c =
    let one : c.loop-place.place ≡ suc (c.loop-place.place - 1) = omega arith in
    let within : c.loop-place.place - 1 ≤ length c.args.self.now.guests = omega (arith, c.loop-place.invariant.1) in (
      c.let_go.ensures.count,
      within,
      one_left c.args.self.now (c.loop-place.place - 1) c.loop-place.place one c.loop-place.invariant.1 c.loop-place.invariant.2 c.let_go.ensures.kept c.let_go.ensures.left,
      then_both c.loop-place.invariant.3 c.let_go.ensures.leads,
    )

pub returns-clause-left : goal.returns-clause-left
returns-clause-left g c = all_left c.args.self.now c.loop-place.place (omega arith) c.loop-place.invariant.2
