use Rattle.std.proofs.Common.{◌≡◌, None, refl, ap, rules}
use Rattle.std.proofs.Math.Logic.{∥∥₁_map}
use Rattle.network_server.specs.ServerState.{ServerState}
use Rattle.hosted_network.specs.Parts.{host_of}
use Rattle.hosted_network.proofs.GuestLemmas.{said_to_none, spoken, spoken_in_vain, waits}
use Rattle.hosted_network.proofs.parts.NetworkParts.client_speaks.Goals as goal

pub returns-in_default-clause-leads : goal.returns-in_default-clause-leads
returns-in_default-clause-leads g c =
    let none : host_of c.self.inside.server ≡ None = search rules in
    ∥∥₁_map c.requires.clock (λ q. said_to_none c.args.moment c.say_to_none.result c.self.view_is c.requires.place c.index_mut.ensures.value none q
    c.say_to_none.ensures.yes c.say_to_none.ensures.no)

pub returns-in-Yes-clause-leads : goal.returns-in-Yes-clause-leads
returns-in-Yes-clause-leads g c =
    ∥∥₁_map c.requires.clock (λ q. spoken c.self.view_is c.requires.place c.index_mut-2.ensures.value (ap host_of c.in-Some.is) refl q
    (c.say_next-said.ensures.yes c.in-Yes.is))

pub returns-in-Later-clause-leads : goal.returns-in-Later-clause-leads
returns-in-Later-clause-leads g c =
    let same = c.say_next-said.ensures.later c.in-Later.is in
    ∣ waits c.self.view_is c.requires.place c.index_mut-2.ensures.value (ap host_of c.in-Some.is) refl
    same.0 (ap (λ (s : ServerState). s.host) same.1) same.2 ∣₁

pub returns-in-Lost-clause-leads : goal.returns-in-Lost-clause-leads
returns-in-Lost-clause-leads g c =
    ∥∥₁_map c.requires.clock (λ q. spoken_in_vain {later = c.say_next-said.new.batch} c.self.view_is c.requires.place c.index_mut-2.ensures.value (ap host_of c.in-Some.is) q
    (c.say_next-said.ensures.lost c.in-Lost.is) refl c.lose.ensures)
