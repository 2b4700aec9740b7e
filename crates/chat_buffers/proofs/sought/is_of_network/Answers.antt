use Rattle.std.proofs.Common.{rules, ◌≡◌, ◌∙◌, refl, sym, true, false}
use Rattle.chat_history.specs.Buffers.{is_of_network}
use Rattle.chat_buffers.proofs.SoughtLemmas.{of_network, of_another_network, of_another_account}
use Rattle.chat_buffers.proofs.sought.is_of_network.Goals as goal

pub returns-then-eq : goal.returns-then-eq
returns-then-eq c =
    let a = c.args.account.now in
    let n = c.args.network.now in
    let b = c.args.buffer.now in
    let account : b.account ≡ a = search rules in
    elim c.eq-then-eq.result as (λ r. c.eq-then-eq.result ≡ r → r ≡ is_of_network a n b) [
      | true ↦ λ e. let network : b.network ≡ n = search rules in sym (of_network a n b account network)
      | false ↦ λ e. sym (of_another_network a n b account (λ same. let none : ⊥ = search rules in none))
    ] refl

pub returns-else-eq : goal.returns-else-eq
returns-else-eq c =
    c.if-eq.false ∙ sym (of_another_account c.args.account.now c.args.network.now c.args.buffer.now (λ same. let none : ⊥ = search rules in none))
