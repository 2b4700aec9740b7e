use Rattle.std.proofs.Common.{◌≡◌, ◌↔◌, IsTrue, Bool, true, false, not, Option, Some, None, is_some, refl, subst, sym, ◌∙◌, ap}
use Rattle.std.specs.Prelude.{is_none}
use Rattle.chat_change.specs.declared.faults.ChangeFault.{ChangeFault}
use Rattle.chat_change.specs.Message.{value_of, IsLawfulMessage}
use Rattle.chat_change.specs.Faults.{is_message}
use Rattle.chat_change.proofs.FaultsLemmas.{is_message-lawful}
use Rattle.chat_change.proofs.message.is_message.Goals as goal

is_none-test : (fault : Option ChangeFault) (b : Bool) → is_some fault ≡ not b → b ≡ is_none fault
is_none-test None true e = refl
is_none-test None false e = cc
is_none-test (Some fault) true e = cc
is_none-test (Some fault) false e = refl

pub returns-clause-lawful : goal.returns-clause-lawful
returns-clause-lawful c =
    let m = value_of c.args.message in
    let e : c.is_none.result ≡ is_message m = is_none-test c.fault_of.result c.is_none.result c.is_none.ensures ∙ ap is_none c.fault_of.ensures in
    subst (λ b. IsTrue b ↔ IsLawfulMessage m) (sym e) (is_message-lawful m)
