-- What a client hears and asks at its network.
use Rattle.std.proofs.Common.{◌≡◌, Bool, true, false, List, [], length, None, refl, ap, sym, subst, ◌∙◌}
use Rattle.std.specs.Prelude.{◌==◌, not, is_some, IsSome}
use Rattle.std.proofs.lemmas.Bool.{eqb-true}
use Rattle.std.proofs.lemmas.List.{nil_from_length}
use Rattle.chat_change.specs.declared.change.Change.{Change}
use Rattle.cluster_directory.specs.Directory.{Directory}
use Rattle.network_log.specs.Guest.{Guest, Hears, guest_step, next_item}
use Rattle.network_log.specs.Truth.{IsSought}
use Rattle.network_client.specs.Steps.{IsHeardIn, IsQuiet, NoLine}
use Rattle.network_client.proofs.StepLemmas.{some_is, none_is}

pub heard_in : (held : List Change) (directory : Directory) (shown : Bool) (g mid : Guest) {next : Guest} {heard : Bool} → mid ≡ g → heard ≡ is_some (next_item mid.received mid.heard) → heard ≡ true
    → g.is_gone ≡ false → g.todo ≡ [] → next ≡ guest_step [] (Hears directory shown) mid → IsSought held shown g.session (next_item g.received g.heard) → IsHeardIn held directory g next
heard_in held directory shown g mid same n is there done after sought = record {
  shown = shown;
  is_next = subst (λ (x : Guest). IsSome (next_item x.received x.heard)) same (some_is (next_item mid.received mid.heard) (sym n ∙ is));
  is_there = there;
  is_done = done;
  is_sought = sought;
  is_after = after ∙ ap (λ (x : Guest). guest_step [] (Hears directory shown) x) same;
}

pub no_line : (g mid : Guest) {heard : Bool} → mid ≡ g → heard ≡ is_some (next_item mid.received mid.heard) → heard ≡ false → IsQuiet g
no_line g mid same n is =
    NoLine (subst (λ (x : Guest). next_item x.received x.heard ≡ None) same (none_is (next_item mid.received mid.heard) (sym n ∙ is)))

not-false : (b : Bool) → not b ≡ false → b ≡ true
not-false true e = refl
not-false false e = absurd (cc e)

pub idle : {X : Type 0} (todo : List X) {busy : Bool} → busy ≡ not (length todo == 0) → busy ≡ false → todo ≡ []
idle todo e f = nil_from_length todo (eqb-true (length todo) 0 (not-false (length todo == 0) (sym e ∙ f)))
