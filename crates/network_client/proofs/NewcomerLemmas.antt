-- What happens to a newcomer.
use Rattle.std.proofs.Common.{◌≡◌, ◌≢◌, ℕ, zero, suc, Bool, true, false, List, [], ◌∷◌, ◌++◌, Option, None, Some, refl, sym, ap, ◌∙◌, subst, append-nil, arith}
use Rattle.std.proofs.Common.{inl, inr}
use Rattle.std.specs.Prelude.{◌⊎◌, Result, Ok, Err, IfOk, OnErr}
use Rattle.std.proofs.Math.Logic.{∥∥₁_map, ∥∥₁_map₂}
use Rattle.irc_line.specs.Stream.{Item, line as whole_line, too_long as cut_line}
use Rattle.client_session.specs.Lookup.{name_sought}
use Rattle.client_session.specs.declared.stage.Stage.{Stage}
use Rattle.client_session.specs.declared.stage.Stage.TheVariants.{Waiting, Registered, Closed}
use Rattle.cluster_directory.specs.Directory.{Directory}
use Rattle.client_session.specs.Session.{facts_in}
use Rattle.client_session.specs.declared.effect.Effect.{Effect}
use Rattle.client_session.specs.declared.effect.Effect.TheVariants.{Send, Put, Ask, Upstream, Close}
use Rattle.network_log.specs.Facts.{NodeFacts}
use Rattle.network_log.specs.Guest.{Guest, GuestEvent, Gets, Hears, Says, Closes, Offers, Falls, new_guest, next_item, fallen, guest_step, guest_run, after_saying, after_closing}
use Rattle.network_log.specs.Truth.{AreTrueOfGuest, IsTrueOfGuest, IsDirectory, IsNeverRegistered, IsNewcomer, AreWholeLines, IsSought, IsShownIn}
use Rattle.network_log.specs.Telling.{IsToldToClient, AsNewcomer}
use Rattle.network_log.specs.declared.origin.Origin.{Origin}
use Rattle.network_log.specs.declared.origin.Origin.TheVariants.{ClientCame}
use Rattle.network_client.specs.Steps.{IsFilled, Same, Got, Fell, Lost, saying, all_said}

-- ---- one event more

run-more : (events : List GuestEvent) (event : GuestEvent) (g : Guest) → guest_run [] (events ++ event ∷ []) g ≡ guest_step [] event (guest_run [] events g)
run-more [] event g = refl
run-more (e ∷ events) event g = run-more events event (guest_step [] e g)

true-more : (facts : NodeFacts) (events : List GuestEvent) (event : GuestEvent) (g : Guest) → AreTrueOfGuest facts [] (IsDirectory facts) events g
    → IsTrueOfGuest facts [] (IsDirectory facts) event (guest_run [] events g) → AreTrueOfGuest facts [] (IsDirectory facts) (events ++ event ∷ []) g
true-more facts [] event g are is = (is, tt)
true-more facts (e ∷ events) event g are is = (are.0, true-more facts events event (guest_step [] e g) are.1 is)

never-more : (events : List GuestEvent) (event : GuestEvent) (g : Guest) → IsNeverRegistered [] events g → facts_in (guest_step [] event (guest_run [] events g)).session ≡ None → IsNeverRegistered [] (events ++ event ∷ []) g
never-more [] event g never is = (never, is)
never-more (e ∷ events) event g never is = (never.0, never-more events event (guest_step [] e g) never.1 is)

pub happens : {facts : NodeFacts} {g next : Guest} (event : GuestEvent) → IsTrueOfGuest facts [] (IsDirectory facts) event g → facts_in next.session ≡ None → next ≡ guest_step [] event g → IsNewcomer facts g → IsNewcomer facts next
happens {facts} {g} {next} event is outside e k =
    let before : Guest = new_guest facts k.serial in
    record {
      serial = k.serial;
      events = k.events ++ event ∷ [];
      it_came = k.it_came;
      are_true = true-more facts k.events event before k.are_true (subst (λ (x : Guest). IsTrueOfGuest facts [] (IsDirectory facts) event x) k.is_run is);
      is_outside = never-more k.events event before k.is_outside
          (subst (λ (x : Guest). facts_in (guest_step [] event x).session ≡ None) k.is_run (ap (λ (x : Guest). facts_in x.session) (sym e) ∙ outside));
      is_run = e ∙ ap (guest_step [] event) k.is_run ∙ sym (run-more k.events event before);
    }

-- it isn't registered
never-is : (events : List GuestEvent) (g : Guest) → IsNeverRegistered [] events g → facts_in (guest_run [] events g).session ≡ None
never-is [] g never = never
never-is (e ∷ events) g never = never-is events (guest_step [] e g) never.1

pub is_outside : {facts : NodeFacts} {g : Guest} → IsNewcomer facts g → facts_in g.session ≡ None
is_outside {facts} {g} k = ap (λ (x : Guest). facts_in x.session) k.is_run ∙ never-is k.events (new_guest facts k.serial) k.is_outside

pub alike : {facts : NodeFacts} {old next : Guest} → next ≡ old → IsNewcomer facts old → IsNewcomer facts next
alike {facts} e k = subst (λ (g : Guest). IsNewcomer facts g) (sym e) k

-- ---- what happens

pub begins : {facts : NodeFacts} {origin : Origin} {serial : ℕ} {g : Guest} → origin ≡ ClientCame → facts.came origin serial [] → g ≡ new_guest facts serial → IsNewcomer facts g
begins {facts} {origin} {serial} is came e = record {
  serial = serial;
  events = [];
  it_came = subst (λ (o : Origin). facts.came o serial []) is came;
  are_true = tt;
  is_outside = refl;
  is_run = e;
}

pub falls : {facts : NodeFacts} {g next : Guest} → next ≡ fallen g → IsNewcomer facts g → IsNewcomer facts next
falls {facts} {g} {next} e k = happens Falls tt (ap (λ (x : Guest). facts_in x.session) e ∙ is_outside k) e k

pub fills : {facts : NodeFacts} {g next : Guest} → IsFilled facts g next → IsNewcomer facts g → IsNewcomer facts next
fills (Same e) k = alike e k
fills {facts} {g} {next} (Got bytes there came e) k = happens (Gets bytes) (there, came) (ap (λ (x : Guest). facts_in x.session) e ∙ is_outside k) e k
fills (Fell e) k = falls e k
fills {facts} {g} {next} (Lost bytes there came e) k =
    falls e (happens (Gets bytes) (there, came) (is_outside k) refl k)

closes-so : (todo : List Effect) (g : Guest) → facts_in (after_closing g todo).session ≡ facts_in g.session
closes-so [] g = refl
closes-so (Send text ∷ more) g = refl
closes-so (Put change ∷ more) g = refl
closes-so (Ask question ∷ more) g = refl
closes-so (Upstream text ∷ more) g = refl
closes-so (Close ∷ more) g = refl

pub is_told : {facts : NodeFacts} {g : Guest} → IsNewcomer facts g → IsToldToClient facts g.serial g.received g.told
is_told {g = g} k = AsNewcomer g k refl refl ([], append-nil g.told)

pub closes : {facts : NodeFacts} {g next : Guest} → g.is_gone ≡ false → next ≡ guest_step [] Closes g → IsNewcomer facts g → IsNewcomer facts next
closes {facts} {g} {next} there e k = happens Closes there (ap (λ (x : Guest). facts_in x.session) e ∙ closes-so g.todo g ∙ is_outside k) e k

says-all : {facts : NodeFacts} (todo : List Effect) (g : Guest) → g.todo ≡ todo → g.is_gone ≡ false → IsNewcomer facts g → IsNewcomer facts (saying todo g)
says-all [] g e there k = k
says-all (Send text ∷ more) g e there k =
    says-all more (record g { todo = more; waiting = g.waiting ++ text }) refl there (happens Says there (is_outside k) (sym (ap (after_saying g) e)) k)
says-all (Put change ∷ more) g e there k = k
says-all (Ask question ∷ more) g e there k = k
says-all (Upstream text ∷ more) g e there k = k
says-all (Close ∷ more) g e there k = k

pub says_or_falls : {facts : NodeFacts} {T E : Type 0} (r : Result T E) {g next : Guest} → g.is_gone ≡ false → IfOk r (λ _. next ≡ all_said g) → OnErr r (next ≡ fallen g) → IsNewcomer facts g → IsNewcomer facts next
says_or_falls (Ok x) {g} there ok err k = alike ok (says-all g.todo g refl there k)
says_or_falls (Err x) there ok err k = falls err k

pub same_or_falls : {facts : NodeFacts} {T E : Type 0} (r : Result T E) {g next : Guest} → IfOk r (λ _. next ≡ g) → OnErr r (next ≡ fallen g) → IsNewcomer facts g → IsNewcomer facts next
same_or_falls (Ok x) ok err k = alike ok k
same_or_falls (Err x) ok err k = falls err k

either-way : {facts : NodeFacts} {Q : Type 0} {g next : Guest} → ((next ≡ g) × Q) ⊎ (next ≡ fallen g) → IsNewcomer facts g → IsNewcomer facts next
either-way (inl e) k = alike e.0 k
either-way (inr e) k = falls e k

pub stays_or_falls : {facts : NodeFacts} {Q : Type 0} {g next : Guest} (flag : Bool) → (flag ≡ false → ∥ ((next ≡ g) × Q) ⊎ (next ≡ fallen g) ∥₁) → (flag ≡ true → next ≡ g) → ∥ IsNewcomer facts g ∥₁ → ∥ IsNewcomer facts next ∥₁
stays_or_falls true other same k = ∥∥₁_map k (alike (same refl))
stays_or_falls false other same k = ∥∥₁_map₂ (other refl) k either-way

none-offered : (g : Guest) → guest_step [] (Offers 0) g ≡ g
none-offered g = ap (λ (t : List ℕ). record g { told = t }) (append-nil g.told)

pub offers_or_falls : {facts : NodeFacts} {E : Type 0} (r : Result ℕ E) {g next : Guest} → IfOk r (λ n. next ≡ guest_step [] (Offers n) g) → IfOk r (λ n. n ≢ 0 → ∥ AreWholeLines g.waiting n ∥₁)
    → IfOk r (λ n. n ≢ 0 → g.is_gone ≡ false) → OnErr r (next ≡ fallen g) → ∥ IsNewcomer facts g ∥₁ → ∥ IsNewcomer facts next ∥₁
offers_or_falls (Ok zero) {g} ok whole there err k = ∥∥₁_map k (alike (ok ∙ none-offered g))
offers_or_falls {facts} (Ok (suc n)) {g} {next} ok whole there err k = ∥∥₁_map₂ (whole some) k offers where
  some : suc n ≢ 0
  some e = absurd (omega (arith, e))

  offers : AreWholeLines g.waiting (suc n) → IsNewcomer facts g → IsNewcomer facts next
  offers w n2 = happens (Offers (suc n)) (there some, w) (ap (λ (x : Guest). facts_in x.session) ok ∙ is_outside n2) ok n2
offers_or_falls (Err x) ok whole there err k = ∥∥₁_map k (falls err)

-- ---- a line

never-sought : (session : Stage) (bytes : List ℕ) → facts_in session ≡ None → name_sought session bytes ≡ None
never-sought (Waiting w) bytes e = refl
never-sought (Registered f) bytes e = absurd (cc e)
never-sought Closed bytes e = refl

pub is_sought : (shown : Bool) (session : Stage) (next : Option Item) → facts_in session ≡ None → IsSought [] shown session next
is_sought shown session None e = tt
is_sought shown session (Some (whole_line bytes)) e = subst (λ o. IsShownIn [] shown o) (sym (never-sought session bytes e)) tt
is_sought shown session (Some cut_line) e = tt

pub hears : {facts : NodeFacts} {directory : Directory} {g next : Guest} (shown : Bool) → IsDirectory facts directory → g.is_gone ≡ false → g.todo ≡ [] → facts_in next.session ≡ None
    → next ≡ guest_step [] (Hears directory shown) g → IsNewcomer facts g → IsNewcomer facts next
hears {facts} {directory} {g} shown is there done outside e k =
    happens (Hears directory shown) (there, done, is, is_sought shown g.session (next_item g.received g.heard) (is_outside k)) outside e k
