-- A newcomer is let in at a network.
use Rattle.std.proofs.Common.{◌≡◌, Bool, true, false, List, [], ◌∷◌, Option, None, Some, refl, ap, ◌∙◌}
use Rattle.std.specs.Str.{bytes_eq}
use Rattle.std.proofs.lemmas.Bool.{and_parts}
use Rattle.std.proofs.lemmas.Slice.Eq.{bytes_eq-Decides}
use Rattle.irc_line.specs.Stream.{Item}
use Rattle.chat_query.specs.Answers.{Answer}
use Rattle.chat_query.specs.declared.facts.Facts.{Facts}
use Rattle.cluster_directory.specs.Directory.{Directory}
use Rattle.cluster_directory.specs.Entry.{Entry}
use Rattle.cluster_directory.specs.declared.config.SessionConfig.{SessionConfig}
use Rattle.client_session.specs.Session.{facts_in}
use Rattle.client_session.specs.Step.{Step}
use Rattle.client_session.specs.declared.effect.Effect.{Effect}
use Rattle.client_session.specs.declared.effect.Effect.TheVariants.{Send, Put, Ask, Upstream, Close}
use Rattle.network_log.specs.Accounts.{directory_at}
use Rattle.network_log.specs.Facts.{NodeFacts}
use Rattle.network_log.specs.Guest.{Guest, GuestEvent, Gets, Hears, Says, Asks, Closes, Offers, Falls, new_guest, next_item, guest_step, guest_run, step_of, after_item, after_step, after_saying, after_asking, after_answer, after_closing, answer_to}
use Rattle.network_log.specs.Truth.{IsArrived, IsNewcomer}
use Rattle.network_client.specs.Steps.{IsAlikeAt, IsByAccounts, is_at}
use Rattle.network_client.proofs.NewcomerLemmas.{happens, is_outside, is_sought}

-- ---- a line that comes to the same by other accounts

same-item : (directory full : Directory) (shown : Bool) (g : Guest) (next : Option Item)
    → ((item : Item) → next ≡ Some item → step_of directory shown g.session item ≡ step_of full shown g.session item)
    → after_item directory shown g next ≡ after_item full shown g next
same-item directory full shown g None same = refl
same-item directory full shown g (Some item) same = ap (λ (s : Step). after_step s g) (same item refl)

pub stays : {facts : NodeFacts} {directory : Directory} {g next : Guest} (shown : Bool) → g.is_gone ≡ false → g.todo ≡ [] → facts_in next.session ≡ None
    → next ≡ guest_step [] (Hears directory shown) g → IsByAccounts facts directory g → IsNewcomer facts g → IsNewcomer facts next
stays {facts} {directory} {g} shown there done outside e by k =
    let next = next_item g.received g.heard in
    happens (Hears by.full shown) (there, done, by.is_directory, is_sought shown g.session next (is_outside k)) outside
    (e ∙ same-item directory by.full shown g next (by.is_alike shown)) k

pub arrives : {facts : NodeFacts} {config : SessionConfig} {entry : Entry} {g next : Guest} {f : Facts} (directory : Directory) (shown : Bool) → g.is_gone ≡ false → g.todo ≡ []
    → facts_in next.session ≡ Some f → f.account ≡ config.account → f.network ≡ config.network
    → next ≡ guest_step [] (Hears directory shown) g → IsAlikeAt facts config entry directory g → IsNewcomer facts g → IsArrived facts config entry next
arrives {facts} {config} {entry} {g} {next} {f} directory shown there done is account network e at k =
    let full : Directory = directory_at facts.accounts config entry in
    let item = next_item g.received g.heard in
    record {
      before = g;
      shown = shown;
      f = f;
      is_newcomer = k;
      is_true = (there, done, refl, is_sought shown g.session item (is_outside k));
      is_after = e ∙ same-item directory full shown g item (at shown);
      is_registered = is;
      is_account = account;
      is_network = network;
    }

pub at_is : (config : SessionConfig) (f : Facts) → is_at config f ≡ true → (f.account ≡ config.account) × (f.network ≡ config.network)
at_is config f e =
    let both = and_parts (bytes_eq f.account config.account) (bytes_eq f.network config.network) e in
    ((bytes_eq-Decides f.account config.account).0 both.0, (bytes_eq-Decides f.network config.network).0 both.1)

-- ---- it joined no network

item-free : (directory : Directory) (shown : Bool) (g : Guest) (next : Option Item) → (after_item directory shown g next).joined ≡ g.joined
item-free directory shown g None = refl
item-free directory shown g (Some item) = refl

saying-free : (todo : List Effect) (g : Guest) → (after_saying g todo).joined ≡ g.joined
saying-free [] g = refl
saying-free (Send text ∷ more) g = refl
saying-free (Put change ∷ more) g = refl
saying-free (Ask question ∷ more) g = refl
saying-free (Upstream text ∷ more) g = refl
saying-free (Close ∷ more) g = refl

answer-free : (g : Guest) (more : List Effect) (answer : Option Answer) → (after_answer g more answer).joined ≡ g.joined
answer-free g more None = refl
answer-free g more (Some answer) = refl

asking-free : (todo : List Effect) (g : Guest) → (after_asking [] g todo).joined ≡ g.joined
asking-free [] g = refl
asking-free (Send text ∷ more) g = refl
asking-free (Put change ∷ more) g = refl
asking-free (Ask question ∷ more) g = answer-free g more (answer_to [] (facts_in g.session) question)
asking-free (Upstream text ∷ more) g = refl
asking-free (Close ∷ more) g = refl

closing-free : (todo : List Effect) (g : Guest) → (after_closing g todo).joined ≡ g.joined
closing-free [] g = refl
closing-free (Send text ∷ more) g = refl
closing-free (Put change ∷ more) g = refl
closing-free (Ask question ∷ more) g = refl
closing-free (Upstream text ∷ more) g = refl
closing-free (Close ∷ more) g = refl

event-free : (event : GuestEvent) (g : Guest) → (guest_step [] event g).joined ≡ g.joined
event-free (Gets bytes) g = refl
event-free (Hears directory shown) g = item-free directory shown g (next_item g.received g.heard)
event-free Says g = saying-free g.todo g
event-free Asks g = asking-free g.todo g
event-free Closes g = closing-free g.todo g
event-free (Offers count) g = refl
event-free Falls g = refl

run-free : (events : List GuestEvent) (g : Guest) → (guest_run [] events g).joined ≡ g.joined
run-free [] g = refl
run-free (event ∷ events) g = run-free events (guest_step [] event g) ∙ event-free event g

pub heard_free : {facts : NodeFacts} {g next : Guest} (directory : Directory) (shown : Bool) → next ≡ guest_step [] (Hears directory shown) g → IsNewcomer facts g → next.joined ≡ None
heard_free {facts} {g} {next} directory shown e k =
    ap (λ (x : Guest). x.joined) e ∙ event-free (Hears directory shown) g
    ∙ ap (λ (x : Guest). x.joined) k.is_run ∙ run-free k.events (new_guest facts k.serial)
