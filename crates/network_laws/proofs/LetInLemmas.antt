-- Who is in a network has said the secret of its account.
use Rattle.std.proofs.Common.{◌≡◌, Bool, true, false, ℕ, List, [], ◌∷◌, ◌++◌, Option, Some, None, refl, sym, ap, ◌∙◌, subst, append_assoc, if◌then◌else◌}
use Rattle.std.specs.Prelude.{slice_get}
use Rattle.std.proofs.lemmas.Option.{same_Some}
use Rattle.std.specs.Str.{bytes_eq}
use Rattle.irc_line.specs.Stream.{Item, items, line as whole_line, too_long as cut_line}
use Rattle.chat_change.specs.declared.change.Change.{Change}
use Rattle.chat_query.specs.Answers.{Answer}
use Rattle.chat_query.specs.declared.facts.Facts.{Facts}
use Rattle.cluster_directory.specs.Directory.{Account, Directory, account_in, account_with, directory_with}
use Rattle.cluster_directory.specs.Entry.{Entry}
use Rattle.cluster_directory.specs.declared.config.SessionConfig.{SessionConfig}
use Rattle.client_session.specs.declared.effect.Effect.{Effect}
use Rattle.client_session.specs.declared.effect.Effect.TheVariants.{Send, Put, Ask, Upstream, Close}
use Rattle.client_session.specs.declared.stage.Stage.{Stage}
use Rattle.client_session.specs.declared.stage.Stage.TheVariants.{Waiting, Registered, Closed}
use Rattle.client_session.specs.Events.{ClientEvent, Line, CutLine, Answer as Answered, run, claim_after, no_claim, HasSecret, IsLetIn, IsUserOf, WasLetIn}
use Rattle.client_session.specs.Registration.{account_of, network_of}
use Rattle.client_session.specs.Session.{new, facts_in}
use Rattle.network_log.specs.Facts.{NodeFacts}
use Rattle.network_log.specs.Guest.{Guest, GuestEvent, Gets, Hears, Says, Asks, Closes, Offers, Falls, next_item, guest_step, after_item, after_saying, after_asking, after_answer, after_closing, answer_to}
use Rattle.network_log.specs.NetworkState.{NetworkState}
use Rattle.network_log.specs.Truth.{AtMoment, AtStart, IsArrived, IsDirectory, IsReached}
use Rattle.network_log.proofs.CallerLemmas.{items-more}
use Rattle.network_laws.specs.Heard.{AreByAccounts, IsByAccounts, lines_in}
use Rattle.network_laws.specs.LetIn.{HasLoggedIn}
use Rattle.network_laws.proofs.GuestsLemmas.{AreAll, IsKept, all-get, each-guest}
use Rattle.network_laws.proofs.HeardLemmas.{IsHeardSo, arrived-so}

-- ---- the secret is this node's

with-secret : (accounts : Directory) (name network : List ℕ) (entry : Entry) (other password : List ℕ)
    → HasSecret (account_in (directory_with accounts name network entry) other) password → HasSecret (account_in accounts other) password
with-secret [] name network entry other password h = h
with-secret (a ∷ accounts) name network entry other password h =
    let changed : Account = account_with a network entry in
    let First : Bool → Type 0 = λ b. HasSecret (account_in (if b then changed ∷ accounts else a ∷ directory_with accounts name network entry) other) password
    → HasSecret (account_in (a ∷ accounts) other) password in
    let Same : Bool → Type 0 = λ b. HasSecret (if b then Some changed else account_in accounts other) password
    → HasSecret (if b then Some a else account_in accounts other) password in
    let Later : Bool → Type 0 = λ b. HasSecret (if b then Some a else account_in (directory_with accounts name network entry) other) password
    → HasSecret (if b then Some a else account_in accounts other) password in
    elim (bytes_eq a.name name) as (λ b. First b) [
      | true ↦ elim (bytes_eq a.name other) as (λ b. Same b) [
        | true ↦ λ k. k
        | false ↦ λ k. k
      ]
      | false ↦ elim (bytes_eq a.name other) as (λ b. Later b) [
        | true ↦ λ k. k
        | false ↦ λ k. with-secret accounts name network entry other password k
      ]
    ] h

own-secret : (facts : NodeFacts) {directory : Directory} (name password : List ℕ) → IsDirectory facts directory
    → HasSecret (account_in directory name) password → HasSecret (account_in facts.accounts.directory name) password
own-secret facts name password AtStart h = h
own-secret facts name password (AtMoment place config entry there) h =
    with-secret facts.accounts.directory config.account config.network entry name password h

has-account : (o : Option Account) (password : List ℕ) → HasSecret o password → (account : Account) × (o ≡ Some account) × (password ≡ account.secret)
has-account None password h = absurd h
has-account (Some account) password h = (account, refl, sym h)

has-user : (f : Facts) (o : Option (List ℕ)) → IsUserOf f o → (user : List ℕ) × (o ≡ Some user) × (account_of user ≡ f.account) × (network_of user ≡ f.network)
has-user f None h = absurd h
has-user f (Some user) h = (user, refl, h.0, h.1)

-- ---- the line by which it was let in

by-at : (facts : NodeFacts) (before : List ClientEvent) (event : ClientEvent) (later : List ClientEvent)
    → AreByAccounts facts (before ++ event ∷ later) → IsByAccounts facts event
by-at facts [] event later are = are.0
by-at facts (e ∷ before) event later are = by-at facts before event later are.1

lines-of-both : (events more : List ClientEvent) → lines_in (events ++ more) ≡ lines_in events ++ lines_in more
lines-of-both [] more = refl
lines-of-both (Line directory shown bytes ∷ events) more = ap (λ (l : List Item). whole_line bytes ∷ l) (lines-of-both events more)
lines-of-both (CutLine directory ∷ events) more = ap (λ (l : List Item). cut_line ∷ l) (lines-of-both events more)
lines-of-both (Answered answered ∷ events) more = lines-of-both events more

-- what the session's law says
abbrev pub NobodyEnters : Type 0
NobodyEnters = (cluster : List ℕ) (maximum : ℕ) (events : List ClientEvent) (f : Facts)
    → run (new cluster maximum) events ≡ Registered f → WasLetIn events f

is-registered : (session : Stage) (f : Facts) → facts_in session ≡ Some f → session ≡ Registered f
is-registered (Waiting w) f e = absurd (cc e)
is-registered (Registered g) f e = ap Registered (same_Some g f e)
is-registered Closed f e = absurd (cc e)

pub arrived-logged : (facts : NodeFacts) → NobodyEnters → (place : ℕ) (config : SessionConfig) (entry : Entry) (g : Guest)
    → slice_get facts.accounts.networks place ≡ Some config → IsArrived facts config entry g → HasLoggedIn facts config g
arrived-logged facts law place config entry g there a =
    let k : IsHeardSo facts place None g = arrived-so facts place config entry g there a in
    let in_network : WasLetIn k.events a.f =
    law facts.cluster facts.maximum k.events a.f (k.came_to ∙ is-registered g.session a.f a.is_registered) in
    let before : List ClientEvent = in_network.0 in
    let login : ClientEvent = Line in_network.1 in_network.2 in_network.3 in
    let later : List ClientEvent = in_network.4 in
    let events : List ClientEvent = before ++ login ∷ [] in
    let is : IsLetIn in_network.1 a.f (claim_after no_claim events) = in_network.6 in
    let B : List ClientEvent → Type 0 = λ e. AreByAccounts facts e in
    let own : IsDirectory facts in_network.1 = by-at facts before login later (subst B in_network.5 k.are_by_accounts) in
    let S : List ℕ → Type 0 = λ n. HasSecret (account_in facts.accounts.directory n) (claim_after no_claim events).password in
    let account : _ = has-account (account_in facts.accounts.directory config.account) (claim_after no_claim events).password
    (subst S a.is_account (own-secret facts a.f.account (claim_after no_claim events).password own is.secret)) in
    let user : _ = has-user a.f (claim_after no_claim events).user is.user in
    let all : lines_in k.events ≡ lines_in events ++ lines_in later =
    ap lines_in in_network.5 ∙ ap lines_in (sym (append_assoc before (login ∷ []) later)) ∙ lines-of-both events later in
    record {
      events = events;
      later = lines_in later ++ k.later;
      account = account.0;
      user = user.0;
      are_first = k.are_first ∙ ap (λ (l : List Item). l ++ k.later) all ∙ append_assoc (lines_in events) (lines_in later) k.later;
      is_account = account.1;
      has_secret = account.2;
      is_user = user.1;
      names_account = user.2 ∙ a.is_account;
      names_network = user.3 ∙ a.is_network;
    }

-- ---- what came over its connection goes on

pub like : {facts : NodeFacts} {config : SessionConfig} {g new : Guest} → new.received ≡ g.received → HasLoggedIn facts config g → HasLoggedIn facts config new
like e k = record {
  events = k.events;
  later = k.later;
  account = k.account;
  user = k.user;
  are_first = ap items e ∙ k.are_first;
  is_account = k.is_account;
  has_secret = k.has_secret;
  is_user = k.is_user;
  names_account = k.names_account;
  names_network = k.names_network;
}

got-more : {facts : NodeFacts} {config : SessionConfig} (bytes : List ℕ) (g : Guest) → HasLoggedIn facts config g
    → HasLoggedIn facts config (record g { received = g.received ++ bytes })
got-more bytes g k =
    let m : (more : List Item) × (items (g.received ++ bytes) ≡ items g.received ++ more) = items-more g.received bytes in
    record {
      events = k.events;
      later = k.later ++ m.0;
      account = k.account;
      user = k.user;
      are_first = m.1 ∙ ap (λ (l : List Item). l ++ m.0) k.are_first ∙ append_assoc (lines_in k.events) k.later m.0;
      is_account = k.is_account;
      has_secret = k.has_secret;
      is_user = k.is_user;
      names_account = k.names_account;
      names_network = k.names_network;
    }

item-same : (directory : Directory) (shown : Bool) (g : Guest) (o : Option Item) → (after_item directory shown g o).received ≡ g.received
item-same directory shown g None = refl
item-same directory shown g (Some item) = refl

said-same : (g : Guest) (todo : List Effect) → (after_saying g todo).received ≡ g.received
said-same g [] = refl
said-same g (Send text ∷ more) = refl
said-same g (Put change ∷ more) = refl
said-same g (Ask question ∷ more) = refl
said-same g (Upstream text ∷ more) = refl
said-same g (Close ∷ more) = refl

answer-same : (g : Guest) (more : List Effect) (o : Option Answer) → (after_answer g more o).received ≡ g.received
answer-same g more None = refl
answer-same g more (Some answer) = refl

asked-same : (held : List Change) (g : Guest) (todo : List Effect) → (after_asking held g todo).received ≡ g.received
asked-same held g [] = refl
asked-same held g (Send text ∷ more) = refl
asked-same held g (Put change ∷ more) = refl
asked-same held g (Ask question ∷ more) = answer-same g more (answer_to held (facts_in g.session) question)
asked-same held g (Upstream text ∷ more) = refl
asked-same held g (Close ∷ more) = refl

closed-same : (g : Guest) (todo : List Effect) → (after_closing g todo).received ≡ g.received
closed-same g [] = refl
closed-same g (Send text ∷ more) = refl
closed-same g (Put change ∷ more) = refl
closed-same g (Ask question ∷ more) = refl
closed-same g (Upstream text ∷ more) = refl
closed-same g (Close ∷ more) = refl

pub event-logged : {facts : NodeFacts} {config : SessionConfig} (held : List Change) (event : GuestEvent) (g : Guest)
    → HasLoggedIn facts config g → HasLoggedIn facts config (guest_step held event g)
event-logged held (Gets bytes) g k = got-more bytes g k
event-logged held (Hears directory shown) g k = like (item-same directory shown g (next_item g.received g.heard)) k
event-logged held Says g k = like (said-same g g.todo) k
event-logged held Asks g k = like (asked-same held g g.todo) k
event-logged held Closes g k = like (closed-same g g.todo) k
event-logged held (Offers count) g k = like refl k
event-logged held Falls g k = like refl k

-- ---- all of them

logged-kept : (facts : NodeFacts) → NobodyEnters → (place : ℕ) (config : SessionConfig) → slice_get facts.accounts.networks place ≡ Some config
    → IsKept facts place config (HasLoggedIn facts config)
logged-kept facts law place config there = record {
  arrives = λ entry g joins a j. like refl (arrived-logged facts law place config entry g there a);
  happens = λ held Stands event g own t k. event-logged held event g k;
  is_told = λ told nick g k. like refl k;
  has_done = λ todo g k. like refl k;
  falls = λ g k. like refl k;
}

pub guest-logged : (facts : NodeFacts) → NobodyEnters → (w : NetworkState) (at : ℕ) (g : Guest) → IsReached facts w → slice_get w.guests at ≡ Some g
    → HasLoggedIn facts w.config g
guest-logged facts law w at g r e =
    let all : AreAll (HasLoggedIn facts w.config) w.guests =
    each-guest facts (λ place config. HasLoggedIn facts config) (logged-kept facts law) w r in
    all-get (HasLoggedIn facts w.config) w.guests at g e all
