-- How a newcomer hears a line at its network.
use Rattle.std.proofs.Common.{◌≡◌, ℕ, Bool, true, List, [], ◌∷◌, Option, None, Some, ◌++◌, ◌+◌, sym, ap, ◌∙◌, subst}
use Rattle.std.specs.Prelude.{slice_get}
use Rattle.std.specs.Str.{bytes_eq}
use Rattle.std.proofs.lemmas.Bool.{and_parts}
use Rattle.std.proofs.Math.Logic.{∥∥₁_map}
use Rattle.std.proofs.lemmas.Option.{same_Some}
use Rattle.std.proofs.lemmas.Slice.Eq.{bytes_eq-Decides}
use Rattle.irc_line.specs.Stream.{Item, line as whole_line, too_long as cut_line}
use Rattle.cluster_directory.specs.Directory.{Directory, alone, directory_with, entry_by_secret}
use Rattle.cluster_directory.specs.Entry.{Entry}
use Rattle.cluster_directory.specs.declared.config.SessionConfig.{SessionConfig}
use Rattle.cluster_directory.proofs.CallerLemmas.{put_if, alone_secret, set_entry_by_secret}
use Rattle.client_session.specs.Naming.{last_user, user_in}
use Rattle.client_session.specs.Registration.{account_of, network_of}
use Rattle.client_session.specs.declared.stage.Stage.{Stage}
use Rattle.client_session.specs.declared.stage.Stage.TheVariants.{Waiting, Registered, Closed}
use Rattle.client_session.proofs.CallerLemmas.{LetsInAlike, LetsInIf, step_waiting}
use Rattle.network_log.specs.Accounts.{directory_at}
use Rattle.network_log.specs.Facts.{NodeFacts}
use Rattle.network_log.specs.Guest.{Guest, next_item, step_of}
use Rattle.network_log.specs.Log.{Comes}
use Rattle.network_log.specs.NetworkState.{NetworkState, entry_of}
use Rattle.network_log.specs.Truth.{AtMoment, IsArrived, IsReached, Leads}
use Rattle.network_client.specs.Naming.{is_user, is_user_if, is_for_item}
use Rattle.network_client.specs.Steps.{IsAlikeAt, IsByAccounts}
use Rattle.hosted_network.proofs.LogLemmas.{from, happens}

-- the network's account with the network alone, where it stands so
abbrev pub own_at : Directory → SessionConfig → Entry → Directory
own_at accounts config entry =
    directory_with (alone accounts config.account config.network) config.account config.network entry

abbrev full_at : Directory → SessionConfig → Entry → Directory
full_at accounts config entry = directory_with accounts config.account config.network entry

user-is : (config : SessionConfig) (user : List ℕ) → is_user config user ≡ true → (account_of user ≡ config.account) × (network_of user ≡ config.network)
user-is config user e =
    let both = and_parts (bytes_eq (account_of user) config.account) (bytes_eq (network_of user) config.network) e in
    ((bytes_eq-Decides (account_of user) config.account).0 both.0, (bytes_eq-Decides (network_of user) config.network).0 both.1)

by-name : (directory : Directory) (config : SessionConfig) (user secret : List ℕ) → (account_of user ≡ config.account) × (network_of user ≡ config.network)
    → entry_by_secret directory (account_of user) (network_of user) secret ≡ entry_by_secret directory config.account config.network secret
by-name directory config user secret is =
    ap (λ (a : List ℕ). entry_by_secret directory a (network_of user) secret) is.0
    ∙ ap (λ (n : List ℕ). entry_by_secret directory config.account n secret) is.1

lets-in : (accounts : Directory) (config : SessionConfig) (entry : Entry) (user : List ℕ) → is_user config user ≡ true
    → LetsInAlike (own_at accounts config entry) (full_at accounts config entry) user
lets-in accounts config entry user e secret =
    let is = user-is config user e in
    by-name (own_at accounts config entry) config user secret is
    ∙ set_entry_by_secret (alone accounts config.account config.network) config.account config.network secret entry
    ∙ ap (λ (o : Option Entry). put_if o entry) (alone_secret accounts config.account config.network secret)
    ∙ sym (set_entry_by_secret accounts config.account config.network secret entry)
    ∙ sym (by-name (full_at accounts config entry) config user secret is)

lets-in-if : (accounts : Directory) (config : SessionConfig) (entry : Entry) (o : Option (List ℕ)) → is_user_if config o ≡ true
    → LetsInIf (own_at accounts config entry) (full_at accounts config entry) o
lets-in-if accounts config entry None e name is = absurd (cc e)
lets-in-if accounts config entry (Some user) e name is = lets-in accounts config entry name (ap (λ n. is_user config n) (sym (same_Some user name is)) ∙ e)

-- a line of a session that is to be registered there comes to the same by the network alone as by all accounts
enters-alike : (accounts : Directory) (config : SessionConfig) (entry : Entry) (shown : Bool) (session : Stage) (item : Item)
    → is_for_item config session (Some item) ≡ true
    → step_of (own_at accounts config entry) shown session item ≡ step_of (full_at accounts config entry) shown session item
enters-alike accounts config entry shown (Waiting w) (whole_line bytes) e =
    step_waiting (own_at accounts config entry) (full_at accounts config entry) shown w bytes (lets-in-if accounts config entry (last_user w.user (user_in bytes)) e)
enters-alike accounts config entry shown (Waiting w) cut_line e = absurd (cc e)
enters-alike accounts config entry shown (Registered f) (whole_line bytes) e = absurd (cc e)
enters-alike accounts config entry shown (Registered f) cut_line e = absurd (cc e)
enters-alike accounts config entry shown Closed (whole_line bytes) e = absurd (cc e)
enters-alike accounts config entry shown Closed cut_line e = absurd (cc e)

pub alike : (facts : NodeFacts) (config : SessionConfig) (entry : Entry) (g : Guest) → is_for_item config g.session (next_item g.received g.heard) ≡ true
    → IsAlikeAt facts config entry (own_at facts.accounts.directory config entry) g
alike facts config entry g e shown item next =
    enters-alike facts.accounts.directory config entry shown g.session item (ap (λ (o : Option Item). is_for_item config g.session o) (sym next) ∙ e)

pub by_accounts : (facts : NodeFacts) (place : ℕ) (config : SessionConfig) (entry : Entry) (g : Guest) → slice_get facts.accounts.networks place ≡ Some config
    → is_for_item config g.session (next_item g.received g.heard) ≡ true
    → IsByAccounts facts (own_at facts.accounts.directory config entry) g
by_accounts facts place config entry g there e = record {
  full = directory_at facts.accounts config entry;
  is_directory = AtMoment place config entry there;
  is_alike = alike facts config entry g e;
}

-- ---- by what the calls answer

own-of : (facts : NodeFacts) (config : SessionConfig) (entry : Entry) (accounts directory : Directory) → accounts ≡ facts.accounts.directory
    → directory ≡ own_at accounts config entry → own_at facts.accounts.directory config entry ≡ directory
own-of facts config entry accounts directory own is = sym (is ∙ ap (λ (a : Directory). own_at a config entry) own)

pub by_node : (facts : NodeFacts) (w : NetworkState) (accounts directory : Directory) (g : Guest)
    → ((w : NetworkState) → IsReached facts w → slice_get facts.accounts.networks w.place ≡ Some w.config)
    → ∥ IsReached facts w ∥₁ → accounts ≡ facts.accounts.directory
    → directory ≡ own_at accounts w.config (entry_of w)
    → is_for_item w.config g.session (next_item g.received g.heard) ≡ true
    → ∥ IsByAccounts facts directory g ∥₁
by_node facts w accounts directory g law r own is e =
    ∥∥₁_map r (λ k. subst (λ (d : Directory). IsByAccounts facts d g) (own-of facts w.config (entry_of w) accounts directory own is)
    (by_accounts facts w.place w.config (entry_of w) g (law w k) e))

pub arrives_at : (facts : NodeFacts) (w : NetworkState) (config : SessionConfig) (accounts directory : Directory) (g new : Guest)
    → config ≡ w.config → accounts ≡ facts.accounts.directory
    → directory ≡ own_at accounts w.config (entry_of w)
    → is_for_item w.config g.session (next_item g.received g.heard) ≡ true
    → ((entry : Entry) → IsAlikeAt facts config entry directory g → ∥ IsArrived facts config entry new ∥₁)
    → ∥ IsArrived facts w.config (entry_of w) new ∥₁
arrives_at facts w config accounts directory g new same own is e arrived =
    subst (λ (k : SessionConfig). ∥ IsArrived facts k (entry_of w) new ∥₁) same
    (arrived (entry_of w)
    (subst (λ (k : SessionConfig). IsAlikeAt facts k (entry_of w) directory g) (sym same)
    (subst (λ (d : Directory). IsAlikeAt facts w.config (entry_of w) d g) (own-of facts w.config (entry_of w) accounts directory own is)
    (alike facts w.config (entry_of w) g e))))

-- it is there, and joined
pub comes : {facts : NodeFacts} {w now : NetworkState} {g client : Guest} {guests : List Guest} (joins : ℕ)
    → w ≡ now → IsArrived facts now.config (entry_of now) g → facts.joined g.serial w.place w.joins
    → client ≡ (let c : Guest = record g { joined = Some w.joins } in c)
    → joins ≡ w.joins + 1 → guests ≡ w.guests ++ client ∷ []
    → Leads facts now (record w { joins = joins; guests = guests })
comes {facts} {w} {now} {g} {client} {guests} joins is arrived joined e more all =
    let here : IsArrived facts w.config (entry_of w) g = subst (λ (v : NetworkState). IsArrived facts v.config (entry_of v) g) (sym is) arrived in
    from is (happens (Comes g) (here, joined)
    (λ i. let v : NetworkState = record w { joins = more i; guests = (all ∙ ap (λ (c : Guest). w.guests ++ c ∷ []) e) i } in v))
