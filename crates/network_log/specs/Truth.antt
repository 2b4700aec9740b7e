-- What a log may say.
use Rattle.std.specs.Prelude.{ℕ, ◌≡◌, ◌↔◌, Bool, true, false, IsTrue, List, [], ◌∷◌, ◌++◌, length, take, drop, Option, None, Some, slice_get}
use Rattle.irc_line.specs.Stream.{Item, line as whole_line, too_long as cut_line}
use Rattle.byte_text.specs.Bytes.{lf}
use Rattle.chat_change.specs.Buffer.{buffer_of}
use Rattle.chat_change.specs.declared.change.Change.{Change}
use Rattle.chat_history.specs.History.{norm, mark}
use Rattle.chat_history.specs.Lookups.{IsShown}
use Rattle.chat_query.specs.declared.facts.Facts.{Facts}
use Rattle.cluster_directory.specs.Entry.{Entry}
use Rattle.cluster_directory.specs.Directory.{Directory}
use Rattle.cluster_directory.specs.declared.config.SessionConfig.{SessionConfig}
use Rattle.client_session.specs.declared.effect.Effect.{Effect}
use Rattle.client_session.specs.declared.effect.Effect.TheVariants.{Put}
use Rattle.client_session.specs.declared.stage.Stage.{Stage}
use Rattle.client_session.specs.Lookup.{MessageName, name_sought}
use Rattle.client_session.specs.Session.{facts_in}
use Rattle.upstream_session.specs.Passing.{is_passed_on}
use Rattle.network_log.specs.Accounts.{directory_at}
use Rattle.network_log.specs.Facts.{NodeFacts}
use Rattle.network_log.specs.Guest.{Guest, GuestEvent, Gets, Hears, Says, Asks, Closes, Offers, Falls, new_guest, next_item, guest_step, guest_run}
use Rattle.network_log.specs.Host.{Host}
use Rattle.network_log.specs.NetworkState.{NetworkState, beginning, changes_of, entry_of, is_further, last_told}
use Rattle.network_log.specs.Log.{NetworkEvent, ServerComes, ServerGets, ServerSays, ServerSkips, ServerGoes, Others, Puts, PutsFirst, Loses, Comes, Has, Speaks, Marks, MarkWaits, Informs, Leaves, step, run}
use Rattle.network_log.specs.declared.origin.Origin.TheVariants.{ClientCame, NetworkDialed}

-- ---- of a client alone

-- whether the message is shown that a line names, where the node holds these changes
abbrev pub IsShownIn : List Change → Bool → Option MessageName → Type 0
IsShownIn held shown None = Unit {0}
IsShownIn held shown (Some name) = IsTrue shown ↔ IsShown (norm held) name.buffer name.id

abbrev pub IsSought : List Change → Bool → Stage → Option Item → Type 0
IsSought held shown session (Some (whole_line bytes)) = IsShownIn held shown (name_sought session bytes)
IsSought held shown session _ = Unit {0}

-- these are all that waits, or whole lines of it
pub data AreWholeLines (waiting : List ℕ) (count : ℕ) : Type 0 where
  AreAll : drop count waiting ≡ [] → AreWholeLines waiting count
  AreSome : (before : List ℕ) → take count waiting ≡ before ++ lf ∷ [] → AreWholeLines waiting count

-- Bytes come only where they came over the client's own connection. A line is heard once all that the one before came to is
-- done, by the accounts at a moment of which that holds, and whether its message is shown is what the node held. Whole lines
-- are offered. Who is gone is read, heard and answered no more.
abbrev pub IsTrueOfGuest : NodeFacts → List Change → (Directory → Type 0) → GuestEvent → Guest → Type 0
IsTrueOfGuest facts held Stands (Gets bytes) g =
    (g.is_gone ≡ false) × facts.came ClientCame g.serial (g.received ++ bytes)
IsTrueOfGuest facts held Stands (Hears directory shown) g =
    (g.is_gone ≡ false) × (g.todo ≡ []) × Stands directory
    × IsSought held shown g.session (next_item g.received g.heard)
IsTrueOfGuest facts held Stands Says g = g.is_gone ≡ false
IsTrueOfGuest facts held Stands Asks g = g.is_gone ≡ false
IsTrueOfGuest facts held Stands Closes g = g.is_gone ≡ false
IsTrueOfGuest facts held Stands (Offers count) g =
    (g.is_gone ≡ false) × AreWholeLines g.waiting count
IsTrueOfGuest facts held Stands Falls g = Unit {0}

abbrev pub AreTrueOfGuest : NodeFacts → List Change → (Directory → Type 0) → List GuestEvent → Guest → Type 0
AreTrueOfGuest facts held Stands [] g = Unit {0}
AreTrueOfGuest facts held Stands (event ∷ events) g =
    IsTrueOfGuest facts held Stands event g
    × AreTrueOfGuest facts held Stands events (guest_step held event g)

-- ---- clients before they are let in

-- The accounts of this node at some moment. In turn: no network is up; and one of the networks stands so.
pub data IsDirectory (facts : NodeFacts) : Directory → Type 0 where
  AtStart : IsDirectory facts facts.accounts.directory
  AtMoment : (place : ℕ) (config : SessionConfig) (entry : Entry)
      → slice_get facts.accounts.networks place ≡ Some config
      → IsDirectory facts (directory_at facts.accounts config entry)

-- Of each event the session is not registered.
abbrev pub IsNeverRegistered : List Change → List GuestEvent → Guest → Type 0
IsNeverRegistered held [] g = facts_in g.session ≡ None
IsNeverRegistered held (event ∷ events) g =
    (facts_in g.session ≡ None) × IsNeverRegistered held events (guest_step held event g)

-- A newcomer: a client that came to this by what came over its connection, by the accounts of this node, and that was never
-- registered. It joined no network.
pub record IsNewcomer (facts : NodeFacts) (g : Guest) : Type 0 where
  pub serial : ℕ
  pub events : List GuestEvent
  pub it_came : facts.came ClientCame serial []
  pub are_true : AreTrueOfGuest facts [] (IsDirectory facts) events (new_guest facts serial)
  pub is_outside : IsNeverRegistered [] events (new_guest facts serial)
  pub is_run : g ≡ guest_run [] events (new_guest facts serial)

-- A newcomer is let in at that network, which stands so: by its next line its session is registered with that account and
-- network.
pub record IsArrived (facts : NodeFacts) (config : SessionConfig) (entry : Entry) (g : Guest) : Type 0 where
  pub before : Guest
  pub shown : Bool
  pub f : Facts
  pub is_newcomer : IsNewcomer facts before
  pub is_true : IsTrueOfGuest facts [] (λ directory. directory ≡ directory_at facts.accounts config entry)
      (Hears (directory_at facts.accounts config entry) shown) before
  pub is_after : g ≡ guest_step [] (Hears (directory_at facts.accounts config entry) shown) before
  pub is_registered : facts_in g.session ≡ Some f
  pub is_account : f.account ≡ config.account
  pub is_network : f.network ≡ config.network

-- ---- of a network

abbrev pub IsTrueOfHost : NodeFacts → List ℕ → Option Host → Type 0
IsTrueOfHost facts bytes None = Unit {0}
IsTrueOfHost facts bytes (Some h) = facts.came (NetworkDialed h.network) h.serial (h.received ++ bytes)

-- It was too long, or it is a line that a session would only pass on.
abbrev pub MayBeLeftOut : Item → Type 0
MayBeLeftOut (whole_line bytes) = is_passed_on bytes ≡ true
MayBeLeftOut cut_line = Unit {0}

-- a line is there, which may be left out
abbrev pub MayBeSkipped : Option Item → Type 0
MayBeSkipped None = ⊥
MayBeSkipped (Some item) = MayBeLeftOut item

abbrev pub IsSkipped : Option Host → Type 0
IsSkipped None = Unit {0}
IsSkipped (Some h) = MayBeSkipped (next_item h.received h.heard)

abbrev pub IsTrueOfOption : (Guest → Type 0) → Option Guest → Type 0
IsTrueOfOption Holds None = Unit {0}
IsTrueOfOption Holds (Some g) = Holds g

abbrev pub IsThere : Guest → Type 0
IsThere g = g.is_gone ≡ false

abbrev pub IsGone : Guest → Type 0
IsGone g = g.is_gone ≡ true

-- a marker that is next of what is to be done is put for the network behind all that was put before
abbrev pub IsMarkPut : NodeFacts → NetworkState → List Effect → Type 0
IsMarkPut facts w (Put change ∷ more) = facts.put w.place (w.puts ++ change ∷ [])
IsMarkPut facts w _ = Unit {0}

-- the node held these, where they are more than it was known to hold
abbrev pub AreHeldBehind : NodeFacts → List Change → List Change → Type 0
AreHeldBehind facts held [] = Unit {0}
AreHeldBehind facts held later = facts.held (held ++ later)

-- and published, and these behind it
abbrev pub IsMarkHeld : NodeFacts → NetworkState → List Change → List Effect → Type 0
IsMarkHeld facts w later (Put change ∷ more) =
    facts.held (w.held ++ change ∷ []) × AreHeldBehind facts (w.held ++ change ∷ []) later
IsMarkHeld facts w later _ = Unit {0}

-- These changes are put for the network at that place behind all that was put before, and published behind what the node was last
-- seen to hold. Where there are none, nothing is to be put.
abbrev pub ArePut : NodeFacts → ℕ → List Change → List Change → List Change → Type 0
ArePut facts place puts held [] = Unit {0}
ArePut facts place puts held changes = facts.put place (puts ++ changes) × facts.held (held ++ changes)

-- A connection joins once, so none is there twice; that of a server was dialed for this network, and comes where none is. Bytes
-- come only where they came. A client comes only where it was let in at this network. Lines are heard and said at moments of the
-- node's clock. What is put is put, and what the node is said to hold it held. A marker is told to all where it is further than
-- the one that they were told before. Only who is gone leaves.
abbrev pub IsTrueEvent : NodeFacts → NetworkState → NetworkEvent → Type 0
IsTrueEvent facts w (ServerComes serial) =
    (w.server ≡ None) × facts.came (NetworkDialed w.place) serial [] × facts.joined serial w.place w.joins
IsTrueEvent facts w (ServerGets bytes) = IsTrueOfHost facts bytes w.server
IsTrueEvent facts w (ServerSays now) = facts.clock now
IsTrueEvent facts w ServerSkips = IsSkipped w.server
IsTrueEvent facts w ServerGoes = Unit {0}
IsTrueEvent facts w (Others changes) = facts.held (w.held ++ changes)
IsTrueEvent facts w (Puts later fits) =
    (length fits ≡ length w.guests)
    × ArePut facts w.place w.puts w.held (changes_of w.batch)
    × AreHeldBehind facts (w.held ++ changes_of w.batch) later
IsTrueEvent facts w (PutsFirst count fits) =
    (length fits ≡ length w.guests)
    × facts.put w.place (w.puts ++ take count (changes_of w.batch))
IsTrueEvent facts w Loses = Unit {0}
IsTrueEvent facts w (Comes guest) =
    IsArrived facts w.config (entry_of w) guest × facts.joined guest.serial w.place w.joins
IsTrueEvent facts w (Has place event) =
    IsTrueOfOption
    (IsTrueOfGuest facts w.held (λ directory. directory ≡ directory_at facts.accounts w.config (entry_of w)) event)
    (slice_get w.guests place)
IsTrueEvent facts w (Speaks place now) =
    IsTrueOfOption IsThere (slice_get w.guests place) × facts.clock now
IsTrueEvent facts w (Marks place later fits) =
    (length fits ≡ length w.guests)
    × IsTrueOfOption (λ g. IsThere g × IsMarkPut facts w g.todo × IsMarkHeld facts w later g.todo) (slice_get w.guests place)
IsTrueEvent facts w (MarkWaits place) =
    IsTrueOfOption (λ g. IsThere g × IsMarkPut facts w g.todo) (slice_get w.guests place)
IsTrueEvent facts w (Informs target fits) =
    let buffer = buffer_of w.config.account w.config.network target in
    (length fits ≡ length w.guests)
    × (is_further (mark w.held buffer) (last_told w.markers buffer) ≡ true)
IsTrueEvent facts w (Leaves place) = IsTrueOfOption IsGone (slice_get w.guests place)

abbrev pub AreTrue : NodeFacts → NetworkState → List NetworkEvent → Type 0
AreTrue facts w [] = Unit {0}
AreTrue facts w (event ∷ log) = IsTrueEvent facts w event × AreTrue facts (step facts event w) log

-- some log leads from the one to the other
pub record Leads (facts : NodeFacts) (old new : NetworkState) : Type 0 where
  pub log : List NetworkEvent
  pub is_true : AreTrue facts old log
  pub is_run : new ≡ run facts log old

-- a network has come to this: some log leads there from its beginning, at which the node held these
pub record IsReached (facts : NodeFacts) (w : NetworkState) : Type 0 where
  pub place : ℕ
  pub config : SessionConfig
  pub held : List Change
  pub is_there : slice_get facts.accounts.networks place ≡ Some config
  pub is_held : facts.held held
  pub leads : Leads facts (beginning place config held) w
