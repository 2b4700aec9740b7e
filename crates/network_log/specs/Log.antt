-- The log of a network: what happened, in order, and what it makes of the network.
use Rattle.std.specs.Prelude.{ℕ, ◌+◌, ◌==◌, Bool, List, [], ◌∷◌, ◌++◌, length, take, remove, Option, None, Some, slice_get, slice_set, if◌then◌else◌}
use Rattle.irc_line.specs.Stream.{Item, line as whole_line, too_long as cut_line}
use Rattle.chat_change.specs.Buffer.{Buffer, buffer_of}
use Rattle.chat_change.specs.declared.change.Change.{Change}
use Rattle.chat_change.specs.declared.change.Change.TheVariants.{Mark}
use Rattle.chat_history.specs.History.{mark}
use Rattle.client_session.specs.declared.effect.Effect.{Effect}
use Rattle.client_session.specs.declared.effect.Effect.TheVariants.{Put, Upstream}
use Rattle.upstream_session.specs.Session.{step as session_step, say, joined as channel_joined}
use Rattle.upstream_session.specs.Step.{ServerStep}
use Rattle.network_log.specs.Facts.{NodeFacts}
use Rattle.network_log.specs.Guest.{Guest, GuestEvent, next_item, guest_step}
use Rattle.network_log.specs.Host.{Host, new_host, host_after, one_heard, entries_by}
use Rattle.network_log.specs.Share.{hears_batch, hears_marker}
use Rattle.network_log.specs.NetworkState.{NetworkState, changes_of, first_entries, marker_noted, told_by}

-- What may happen to a network. In turn:
--   ServerComes  a connection to the server is there
--   ServerGets   bytes come over it
--   ServerSays   its session hears the next line, at that moment
--   ServerSkips  the next line is left out
--   ServerGoes   the connection is gone
--   Others       the node is seen to have published these too
--   Puts         the batch is put and published, the node is seen to have published these behind it, and the batch is told to the
--                clients; one that can't be owed its share is gone
--   PutsFirst    so many of its changes are put and wait to be published, the first ones, and so much of it is told; where that
--                isn't all, the server's connection is closed
--   Loses        the batch is let go: nobody is told, and the server's connection is closed
--   Comes        a client is there, as it was let in
--   Has          that happens to the client at that place
--   Speaks       the line for the server, which is next of what the client at that place has to do, is said to it at that moment
--   Marks        the marker, which is next, is put and published, the node is seen to have published these behind it, and the
--                other clients are told
--   MarkWaits    it is put, and waits to be published: nobody is told
--   Informs      all clients are told a target's marker
--   Leaves       the client at that place leaves
pub data NetworkEvent : Type 0 where
  ServerComes : (serial : ℕ) → NetworkEvent
  ServerGets : (bytes : List ℕ) → NetworkEvent
  ServerSays : (now : ℕ) → NetworkEvent
  ServerSkips : NetworkEvent
  ServerGoes : NetworkEvent
  Others : (changes : List Change) → NetworkEvent
  Puts : (later : List Change) (fits : List Bool) → NetworkEvent
  PutsFirst : (count : ℕ) (fits : List Bool) → NetworkEvent
  Loses : NetworkEvent
  Comes : (guest : Guest) → NetworkEvent
  Has : (place : ℕ) (event : GuestEvent) → NetworkEvent
  Speaks : (place now : ℕ) → NetworkEvent
  Marks : (place : ℕ) (later : List Change) (fits : List Bool) → NetworkEvent
  MarkWaits : (place : ℕ) → NetworkEvent
  Informs : (target : List ℕ) (fits : List Bool) → NetworkEvent
  Leaves : (place : ℕ) → NetworkEvent

-- ---- the server

-- the network's next session goes on from the last one's serial number and nick
abbrev pub without_server : Option Host → NetworkState → NetworkState
without_server None w = w
without_server (Some h) w =
    record w { serial = h.session.serial; nick = h.session.entry.nick; server = None }

abbrev pub with_bytes : List ℕ → Option Host → Option Host
with_bytes bytes None = None
with_bytes bytes (Some h) = Some (record h { received = h.received ++ bytes })

-- what comes of a step of the server's session
abbrev pub after_session_step : NetworkState → Host → ServerStep → Option (List ℕ) → NetworkState
after_session_step w h s channel = record w {
  server = Some (host_after s h);
  batch = w.batch ++ entries_by h.session s channel;
}

-- the session hears a line. One that was too long says nothing
abbrev pub after_server_item : NetworkState → Host → ℕ → Option Item → NetworkState
after_server_item w h now None = w
after_server_item w h now (Some (whole_line bytes)) =
    after_session_step w (one_heard h) (session_step h.session now bytes) (channel_joined h.session bytes)
after_server_item w h now (Some cut_line) = record w { server = Some (one_heard h) }

abbrev pub after_server_line : NetworkState → ℕ → Option Host → NetworkState
after_server_line w now None = w
after_server_line w now (Some h) = after_server_item w h now (next_item h.received h.heard)

abbrev pub with_line_skipped : Option Host → Option Host
with_line_skipped None = None
with_line_skipped (Some h) = Some (one_heard h)

-- ---- the batch

abbrev pub after_put : List Change → List Bool → NetworkState → NetworkState
after_put later fits w =
    let changes = changes_of w.batch in
    let held = (w.held ++ changes) ++ later in
    record w {
      batch = [];
      puts = w.puts ++ changes;
      held = held;
      guests = told_by (hears_batch held w.batch) fits w.guests;
    }

abbrev pub after_put_of_first : ℕ → List Bool → NetworkState → NetworkState
after_put_of_first count fits w = record w {
  batch = [];
  puts = w.puts ++ take count (changes_of w.batch);
  guests = told_by (hears_batch w.held (first_entries count w.batch)) fits w.guests;
}

-- ---- clients

abbrev pub guests_after : List Change → ℕ → GuestEvent → List Guest → Option Guest → List Guest
guests_after held place event guests None = guests
guests_after held place event guests (Some g) = slice_set guests place (guest_step held event g)

abbrev pub with_guest : ℕ → Guest → List Effect → NetworkState → NetworkState
with_guest place g more w = record w { guests = slice_set w.guests place (record g { todo = more }) }

-- A line for the server is said to it. Where none is there it is let go.
abbrev pub after_saying_to : NetworkState → ℕ → List ℕ → Option Host → NetworkState
after_saying_to w now text None = w
after_saying_to w now text (Some h) = after_session_step w h (say h.session now text) None

abbrev pub after_speaking : NetworkState → ℕ → ℕ → Guest → List Effect → NetworkState
after_speaking w place now g (Upstream text ∷ more) =
    with_guest place g more (after_saying_to w now text w.server)
after_speaking w place now g _ = w

abbrev pub after_speaking_of : NetworkState → ℕ → ℕ → Option Guest → NetworkState
after_speaking_of w place now None = w
after_speaking_of w place now (Some g) = after_speaking w place now g g.todo

-- ---- markers

-- all clients are told the marker of a target that stands in that buffer
abbrev pub after_informing : Buffer → List ℕ → List Bool → NetworkState → NetworkState
after_informing buffer target fits w = record w {
  markers = marker_noted buffer (mark w.held buffer) w.markers;
  guests = told_by (hears_marker w.held target) fits w.guests;
}

abbrev pub with_marker : Change → List Change → NetworkState → NetworkState
with_marker change later w =
    record w { puts = w.puts ++ change ∷ []; held = (w.held ++ change ∷ []) ++ later }

-- the one that puts it is told nothing: it has asked
abbrev pub after_marking : NetworkState → ℕ → List Change → List Bool → Guest → List Effect → NetworkState
after_marking w place later fits g (Put (Mark buffer at) ∷ more) =
    with_guest place g more
    (after_informing buffer buffer.target fits (with_marker (Mark buffer at) later w))
after_marking w place later fits g _ = w

abbrev pub after_marking_of : NetworkState → ℕ → List Change → List Bool → Option Guest → NetworkState
after_marking_of w place later fits None = w
after_marking_of w place later fits (Some g) = after_marking w place later fits g g.todo

abbrev pub after_waiting_mark : NetworkState → ℕ → Guest → List Effect → NetworkState
after_waiting_mark w place g (Put change ∷ more) =
    with_guest place g more (record w { puts = w.puts ++ change ∷ [] })
after_waiting_mark w place g _ = w

abbrev pub after_waiting_mark_of : NetworkState → ℕ → Option Guest → NetworkState
after_waiting_mark_of w place None = w
after_waiting_mark_of w place (Some g) = after_waiting_mark w place g g.todo

-- ---- all of it

-- what an event makes of a network
abbrev pub step : NodeFacts → NetworkEvent → NetworkState → NetworkState
step facts (ServerComes serial) w = record w {
  joins = w.joins + 1;
  server = Some (new_host facts w.place w.config serial w.serial);
}
step facts (ServerGets bytes) w = record w { server = with_bytes bytes w.server }
step facts (ServerSays now) w = after_server_line w now w.server
step facts ServerSkips w = record w { server = with_line_skipped w.server }
step facts ServerGoes w = without_server w.server w
step facts (Others changes) w = record w { held = w.held ++ changes }
step facts (Puts later fits) w = after_put later fits w
step facts (PutsFirst count fits) w =
    if count == length (changes_of w.batch)
    then after_put_of_first count fits w
    else without_server w.server (after_put_of_first count fits w)
step facts Loses w = without_server w.server (record w { batch = [] })
step facts (Comes guest) w = record w {
  joins = w.joins + 1;
  guests = w.guests ++ record guest { joined = Some w.joins } ∷ [];
}
step facts (Has place event) w = record w {
  guests = guests_after w.held place event w.guests (slice_get w.guests place);
}
step facts (Speaks place now) w = after_speaking_of w place now (slice_get w.guests place)
step facts (Marks place later fits) w =
    after_marking_of w place later fits (slice_get w.guests place)
step facts (MarkWaits place) w = after_waiting_mark_of w place (slice_get w.guests place)
step facts (Informs target fits) w =
    after_informing (buffer_of w.config.account w.config.network target) target fits w
step facts (Leaves place) w = record w { guests = remove w.guests place }

-- a whole log
abbrev pub run : NodeFacts → List NetworkEvent → NetworkState → NetworkState
run facts [] w = w
run facts (event ∷ log) w = run facts log (step facts event w)
