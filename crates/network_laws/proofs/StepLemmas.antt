-- What no event of a network changes, and how many connections have joined it after one.
use Rattle.std.proofs.Common.{◌≡◌, ◌≤◌, ◌==◌, Bool, true, false, ℕ, List, [], ◌∷◌, Option, Some, None, refl, arith, length, if◌then◌else◌}
use Rattle.std.specs.Prelude.{slice_get}
use Rattle.irc_line.specs.Stream.{Item, line as whole_line, too_long as cut_line}
use Rattle.chat_change.specs.declared.change.Change.{Change}
use Rattle.chat_change.specs.declared.change.Change.TheVariants.{Post, Redact, Mark, Floor, AccountFloor}
use Rattle.client_session.specs.declared.effect.Effect.{Effect}
use Rattle.client_session.specs.declared.effect.Effect.TheVariants.{Send, Put, Ask, Upstream, Close}
use Rattle.network_log.specs.Facts.{NodeFacts}
use Rattle.network_log.specs.Guest.{Guest, next_item}
use Rattle.network_log.specs.Host.{Host}
use Rattle.network_log.specs.NetworkState.{NetworkState, changes_of}
use Rattle.network_log.specs.Log.{NetworkEvent, ServerComes, ServerGets, ServerSays, ServerSkips, ServerGoes, Others, Puts, PutsFirst, Loses, Comes, Has, Speaks, Marks, MarkWaits, Informs, Leaves, step, without_server, after_server_item, after_server_line, after_saying_to, after_speaking, after_speaking_of, after_marking, after_marking_of, after_waiting_mark, after_waiting_mark_of, after_put_of_first}

-- it is the same network, and as many connections have joined it
abbrev pub IsSameNetwork : NetworkState → NetworkState → Type 0
IsSameNetwork old new = (new.place ≡ old.place) × (new.config ≡ old.config) × (new.joins ≡ old.joins)

server-goes : (o : Option Host) (w : NetworkState) → IsSameNetwork w (without_server o w)
server-goes None w = (refl, refl, refl)
server-goes (Some h) w = (refl, refl, refl)

item-same : (w : NetworkState) (h : Host) (now : ℕ) (o : Option Item) → IsSameNetwork w (after_server_item w h now o)
item-same w h now None = (refl, refl, refl)
item-same w h now (Some (whole_line bytes)) = (refl, refl, refl)
item-same w h now (Some cut_line) = (refl, refl, refl)

line-same : (w : NetworkState) (now : ℕ) (o : Option Host) → IsSameNetwork w (after_server_line w now o)
line-same w now None = (refl, refl, refl)
line-same w now (Some h) = item-same w h now (next_item h.received h.heard)

saying-same : (w : NetworkState) (now : ℕ) (text : List ℕ) (o : Option Host) → IsSameNetwork w (after_saying_to w now text o)
saying-same w now text None = (refl, refl, refl)
saying-same w now text (Some h) = (refl, refl, refl)

speaking-same : (w : NetworkState) (place now : ℕ) (g : Guest) (todo : List Effect) → IsSameNetwork w (after_speaking w place now g todo)
speaking-same w place now g [] = (refl, refl, refl)
speaking-same w place now g (Send text ∷ more) = (refl, refl, refl)
speaking-same w place now g (Put change ∷ more) = (refl, refl, refl)
speaking-same w place now g (Ask question ∷ more) = (refl, refl, refl)
speaking-same w place now g (Upstream text ∷ more) = saying-same w now text w.server
speaking-same w place now g (Close ∷ more) = (refl, refl, refl)

speaks-same : (w : NetworkState) (place now : ℕ) (o : Option Guest) → IsSameNetwork w (after_speaking_of w place now o)
speaks-same w place now None = (refl, refl, refl)
speaks-same w place now (Some g) = speaking-same w place now g g.todo

marking-same : (w : NetworkState) (place : ℕ) (later : List Change) (fits : List Bool) (g : Guest) (todo : List Effect) → IsSameNetwork w (after_marking w place later fits g todo)
marking-same w place later fits g [] = (refl, refl, refl)
marking-same w place later fits g (Send text ∷ more) = (refl, refl, refl)
marking-same w place later fits g (Put (Post r) ∷ more) = (refl, refl, refl)
marking-same w place later fits g (Put (Redact buffer id at) ∷ more) = (refl, refl, refl)
marking-same w place later fits g (Put (Mark buffer at) ∷ more) = (refl, refl, refl)
marking-same w place later fits g (Put (Floor buffer at) ∷ more) = (refl, refl, refl)
marking-same w place later fits g (Put (AccountFloor account at) ∷ more) = (refl, refl, refl)
marking-same w place later fits g (Ask question ∷ more) = (refl, refl, refl)
marking-same w place later fits g (Upstream text ∷ more) = (refl, refl, refl)
marking-same w place later fits g (Close ∷ more) = (refl, refl, refl)

marks-same : (w : NetworkState) (place : ℕ) (later : List Change) (fits : List Bool) (o : Option Guest) → IsSameNetwork w (after_marking_of w place later fits o)
marks-same w place later fits None = (refl, refl, refl)
marks-same w place later fits (Some g) = marking-same w place later fits g g.todo

waiting-same : (w : NetworkState) (place : ℕ) (g : Guest) (todo : List Effect) → IsSameNetwork w (after_waiting_mark w place g todo)
waiting-same w place g [] = (refl, refl, refl)
waiting-same w place g (Send text ∷ more) = (refl, refl, refl)
waiting-same w place g (Put change ∷ more) = (refl, refl, refl)
waiting-same w place g (Ask question ∷ more) = (refl, refl, refl)
waiting-same w place g (Upstream text ∷ more) = (refl, refl, refl)
waiting-same w place g (Close ∷ more) = (refl, refl, refl)

waits-same : (w : NetworkState) (place : ℕ) (o : Option Guest) → IsSameNetwork w (after_waiting_mark_of w place o)
waits-same w place None = (refl, refl, refl)
waits-same w place (Some g) = waiting-same w place g g.todo

-- ---- all events

-- the network is the same, and no fewer connections have joined it
pub record IsLater (old new : NetworkState) : Type 0 where
  pub place : new.place ≡ old.place
  pub config : new.config ≡ old.config
  pub joins : old.joins ≤ new.joins

same-later : {old new : NetworkState} → IsSameNetwork old new → IsLater old new
same-later s = record { place = s.0; config = s.1; joins = omega (arith, s.2) }

first-same : (count : ℕ) (fits : List Bool) (w : NetworkState) → IsSameNetwork w (after_put_of_first count fits w)
first-same count fits w = (refl, refl, refl)

first-later : (count : ℕ) (fits : List Bool) (w : NetworkState) (is_all : Bool)
    → IsSameNetwork w (if is_all then after_put_of_first count fits w else without_server w.server (after_put_of_first count fits w))
first-later count fits w true = (refl, refl, refl)
first-later count fits w false = server-goes w.server (after_put_of_first count fits w)

pub step-later : (facts : NodeFacts) (event : NetworkEvent) (w : NetworkState) → IsLater w (step facts event w)
step-later facts (ServerComes serial) w = record { place = refl; config = refl; joins = omega arith }
step-later facts (ServerGets bytes) w = same-later (refl, refl, refl)
step-later facts (ServerSays now) w = same-later (line-same w now w.server)
step-later facts ServerSkips w = same-later (refl, refl, refl)
step-later facts ServerGoes w = same-later (server-goes w.server w)
step-later facts (Others changes) w = same-later (refl, refl, refl)
step-later facts (Puts later fits) w = same-later (refl, refl, refl)
step-later facts (PutsFirst count fits) w = same-later (first-later count fits w (count == length (changes_of w.batch)))
step-later facts Loses w = same-later (server-goes w.server (record w { batch = [] }))
step-later facts (Comes guest) w = record { place = refl; config = refl; joins = omega arith }
step-later facts (Has place event) w = same-later (refl, refl, refl)
step-later facts (Speaks place now) w = same-later (speaks-same w place now (slice_get w.guests place))
step-later facts (Marks place later fits) w = same-later (marks-same w place later fits (slice_get w.guests place))
step-later facts (MarkWaits place) w = same-later (waits-same w place (slice_get w.guests place))
step-later facts (Informs target fits) w = same-later (refl, refl, refl)
step-later facts (Leaves place) w = same-later (refl, refl, refl)
