-- What happens to one client of a network.
use Rattle.std.proofs.Common.{◌≡◌, ◌<◌, ◌≤◌, cond, not, Bool, true, false, ℕ, zero, suc, List, [], ◌∷◌, ◌++◌, Option, Some, None, Result, Ok, Err, IfOk, OnErr, refl, sym, ap, ◌∙◌, subst, arith, length, take, drop, append-nil, slice_index_or, slice_set}
use Rattle.std.specs.Prelude.{slice_get, remove, ◌≢◌}
use Rattle.std.proofs.lemmas.Option.{slice_get_within, slice_get-get_or, get_or_from_slice_get}
use Rattle.std.proofs.lemmas.List.{set-get_or, set-set, get_or-set_same}
use Rattle.std.proofs.Math.Seq.{lt-length-set}
use Rattle.std.proofs.Math.Logic.{∥∥₁_map}
use Rattle.chat_change.specs.declared.change.Change.{Change}
use Rattle.cluster_directory.specs.Directory.{Directory}
use Rattle.client_session.specs.declared.effect.Effect.{Effect}
use Rattle.client_session.specs.declared.effect.Effect.TheVariants.{Send, Put, Ask, Upstream, Close}
use Rattle.network_log.specs.Accounts.{directory_at}
use Rattle.network_log.specs.Facts.{NodeFacts}
use Rattle.network_log.specs.Guest.{Guest, GuestEvent, Gets, Says, Closes, Offers, Falls, after_saying, fallen, guest_run, guest_step}
use Rattle.network_log.specs.Host.{Host, BatchEntry}
use Rattle.network_log.specs.Log.{NetworkEvent, Has, Leaves, Loses, Speaks, after_saying_to, after_speaking, after_speaking_of, guests_after, run, step, with_guest, without_server}
use Rattle.network_log.specs.NetworkState.{NetworkState, entry_of}
use Rattle.network_log.specs.Telling.{IsToldToClient, AsClient}
use Rattle.network_log.specs.Truth.{AreTrue, AreTrueOfGuest, AreWholeLines, IsGone, IsReached, IsThere, IsTrueEvent, IsTrueOfGuest, IsTrueOfOption, Leads}
use Rattle.network_client.specs.Steps.{IsFilled, Same, Got, Fell, Lost, all_said, saying}
use Rattle.hosted_network.specs.Parts.{IsOnlyAt, those_there}
use Rattle.hosted_network.specs.Speaking.{IsLetGo, IsNextSaid, IsSpoken, IsSpokenInVain}
use Rattle.hosted_network.proofs.LogLemmas.{and_then, from, happens, stays, there as found}

get-set : (guests : List Guest) (place : ℕ) (g new : Guest)
    → slice_get guests place ≡ Some g → slice_get (slice_set guests place new) place ≡ Some new
get-set guests place g new h =
    let within : place < length guests = slice_get_within guests place g h in
    slice_get-get_or (slice_set guests place new) place new (lt-length-set guests place new within)
    ∙ ap (λ v. Some v) (get_or-set_same guests place new new within)

set-same : (guests : List Guest) (place : ℕ) (g : Guest) → slice_get guests place ≡ Some g → slice_set guests place g ≡ guests
set-same guests place g h =
    ap (slice_set guests place) (sym (get_or_from_slice_get guests place g g h)) ∙ set-get_or guests place g

-- these happen to the client at that place
all_has : ℕ → List GuestEvent → List NetworkEvent
all_has place [] = []
all_has place (event ∷ events) = Has place event ∷ all_has place events

-- the accounts as they stand at the network
abbrev pub Stands : NodeFacts → NetworkState → Directory → Type 0
Stands facts w directory = directory ≡ directory_at facts.accounts w.config (entry_of w)

step-has : (facts : NodeFacts) (w : NetworkState) (place : ℕ) (event : GuestEvent) (g : Guest) → slice_get w.guests place ≡ Some g
    → step facts (Has place event) w ≡ record w { guests = slice_set w.guests place (guest_step w.held event g) }
step-has facts w place event g h =
    ap (λ (o : Option Guest). let v : NetworkState = record w { guests = guests_after w.held place event w.guests o } in v) h

has-run : (facts : NodeFacts) (events : List GuestEvent) (w : NetworkState) (place : ℕ) (g : Guest) → slice_get w.guests place ≡ Some g
    → run facts (all_has place events) w ≡ record w { guests = slice_set w.guests place (guest_run w.held events g) }
unfolding all_has
has-run facts [] w place g h = ap (λ gs. let v : NetworkState = record w { guests = gs } in v) (sym (set-same w.guests place g h))
has-run facts (event ∷ events) w place g h =
    let next : Guest = guest_step w.held event g in
    let mid : NetworkState = record w { guests = slice_set w.guests place next } in
    ap (run facts (all_has place events)) (step-has facts w place event g h)
    ∙ has-run facts events mid place next (get-set w.guests place g next h)
    ∙ ap (λ gs. let v : NetworkState = record w { guests = gs } in v) (set-set w.guests place next (guest_run w.held events next))

has-true : (facts : NodeFacts) (events : List GuestEvent) (w : NetworkState) (place : ℕ) (g : Guest) → slice_get w.guests place ≡ Some g
    → AreTrueOfGuest facts w.held (Stands facts w) events g
    → AreTrue facts w (all_has place events)
unfolding all_has
has-true facts [] w place g h t = tt
has-true facts (event ∷ events) w place g h t =
    let next : Guest = guest_step w.held event g in
    let mid : NetworkState = record w { guests = slice_set w.guests place next } in (
      subst (λ (o : Option Guest). IsTrueOfOption (IsTrueOfGuest facts w.held (Stands facts w) event) o) (sym h) t.0,
      subst (λ (v : NetworkState). AreTrue facts v (all_has place events)) (sym (step-has facts w place event g h))
          (has-true facts events mid place next (get-set w.guests place g next h) t.1),
    )

-- what happens to one client happens to the network
pub client_leads : {facts : NodeFacts} {w : NetworkState} {g new : Guest} (place : ℕ) (events : List GuestEvent) → slice_get w.guests place ≡ Some g
    → AreTrueOfGuest facts w.held (Stands facts w) events g → new ≡ guest_run w.held events g
    → Leads facts w (record w { guests = slice_set w.guests place new })
client_leads {facts} {w} {g} {new} place events h t e = record {
  log = all_has place events;
  is_true = has-true facts events w place g h t;
  is_run = ap (λ (k : Guest). let v : NetworkState = record w { guests = slice_set w.guests place k } in v) e ∙ sym (has-run facts events w place g h);
}

-- the client at a place that is within
pub spot : {w now : NetworkState} {place : ℕ} {g : Guest} → w ≡ now → place < length now.guests → g ≡ slice_index_or w.guests place g → slice_get w.guests place ≡ Some g
spot {w} {now} {place} {g} is within at =
    slice_get-get_or w.guests place g (subst (λ (v : NetworkState). place < length v.guests) (sym is) within) ∙ ap (λ h. Some h) (sym at)

pub falls : {facts : NodeFacts} {w now : NetworkState} {place : ℕ} {g new : Guest} → w ≡ now → place < length now.guests → g ≡ slice_index_or w.guests place g → new ≡ fallen g
    → Leads facts now (record w { guests = slice_set w.guests place new })
falls {place = place} is within at e = from is (client_leads place (Falls ∷ []) (spot is within at) (tt, tt) e)

pub same : {facts : NodeFacts} {w now : NetworkState} {place : ℕ} {g new : Guest} → w ≡ now → place < length now.guests → g ≡ slice_index_or w.guests place g → new ≡ g
    → Leads facts now (record w { guests = slice_set w.guests place new })
same {place = place} is within at e = from is (client_leads place [] (spot is within at) tt e)

pub filled : {facts : NodeFacts} {w now : NetworkState} {place : ℕ} {g new : Guest} → w ≡ now → place < length now.guests → g ≡ slice_index_or w.guests place g → IsFilled facts g new
    → Leads facts now (record w { guests = slice_set w.guests place new })
filled is within at (Same e) = same is within at e
filled {place = place} is within at (Got bytes there came e) = from is (client_leads place (Gets bytes ∷ []) (spot is within at) ((there, came), tt) e)
filled is within at (Fell e) = falls is within at e
filled {place = place} is within at (Lost bytes there came e) = from is (client_leads place (Gets bytes ∷ Falls ∷ []) (spot is within at) ((there, came), (tt, tt)) e)

-- it changed in nothing
pub unchanged : {w now : NetworkState} {place : ℕ} {g new : Guest} → w ≡ now → place < length now.guests → g ≡ slice_index_or w.guests place g → new ≡ g
    → record w { guests = slice_set w.guests place new } ≡ now
unchanged {w} {place = place} is within at e =
    ap (λ (l : List Guest). let v : NetworkState = record w { guests = l } in v) (ap (slice_set w.guests place) e ∙ set-same w.guests place _ (spot is within at)) ∙ is

-- nothing but that it is gone
pub only_fell : {mid now new : NetworkState} {place : ℕ} → mid ≡ now → place < length now.guests
    → ((g : Guest) → slice_get mid.guests place ≡ Some g → new ≡ record mid { guests = slice_set mid.guests place (fallen g) })
    → IsOnlyAt place now new
only_fell {mid} {now} {new} {place} is within fell =
    let t : (g : Guest) × (slice_get now.guests place ≡ Some g) = found now.guests place within in
    record {
      client = fallen t.0;
      is_new = fell t.0 (ap (λ (v : NetworkState). slice_get v.guests place) is ∙ t.1)
          ∙ ap (λ (v : NetworkState). let n : NetworkState = record v { guests = slice_set v.guests place (fallen t.0) } in n) is;
    }

-- all that its session says
say_events : List Effect → List GuestEvent
say_events (Send text ∷ more) = Says ∷ say_events more
say_events _ = []

says-true : (facts : NodeFacts) (held : List Change) (S : Directory → Type 0) (todo : List Effect) (g : Guest) → g.todo ≡ todo → g.is_gone ≡ false
    → AreTrueOfGuest facts held S (say_events todo) g
unfolding say_events
says-true facts held S [] g e there = tt
says-true facts held S (Send text ∷ more) g e there = (
  there,
  subst (λ (h : Guest). AreTrueOfGuest facts held S (say_events more) h) (ap (after_saying g) (sym e))
      (says-true facts held S more (record g { todo = more; waiting = g.waiting ++ text }) refl there),
)
says-true facts held S (Put change ∷ more) g e there = tt
says-true facts held S (Ask question ∷ more) g e there = tt
says-true facts held S (Upstream text ∷ more) g e there = tt
says-true facts held S (Close ∷ more) g e there = tt

says-run : (held : List Change) (todo : List Effect) (g : Guest) → g.todo ≡ todo → saying todo g ≡ guest_run held (say_events todo) g
unfolding say_events
says-run held [] g e = refl
says-run held (Send text ∷ more) g e =
    says-run held more (record g { todo = more; waiting = g.waiting ++ text }) refl ∙ ap (guest_run held (say_events more)) (ap (after_saying g) (sym e))
says-run held (Put change ∷ more) g e = refl
says-run held (Ask question ∷ more) g e = refl
says-run held (Upstream text ∷ more) g e = refl
says-run held (Close ∷ more) g e = refl

pub said : {facts : NodeFacts} {w now : NetworkState} {place : ℕ} {g new : Guest} → w ≡ now → place < length now.guests → g ≡ slice_index_or w.guests place g
    → g.is_gone ≡ false → new ≡ all_said g
    → Leads facts now (record w { guests = slice_set w.guests place new })
said {facts} {w} {place = place} {g = g} is within at there e =
    from is (client_leads place (say_events g.todo) (spot is within at) (says-true facts w.held (Stands facts w) g.todo g refl there) (e ∙ says-run w.held g.todo g refl))

-- where there was memory for that, or else it is gone
pub said_or_gone : {facts : NodeFacts} {w now : NetworkState} {place : ℕ} {g : Guest} {T E : Type 0} (new : Guest) (result : Result T E) → w ≡ now → place < length now.guests → g ≡ slice_index_or w.guests place g
    → g.is_gone ≡ false → IfOk result (λ _. new ≡ all_said g) → OnErr result (new ≡ fallen g)
    → Leads facts now (record w { guests = slice_set w.guests place new })
said_or_gone new (Ok u) is within at there e f = said is within at there e
said_or_gone new (Err u) is within at there e f = falls is within at f

pub closed : {facts : NodeFacts} {w now : NetworkState} {place : ℕ} {g new : Guest} → w ≡ now → place < length now.guests → g ≡ slice_index_or w.guests place g
    → g.is_gone ≡ false → new ≡ guest_step [] Closes g
    → Leads facts now (record w { guests = slice_set w.guests place new })
closed {place = place} is within at there e = from is (client_leads place (Closes ∷ []) (spot is within at) (there, tt) e)

-- ---- what it is sent

pub to_client : {facts : NodeFacts} {w now : NetworkState} {place : ℕ} {g : Guest}
    → w ≡ now → place < length now.guests → g ≡ slice_index_or w.guests place g
    → IsReached facts now → IsToldToClient facts g.serial g.received g.told
to_client {facts} {w} {now} {place} {g} is within at r =
    AsClient w place g (subst (λ (v : NetworkState). IsReached facts v) (sym is) r) (spot is within at) refl refl ([], append-nil g.told)

pub leaves : {facts : NodeFacts} {w now : NetworkState} {after : List Guest} {g : Guest} (place : ℕ)
    → w ≡ now → place < length now.guests → g ≡ slice_index_or w.guests place g → g.is_gone ≡ true → after ≡ remove w.guests place
    → Leads facts now (record w { guests = after })
leaves {w = w} {after = after} place is within at gone e =
    from is (happens (Leaves place) (subst (λ (o : Option Guest). IsTrueOfOption IsGone o) (sym (spot is within at)) gone)
    (ap (λ gs. let v : NetworkState = record w { guests = gs } in v) e))

get-at : (olds rest : List Guest) (p : ℕ) (g : Guest) → slice_get olds p ≡ Some g → slice_get (take (suc p) olds ++ rest) p ≡ Some g
get-at [] rest p g at = let n : p < 0 = slice_get_within [] p g at in absurd (omega (arith, n))
get-at (o ∷ olds) rest zero g at = ap (λ v. Some v) (get_or_from_slice_get (o ∷ olds) zero g g at)
get-at (o ∷ olds) rest (suc p) g at = get-at olds rest p g at

left-at : (olds : List Guest) (p : ℕ) (g : Guest) → slice_get olds p ≡ Some g → g.is_gone ≡ true
    → remove (take (suc p) olds ++ those_there (drop (suc p) olds)) p ≡ take p olds ++ those_there (drop p olds)
left-at [] p g at gone = let n : p < 0 = slice_get_within [] p g at in absurd (omega (arith, n))
left-at (o ∷ olds) zero g at gone =
    sym (ap (λ (b : Bool). cond (not b) (o ∷ those_there olds) (those_there olds)) (ap (λ (v : Guest). v.is_gone) (get_or_from_slice_get (o ∷ olds) zero g g at) ∙ gone))
left-at (o ∷ olds) (suc p) g at gone = ap (λ (l : List Guest). o ∷ l) (left-at olds p g at gone)

kept-at : (olds : List Guest) (p : ℕ) (g : Guest) → slice_get olds p ≡ Some g → g.is_gone ≡ false
    → take (suc p) olds ++ those_there (drop (suc p) olds) ≡ take p olds ++ those_there (drop p olds)
kept-at [] p g at is_there = let n : p < 0 = slice_get_within [] p g at in absurd (omega (arith, n))
kept-at (o ∷ olds) zero g at is_there =
    sym (ap (λ (b : Bool). cond (not b) (o ∷ those_there olds) (those_there olds)) (ap (λ (v : Guest). v.is_gone) (get_or_from_slice_get (o ∷ olds) zero g g at) ∙ is_there))
kept-at (o ∷ olds) (suc p) g at is_there = ap (λ (l : List Guest). o ∷ l) (kept-at olds p g at is_there)

all-stay : (olds : List Guest) → take (length olds) olds ++ those_there (drop (length olds) olds) ≡ olds
all-stay [] = refl
all-stay (o ∷ olds) = ap (λ (l : List Guest). o ∷ l) (all-stay olds)

-- those from that place on left, where they were gone
pub left_from : ℕ → NetworkState → NetworkState
left_from p w = record w { guests = take p w.guests ++ those_there (drop p w.guests) }

pub none_left : {w : NetworkState} (p : ℕ) → p ≡ length w.guests → w ≡ left_from p w
unfolding left_from
none_left {w} p e =
    ap (λ (l : List Guest). let v : NetworkState = record w { guests = l } in v) (sym (all-stay w.guests))
    ∙ ap (λ (n : ℕ). let v : NetworkState = record w { guests = take n w.guests ++ those_there (drop n w.guests) } in v) (sym e)

pub all_left : {now : NetworkState} (w : NetworkState) (p : ℕ) → p ≡ 0 → now ≡ left_from p w → now ≡ record w { guests = those_there w.guests }
unfolding left_from
all_left w p e is = is ∙ ap (λ (n : ℕ). let v : NetworkState = record w { guests = take n w.guests ++ those_there (drop n w.guests) } in v) e

one-left : {now new : NetworkState} (first : NetworkState) (p : ℕ) (g : Guest) (b : Bool) → g.is_gone ≡ b → slice_get first.guests p ≡ Some g → slice_get now.guests p ≡ Some g
    → now ≡ left_from (suc p) first
    → ((g : Guest) → slice_get now.guests p ≡ Some g → g.is_gone ≡ false → new ≡ now)
    → ((g : Guest) → slice_get now.guests p ≡ Some g → g.is_gone ≡ true → new ≡ record now { guests = remove now.guests p })
    → new ≡ left_from p first
unfolding left_from
one-left first p g true gone at here is kept left =
    left g here gone ∙ ap (λ (v : NetworkState). let x : NetworkState = record v { guests = remove v.guests p } in x) is
    ∙ ap (λ (l : List Guest). let x : NetworkState = record first { guests = l } in x) (left-at first.guests p g at gone)
one-left first p g false gone at here is kept left =
    kept g here gone ∙ is ∙ ap (λ (l : List Guest). let x : NetworkState = record first { guests = l } in x) (kept-at first.guests p g at gone)

-- one more
pub one_left : {now new : NetworkState} (first : NetworkState) (p q : ℕ) → q ≡ suc p → q ≤ length first.guests → now ≡ left_from q first
    → ((g : Guest) → slice_get now.guests p ≡ Some g → g.is_gone ≡ false → new ≡ now)
    → ((g : Guest) → slice_get now.guests p ≡ Some g → g.is_gone ≡ true → new ≡ record now { guests = remove now.guests p })
    → new ≡ left_from p first
unfolding left_from
one_left {now = now} first p q e within is kept left =
    let t : (g : Guest) × (slice_get first.guests p ≡ Some g) = found first.guests p (omega (arith, e, within)) in
    let k : now ≡ left_from (suc p) first = is ∙ ap (λ (n : ℕ). left_from n first) e in
    one-left first p t.0 t.0.is_gone refl t.1
    (ap (λ (v : NetworkState). slice_get v.guests p) k ∙ get-at first.guests (those_there (drop (suc p) first.guests)) p t.0 t.1) k kept left

-- the first of what waits goes to its ring
pub offers : {facts : NodeFacts} {w now : NetworkState} {place : ℕ} {g new : Guest} (n : ℕ) → w ≡ now → place < length now.guests → g ≡ slice_index_or w.guests place g
    → new ≡ guest_step [] (Offers n) g → (n ≢ 0 → ∥ AreWholeLines g.waiting n ∥₁) → (n ≢ 0 → g.is_gone ≡ false)
    → ∥ Leads facts now (record w { guests = slice_set w.guests place new }) ∥₁
offers {facts} {w} {now} {place} {g} {new} zero is within at e whole there =
    ∣ same is within at (e ∙ ap (λ (t : List ℕ). let h : Guest = record g { told = t } in h) (append-nil g.told)) ∣₁
offers {facts} {w} {now} {place} {g} {new} (suc n) is within at e whole there =
    let some : suc n ≢ 0 = λ h. absurd (cc h) in
    ∥∥₁_map (whole some) (λ lines. from is (client_leads place (Offers (suc n) ∷ []) (spot is within at) ((there some, lines), tt) e))

-- as there is room, or else it is gone
pub offers_or_gone : {facts : NodeFacts} {w now : NetworkState} {place : ℕ} {g : Guest} {E : Type 0} (new : Guest) (result : Result ℕ E) → w ≡ now → place < length now.guests → g ≡ slice_index_or w.guests place g
    → IfOk result (λ n. new ≡ guest_step [] (Offers n) g) → IfOk result (λ n. n ≢ 0 → ∥ AreWholeLines g.waiting n ∥₁) → IfOk result (λ n. n ≢ 0 → g.is_gone ≡ false) → OnErr result (new ≡ fallen g)
    → ∥ Leads facts now (record w { guests = slice_set w.guests place new }) ∥₁
offers_or_gone new (Ok n) is within at e whole there f = offers n is within at e whole there
offers_or_gone new (Err u) is within at e whole there f = ∣ falls is within at f ∣₁

-- ---- lines for the server

saying-guests : (w : NetworkState) (moment : ℕ) (text : List ℕ) (o : Option Host) → (after_saying_to w moment text o).guests ≡ w.guests
saying-guests w moment text None = refl
saying-guests w moment text (Some h) = refl

-- the client's line is next
speaks-at : (facts : NodeFacts) (w : NetworkState) (place moment : ℕ) (g : Guest) (text : List ℕ) (more : List Effect) → slice_get w.guests place ≡ Some g → g.todo ≡ Upstream text ∷ more
    → step facts (Speaks place moment) w ≡ with_guest place g more (after_saying_to w moment text w.server)
speaks-at facts w place moment g text more at next = ap (after_speaking_of w place moment) at ∙ ap (after_speaking w place moment g) next

speaks-true : (facts : NodeFacts) (w : NetworkState) (place moment : ℕ) (g : Guest) → slice_get w.guests place ≡ Some g → g.is_gone ≡ false → facts.clock moment
    → IsTrueEvent facts w (Speaks place moment)
speaks-true facts w place moment g at there clock = (subst (λ (o : Option Guest). IsTrueOfOption IsThere o) (sym at) there, clock)

pub spoken : {facts : NodeFacts} {w now : NetworkState} {place moment : ℕ} {g new : Guest} {before after : Host} {batch later : List BatchEntry}
    → w ≡ now → place < length now.guests → g ≡ slice_index_or w.guests place g → w.server ≡ Some before → w.batch ≡ batch → facts.clock moment
    → IsSpoken moment g before batch new after later
    → Leads facts now (record w { server = Some after; batch = later; guests = slice_set w.guests place new })
spoken {facts} {w} {place = place} {moment = moment} {g = g} {after = after} {later = later} is within at server b clock k =
    let n : IsNextSaid k.text g _ = k.is_next in
    from is (happens (Speaks place moment) (speaks-true facts w place moment g (spot is within at) n.is_there clock)
    ((λ i. let v : NetworkState = record w { server = Some after; batch = later; guests = slice_set w.guests place (n.is_done i) } in v)
    ∙ ap (with_guest place g n.more) (sym (k.is_said w server b))
    ∙ sym (speaks-at facts w place moment g k.text n.more (spot is within at) n.is_next)))

pub let_go : {facts : NodeFacts} {w now : NetworkState} {place : ℕ} {g new : Guest} (moment : ℕ)
    → w ≡ now → place < length now.guests → g ≡ slice_index_or w.guests place g → w.server ≡ None → facts.clock moment
    → IsLetGo g new
    → Leads facts now (record w { guests = slice_set w.guests place new })
let_go {facts} {w} {place = place} {g = g} moment is within at server clock k =
    let n : IsNextSaid k.text g _ = k.is_next in
    from is (happens (Speaks place moment) (speaks-true facts w place moment g (spot is within at) n.is_there clock)
    ((λ i. let v : NetworkState = record w { guests = slice_set w.guests place (n.is_done i) } in v)
    ∙ ap (λ (o : Option Host). with_guest place g n.more (after_saying_to w moment k.text o)) (sym server)
    ∙ sym (speaks-at facts w place moment g k.text n.more (spot is within at) n.is_next)))

-- where no server is there it is let go
pub said_to_none : {facts : NodeFacts} {w now : NetworkState} {place : ℕ} {g new : Guest} (moment : ℕ) (result : Bool)
    → w ≡ now → place < length now.guests → g ≡ slice_index_or w.guests place g → w.server ≡ None → facts.clock moment
    → (result ≡ true → IsLetGo g new) → (result ≡ false → new ≡ g)
    → Leads facts now (record w { guests = slice_set w.guests place new })
said_to_none moment true is within at server clock done left = let_go moment is within at server clock (done refl)
said_to_none moment false is within at server clock done left = same is within at (left refl)

-- it waits
pub waits : {facts : NodeFacts} {w now : NetworkState} {place : ℕ} {g new : Guest} {before after : Host} {batch later : List BatchEntry}
    → w ≡ now → place < length now.guests → g ≡ slice_index_or w.guests place g → w.server ≡ Some before → w.batch ≡ batch
    → new ≡ g → after ≡ before → later ≡ batch
    → Leads facts now (record w { server = Some after; batch = later; guests = slice_set w.guests place new })
waits {w = w} {place = place} is within at server b e f h =
    let there : slice_set w.guests place _ ≡ w.guests = ap (slice_set w.guests place) e ∙ set-same w.guests place _ (spot is within at) in
    stays ((λ i. let v : NetworkState = record w { server = (ap (λ (s : Host). Some s) f ∙ sym server) i; batch = (h ∙ sym b) i; guests = there i } in v) ∙ is)

lost-guests : (u : NetworkState) (o : Option Host) (guests : List Guest)
    → without_server o (record u { batch = []; guests = guests }) ≡ (let v : NetworkState = record (without_server o (record u { batch = [] })) { guests = guests } in v)
lost-guests u None guests = refl
lost-guests u (Some h) guests = refl

pub spoken_in_vain : {facts : NodeFacts} {w now mid last : NetworkState} {place moment : ℕ} {g new : Guest} {before after : Host} {later : List BatchEntry}
    → w ≡ now → place < length now.guests → g ≡ slice_index_or w.guests place g → w.server ≡ Some before → facts.clock moment
    → IsSpokenInVain facts moment g before new after
    → mid ≡ record w { server = Some after; batch = later; guests = slice_set w.guests place new }
    → last ≡ without_server mid.server (record mid { batch = [] })
    → Leads facts now last
spoken_in_vain {facts} {w} {mid = mid} {last = last} {place = place} {moment = moment} {g = g} {after = after} is within at server clock k m e =
    let n : IsNextSaid k.text g _ = k.is_next in
    let u : NetworkState = after_saying_to w moment k.text w.server in
    let told : List Guest = slice_set w.guests place (record g { todo = n.more }) in
    let one : Leads facts w (step facts (Speaks place moment) w) = happens (Speaks place moment) (speaks-true facts w place moment g (spot is within at) n.is_there clock) refl in
    from is (and_then one (happens Loses tt
    (e ∙ ap (λ (v : NetworkState). without_server v.server (record v { batch = [] })) m
    ∙ (λ i. without_server (Some after) (record w { batch = []; guests = slice_set w.guests place (n.is_done i) }))
    ∙ lost-guests w (Some after) told
    ∙ ap (λ (v : NetworkState). let x : NetworkState = record v { guests = told } in x) (sym (k.is_lost w server))
    ∙ ap (λ (l : List Guest). let x : NetworkState = record (without_server u.server (record u { batch = [] })) { guests = slice_set l place (record g { todo = n.more }) } in x)
    (sym (saying-guests w moment k.text w.server))
    ∙ sym (lost-guests u u.server (slice_set u.guests place (record g { todo = n.more })))
    ∙ ap (λ (v : NetworkState). without_server v.server (record v { batch = [] })) (sym (speaks-at facts w place moment g k.text n.more (spot is within at) n.is_next)))))
