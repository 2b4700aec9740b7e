-- A marker that a client puts: how it is found, put and told.
use Rattle.std.proofs.Common.{◌≡◌, ◌<◌, Bool, true, false, ℕ, zero, suc, List, [], ◌∷◌, ◌++◌, Option, Some, if◌then◌else◌, refl, sym, ap, ◌∙◌, subst, length, take, append-nil, slice_index_or, slice_set}
use Rattle.std.specs.Prelude.{slice_get, ◌≢◌, Result, Ok, Err, IfOk}
use Rattle.std.proofs.lemmas.Option.{get_or_from_slice_get}
use Rattle.std.proofs.lemmas.List.{length-set, set-set}
use Rattle.std.proofs.Math.Logic.{∥∥₁_map₂}
use Rattle.chat_change.specs.Buffer.{Buffer, buffer_of}
use Rattle.chat_change.specs.declared.change.Change.{Change}
use Rattle.chat_change.specs.declared.change.Change.TheVariants.{Mark as Marked}
use Rattle.chat_history.specs.History.{mark}
use Rattle.chat_query.specs.declared.facts.Facts.{Facts}
use Rattle.cluster_directory.specs.declared.config.SessionConfig.{SessionConfig}
use Rattle.client_session.specs.declared.effect.Effect.{Effect}
use Rattle.client_session.specs.declared.effect.Effect.TheVariants.{Put}
use Rattle.client_session.specs.Session.{facts_in}
use Rattle.network_client.specs.Steps.{after_act}
use Rattle.network_log.specs.Facts.{NodeFacts}
use Rattle.network_log.specs.Guest.{Guest, Falls, fallen}
use Rattle.network_log.specs.Host.{Entered}
use Rattle.network_log.specs.Log.{MarkWaits, Marks, Others, after_marking, after_marking_of, after_waiting_mark, after_waiting_mark_of}
use Rattle.network_log.specs.NetworkState.{MarkerTold, NetworkState, marker_noted, told_by}
use Rattle.network_log.specs.Putting.{IsSeen, MayBePutFor, More, OfClient, Same}
use Rattle.network_log.specs.Share.{hears_batch, hears_marker, marker_text, told_to, with_text}
use Rattle.network_log.specs.Telling.{AsClient, IsToldToClient}
use Rattle.network_log.specs.Truth.{AreHeldBehind, ArePut, IsMarkHeld, IsMarkPut, IsReached, IsThere, IsTrueOfOption, Leads}
use Rattle.hosted_network.specs.Marking.{AreOthersToldBy, IsMarkOf, IsMarkTold, IsNextMark, NobodyIsTold, OthersAreTold}
use Rattle.hosted_network.specs.Putting.{ArePutBehind, ArePutInPart}
use Rattle.hosted_network.specs.Sharing.{AreMarked}
use Rattle.hosted_network.specs.declared.marking.Mark.{Mark}
use Rattle.hosted_network.proofs.GuestLemmas.{client_leads, spot}
use Rattle.hosted_network.proofs.InformingLemmas.{as-batch}
use Rattle.hosted_network.proofs.LogLemmas.{and_then, happens, reached, sees, there}

-- ---- the marker that is next

first-of : (todo : List Effect) (change : Change) → slice_get todo 0 ≡ Some (Put change) → (more : List Effect) × (todo ≡ Put change ∷ more)
first-of [] change e = absurd (cc e)
first-of (effect ∷ more) change e = (more, ap (λ (x : Effect). x ∷ more) (get_or_from_slice_get (effect ∷ more) 0 (Put change) effect e))

next-so : {config : SessionConfig} {change : Change} {m : Mark} {g : Guest}
    → g.is_gone ≡ false → slice_get g.todo 0 ≡ Some (Put change) → IsMarkOf config change m → IsNextMark config m g
next-so {config} {change} {m} {g} here e k =
    let t : (more : List Effect) × (g.todo ≡ Put change ∷ more) = first-of g.todo change e in
    record {
      more = t.0;
      is_there = here;
      is_next = t.1 ∙ ap (λ (c : Change). Put c ∷ t.0) (sym k.is_same);
      is_mark = subst (λ (c : Change). IsMarkOf config c m) (sym k.is_same) k;
    }

pub next_if : (config : SessionConfig) (change : Change) (g : Guest) {E : Type 0} (result : Result Mark E)
    → g.is_gone ≡ false → slice_get g.todo 0 ≡ Some (Put change)
    → IfOk result (λ m. IsMarkOf config change m) → IfOk result (λ m. IsNextMark config m g)
next_if config change g (Ok m) here e k = next-so here e k
next_if config change g (Err fault) here e k = tt

-- ---- it is told

-- the node was seen again, and that is all
pub nobody : {facts : NodeFacts} {w now : NetworkState} {place : ℕ} {puts : List Change} {markers : List MarkerTold} (held : List Change) (at : ℕ) (buffer : Buffer) (target : List ℕ)
    → w ≡ now → place ≡ w.place → puts ≡ w.puts → markers ≡ w.markers → IsSeen facts w.held held
    → IsMarkTold facts at buffer target now (record w { place = place; puts = puts; held = held; markers = markers })
nobody {facts} {w} {now} {place} {puts} {markers} held at buffer target is p q m s =
    subst (λ (v : NetworkState). IsMarkTold facts at buffer target v (record w { place = place; puts = puts; held = held; markers = markers })) is
    (NobodyIsTold held s (λ i. let v : NetworkState = record w { place = p i; puts = q i; held = held; markers = m i } in v))

others-alike : (held : List Change) (target : List ℕ) (at : ℕ) (old new : List Guest)
    → AreOthersToldBy (hears_batch held (Entered target ∷ [])) at old new → AreOthersToldBy (hears_marker held target) at old new
others-alike held target at old new k =
    subst (λ (h : Guest → Guest). AreOthersToldBy h at old new) (λ i g. as-batch held target g i) k

pub others_told : {facts : NodeFacts} {w now new : NetworkState} {place : ℕ} {puts : List Change} {markers : List MarkerTold} {buffer : Buffer} {marker : Option ℕ} (held : List Change) (at : ℕ) (target : List ℕ)
    → w ≡ now → place ≡ w.place → puts ≡ w.puts → marker ≡ mark held buffer → markers ≡ marker_noted buffer marker w.markers
    → new ≡ (let v : NetworkState = record w { place = place; puts = puts; held = held; markers = markers; guests = new.guests } in v)
    → IsSeen facts w.held held → AreOthersToldBy (hears_batch held (Entered target ∷ [])) at w.guests new.guests
    → IsMarkTold facts at buffer target now new
others_told {facts} {w} {now} {new} {place} {puts} {markers} {buffer} {marker} held at target is p q k m e s o =
    subst (λ (v : NetworkState). IsMarkTold facts at buffer target v new) is
    (OthersAreTold held s (others-alike held target at w.guests new.guests o)
    (e ∙ (λ i. let v : NetworkState = record w {
      place = p i;
      puts = q i;
      held = held;
      markers = (m ∙ ap (λ (x : Option ℕ). marker_noted buffer x w.markers) k) i;
      guests = new.guests;
    } in v)))

-- the marker that was read is that of the target
pub marked_so : {w now : NetworkState} {buffer : Buffer} {marker : Option ℕ} (held : List Change) (target : List ℕ) → w ≡ now
    → buffer ≡ buffer_of now.config.account now.config.network target → marker ≡ mark held buffer
    → AreMarked held marker w.config.account w.config.network (Entered target ∷ [])
marked_so {w} {now} {buffer} {marker} held target is b m =
    let own : buffer ≡ buffer_of w.config.account w.config.network target =
    subst (λ (v : NetworkState). buffer ≡ buffer_of v.config.account v.config.network target) (sym is) b in
    (λ has. ap (mark held) (sym own) ∙ sym m, tt)

-- by what right the others are told it, once the node was seen again
pub may_tell : {facts : NodeFacts} {w now : NetworkState} (held : List Change) (at : ℕ) (target : List ℕ) → w ≡ now
    → ((later : List Change) → ∥ IsSeen facts now.held later ∥₁ → (other : ℕ) (g : Guest) (f : Facts) → at ≢ other → slice_get now.guests other ≡ Some g
    → g.is_gone ≡ false → facts_in g.session ≡ Some f → ∥ IsToldToClient facts g.serial g.received (g.told ++ marker_text later f target) ∥₁)
    → ∥ IsSeen facts w.held held ∥₁
    → (other : ℕ) (g : Guest) (f : Facts) → at ≢ other → slice_get w.guests other ≡ Some g → g.is_gone ≡ false → facts_in g.session ≡ Some f
    → ∥ IsToldToClient facts g.serial g.received (g.told ++ told_to held f g.nick (Entered target ∷ [])) ∥₁
may_tell {facts} {w} {now} held at target is may s other g f different spot gone has =
    subst (λ (t : List ℕ). ∥ IsToldToClient facts g.serial g.received (g.told ++ t) ∥₁) (sym (append-nil (marker_text held f target)))
    (may held (subst (λ (v : NetworkState). ∥ IsSeen facts v.held held ∥₁) is s) other g f different
    (ap (λ (v : NetworkState). slice_get v.guests other) (sym is) ∙ spot) gone has)

-- ---- it is put

pub may_put_mark : {facts : NodeFacts} (w : NetworkState) {place : ℕ} {m : Mark} {changes : List Change} → place < length w.guests
    → ((g : Guest) → slice_get w.guests place ≡ Some g → IsNextMark w.config m g) → changes ≡ m.change ∷ []
    → IsReached facts w → MayBePutFor facts w.place w.puts w.held changes
may_put_mark w {place} {m} within next e r =
    let t : (g : Guest) × (slice_get w.guests place ≡ Some g) = there w.guests place within in
    let n : IsNextMark w.config m t.0 = next t.0 t.1 in
    record {
      world = w;
      is_reached = r;
      is_place = refl;
      is_puts = refl;
      is_held = refl;
      is_next = OfClient place t.0 m.change n.more t.1 n.is_there n.is_next e;
    }

get-set : (guests : List Guest) (place : ℕ) (g new : Guest) → slice_get guests place ≡ Some g → slice_get (slice_set guests place new) place ≡ Some new
get-set [] place g new at = absurd (cc at)
get-set (o ∷ guests) zero g new at = refl
get-set (o ∷ guests) (suc place) g new at = get-set guests place g new at

get-other : (guests : List Guest) (one other : ℕ) (g : Guest) → one ≢ other → slice_get (slice_set guests one g) other ≡ slice_get guests other
get-other [] one other g different = refl
get-other (o ∷ guests) zero zero g different = absurd (different refl)
get-other (o ∷ guests) zero (suc other) g different = refl
get-other (o ∷ guests) (suc one) zero g different = refl
get-other (o ∷ guests) (suc one) (suc other) g different = get-other guests one other g (λ e. different (ap suc e))

take-none : (n : ℕ) → take {A = Change} n [] ≡ []
take-none zero = refl
take-none (suc n) = refl

-- the network once the change is put, and the client has done it
waiting : NetworkState → ℕ → Guest → Change → List Effect → NetworkState
waiting w place g change more = record w { puts = w.puts ++ change ∷ []; guests = slice_set w.guests place (record g { todo = more }) }

waits-so : (facts : NodeFacts) (w : NetworkState) (place : ℕ) (g : Guest) (change : Change) (more : List Effect) → slice_get w.guests place ≡ Some g
    → g.is_gone ≡ false → g.todo ≡ Put change ∷ more → facts.put w.place (w.puts ++ change ∷ [])
    → Leads facts w (waiting w place g change more)
unfolding waiting
waits-so facts w place g change more at here next p =
    happens (MarkWaits place)
    (subst (λ (o : Option Guest). IsTrueOfOption (λ h. IsThere h × IsMarkPut facts w h.todo) o) (sym at)
    (here, subst (λ (t : List Effect). IsMarkPut facts w t) (sym next) p))
    (sym (ap (after_waiting_mark_of w place) at ∙ ap (after_waiting_mark w place g) next))

-- it was put in part, and the client is gone
part-fell : (facts : NodeFacts) (w : NetworkState) (place count : ℕ) (g : Guest) (change : Change) (more : List Effect) (held : List Change)
    → slice_get w.guests place ≡ Some g → g.is_gone ≡ false → g.todo ≡ Put change ∷ more
    → IsSeen facts w.held held → facts.put w.place (w.puts ++ take count (change ∷ []))
    → Leads facts w (record w { puts = w.puts ++ take count (change ∷ []); held = held; guests = slice_set w.guests place (fallen g) })
unfolding waiting
part-fell facts w place zero g change more held at here next s p =
    subst (λ (l : List Change). Leads facts w (record w { puts = l; held = held; guests = slice_set w.guests place (fallen g) })) (sym (append-nil w.puts))
    (and_then (sees s) (client_leads {w = record w { held = held }} place (Falls ∷ []) at (tt, tt) refl))
part-fell facts w place (suc n) g change more held at here next s p =
    let one : take (suc n) (change ∷ []) ≡ change ∷ [] = ap (λ (l : List Change). change ∷ l) (take-none n) in
    let done : Guest = record g { todo = more } in
    let mid : NetworkState = record w { puts = w.puts ++ change ∷ []; held = held; guests = slice_set w.guests place done } in
    let put : facts.put w.place (w.puts ++ change ∷ []) = subst (λ (l : List Change). facts.put w.place (w.puts ++ l)) one p in
    let whole : Leads facts w (record mid { guests = slice_set (slice_set w.guests place done) place (fallen g) }) =
    and_then (waits-so facts w place g change more at here next put)
    (and_then (sees {w = waiting w place g change more} s)
    (client_leads {w = mid} place (Falls ∷ []) (get-set w.guests place g done at) (tt, tt) refl)) in
    subst (λ (v : NetworkState). Leads facts w v)
    (λ i. let v : NetworkState = record w {
      puts = w.puts ++ sym one i;
      held = held;
      guests = set-set w.guests place done (fallen g) i;
    } in v) whole

pub not_published : {facts : NodeFacts} {old mid w : NetworkState} {place count : ℕ} {m : Mark} {changes : List Change} {g new : Guest} → place < length old.guests
    → ((h : Guest) → slice_get old.guests place ≡ Some h → IsNextMark old.config m h) → changes ≡ m.change ∷ []
    → w ≡ mid → g ≡ slice_index_or w.guests place g → new ≡ fallen g
    → ArePutInPart facts count changes old mid
    → Leads facts old (record w { guests = slice_set w.guests place new })
not_published {facts} {old} {mid} {w} {place} {count} {m} {changes} {g} {new} within next e is at fell k =
    let t : (h : Guest) × (slice_get old.guests place ≡ Some h) = there old.guests place within in
    let n : IsNextMark old.config m t.0 = next t.0 t.1 in
    let all : w ≡ record old { puts = old.puts ++ take count changes; held = k.held } = is ∙ k.is_new in
    let same : g ≡ t.0 = at ∙ ap (λ (v : NetworkState). slice_index_or v.guests place g) all ∙ get_or_from_slice_get old.guests place t.0 g t.1 in
    let part : Leads facts old (record old { puts = old.puts ++ take count (m.change ∷ []); held = k.held; guests = slice_set old.guests place (fallen t.0) }) =
    part-fell facts old place count t.0 m.change n.more k.held t.1 n.is_there n.is_next k.is_seen
    (subst (λ (l : List Change). facts.put old.place (old.puts ++ take count l)) e k.is_put) in
    subst (λ (v : NetworkState). Leads facts old v)
    (sym (ap (λ (v : NetworkState). let x : NetworkState = record v { guests = slice_set v.guests place new } in x) all
    ∙ (λ i. let v : NetworkState = record old {
      puts = old.puts ++ take count (e i);
      held = k.held;
      guests = slice_set old.guests place ((fell ∙ ap fallen same) i);
    } in v))) part

-- ---- it is published

-- the network then
pub published : NetworkState → List Change → ℕ → Guest → Change → List Effect → NetworkState
published w others place g change more = record w {
  puts = w.puts ++ change ∷ [];
  held = (w.held ++ others) ++ change ∷ [];
  guests = slice_set w.guests place (record g { todo = more });
}

-- the marker was put and published, and the client at that place has done it
pub record IsMarkIn (facts : NodeFacts) (place : ℕ) (m : Mark) (old new : NetworkState) : Type 0 where
  pub others : List Change
  pub g : Guest
  pub more : List Effect
  pub at : ℕ
  pub is_at : slice_get old.guests place ≡ Some g
  pub is_there : g.is_gone ≡ false
  pub is_next : g.todo ≡ Put (Marked m.buffer at) ∷ more
  pub is_target : m.target ≡ m.buffer.target
  pub is_seen : IsSeen facts old.held (old.held ++ others)
  pub is_put : facts.put old.place (old.puts ++ Marked m.buffer at ∷ [])
  pub is_held : facts.held ((old.held ++ others) ++ Marked m.buffer at ∷ [])
  pub is_new : new ≡ published old others place g (Marked m.buffer at) more

pub mark_in : {facts : NodeFacts} {old mid w : NetworkState} {place : ℕ} {m : Mark} {changes : List Change} {g new : Guest} → place < length old.guests
    → ((h : Guest) → slice_get old.guests place ≡ Some h → IsNextMark old.config m h) → changes ≡ m.change ∷ []
    → w ≡ mid → g ≡ slice_index_or w.guests place g → new ≡ record g { todo = after_act g.todo }
    → ArePutBehind facts changes old mid
    → IsMarkIn facts place m old (record w { guests = slice_set w.guests place new })
unfolding published
mark_in {facts} {old} {mid} {w} {place} {m} {changes} {g} {new} within next e is at done k =
    let t : (h : Guest) × (slice_get old.guests place ≡ Some h) = there old.guests place within in
    let n : IsNextMark old.config m t.0 = next t.0 t.1 in
    let change : m.change ≡ Marked m.buffer n.is_mark.at = n.is_mark.is_change in
    let one : changes ≡ Marked m.buffer n.is_mark.at ∷ [] = e ∙ ap (λ (c : Change). c ∷ []) change in
    let todo : t.0.todo ≡ Put (Marked m.buffer n.is_mark.at) ∷ n.more = n.is_next ∙ ap (λ (c : Change). Put c ∷ n.more) change in
    let put : ArePut facts old.place old.puts (old.held ++ k.others) (Marked m.buffer n.is_mark.at ∷ []) =
    subst (λ (l : List Change). ArePut facts old.place old.puts (old.held ++ k.others) l) one k.are_put in
    let all : w ≡ record old { puts = old.puts ++ changes; held = (old.held ++ k.others) ++ changes } = is ∙ k.is_new in
    let same : g ≡ t.0 = at ∙ ap (λ (v : NetworkState). slice_index_or v.guests place g) all ∙ get_or_from_slice_get old.guests place t.0 g t.1 in
    let after : new ≡ (let h : Guest = record t.0 { todo = n.more } in h) =
    done ∙ ap (λ (h : Guest). let x : Guest = record h { todo = after_act h.todo } in x) same
    ∙ ap (λ (l : List Effect). let x : Guest = record t.0 { todo = after_act l } in x) todo in
    record {
      others = k.others;
      g = t.0;
      more = n.more;
      at = n.is_mark.at;
      is_at = t.1;
      is_there = n.is_there;
      is_next = todo;
      is_target = n.is_mark.is_target;
      is_seen = k.is_seen;
      is_put = put.0;
      is_held = put.1;
      is_new = ap (λ (v : NetworkState). let x : NetworkState = record v { guests = slice_set v.guests place new } in x) all
          ∙ (λ i. let v : NetworkState = record old {
            puts = old.puts ++ one i;
            held = (old.held ++ k.others) ++ one i;
            guests = slice_set old.guests place (after i);
          } in v);
    }

-- the buffer is one of the network
pub buffer_so : (old : NetworkState) {mid w : NetworkState} {place : ℕ} {m : Mark} → place < length old.guests
    → ((h : Guest) → slice_get old.guests place ≡ Some h → IsNextMark old.config m h)
    → w ≡ mid → mid ≡ (let v : NetworkState = record old { puts = mid.puts; held = mid.held } in v)
    → m.buffer ≡ buffer_of w.config.account w.config.network m.target
buffer_so old {mid} {w} {place} {m} within next is e =
    let t : (h : Guest) × (slice_get old.guests place ≡ Some h) = there old.guests place within in
    let n : IsNextMark old.config m t.0 = next t.0 t.1 in
    n.is_mark.is_buffer ∙ ap (λ (v : NetworkState). buffer_of v.config.account v.config.network m.target) (sym (is ∙ e))

-- and is told to nobody
in-leads : {facts : NodeFacts} {place : ℕ} {m : Mark} {old new : NetworkState} → IsMarkIn facts place m old new → Leads facts old new
unfolding published waiting
in-leads {facts} {place} {m} {old} {new} k =
    let w : NetworkState = record old { held = old.held ++ k.others } in
    subst (λ (v : NetworkState). Leads facts old v) (sym k.is_new)
    (and_then (sees k.is_seen)
    (and_then (waits-so facts w place k.g (Marked m.buffer k.at) k.more k.is_at k.is_there k.is_next k.is_put)
    (happens {old = waiting w place k.g (Marked m.buffer k.at) k.more} (Others (Marked m.buffer k.at ∷ [])) k.is_held refl)))

behind : (facts : NodeFacts) (held later : List Change) → facts.held (held ++ later) → AreHeldBehind facts held later
behind facts held [] h = tt
behind facts held (c ∷ later) h = h

later-of : {facts : NodeFacts} {old new : List Change} → IsSeen facts old new → (later : List Change) × (new ≡ old ++ later) × AreHeldBehind facts old later
later-of {facts} {old} (Same e) = ([], e ∙ sym (append-nil old), tt)
later-of {facts} {old} {new} (More changes e h) = (changes, e, behind facts old changes (subst facts.held e h))

-- and is told to those of the others that fit
marked : NetworkState → List Change → ℕ → Guest → Buffer → ℕ → List Effect → List Change → List Bool → NetworkState
marked w others place g buffer at more later fits =
    let held = ((w.held ++ others) ++ Marked buffer at ∷ []) ++ later in
    record w {
      puts = w.puts ++ Marked buffer at ∷ [];
      held = held;
      markers = marker_noted buffer (mark held buffer) w.markers;
      guests = slice_set (told_by (hears_marker held buffer.target) fits w.guests) place (record g { todo = more });
    }

marks-lead : {facts : NodeFacts} {place : ℕ} {m : Mark} {old new : NetworkState} (k : IsMarkIn facts place m old new) (later : List Change) (fits : List Bool)
    → length fits ≡ length old.guests → AreHeldBehind facts ((old.held ++ k.others) ++ Marked m.buffer k.at ∷ []) later
    → Leads facts old (marked old k.others place k.g m.buffer k.at k.more later fits)
unfolding marked
marks-lead {facts} {place} {m} {old} k later fits count h =
    let w : NetworkState = record old { held = old.held ++ k.others } in
    and_then (sees k.is_seen)
    (happens {old = w} (Marks place later fits) (
      count,
      subst (λ (o : Option Guest). IsTrueOfOption (λ x. IsThere x × IsMarkPut facts w x.todo × IsMarkHeld facts w later x.todo) o) (sym k.is_at) (
        k.is_there,
        subst (λ (t : List Effect). IsMarkPut facts w t) (sym k.is_next) k.is_put,
        subst (λ (t : List Effect). IsMarkHeld facts w later t) (sym k.is_next) (k.is_held, h),
      ),
    )
    (sym (ap (after_marking_of w place later fits) k.is_at ∙ ap (after_marking w place later fits k.g) k.is_next)))

-- who is at that place is told nothing
told-set : (hears : Guest → Guest) (fits : List Bool) (guests : List Guest) (place : ℕ) (g h : Guest)
    → slice_set (told_by hears fits (slice_set guests place g)) place h ≡ slice_set (told_by hears fits guests) place h
told-set hears [] guests place g h = set-set guests place g h
told-set hears (b ∷ fits) [] place g h = refl
told-set hears (true ∷ fits) (o ∷ guests) zero g h = refl
told-set hears (false ∷ fits) (o ∷ guests) zero g h = refl
told-set hears (true ∷ fits) (o ∷ guests) (suc place) g h = ap (λ gs. hears o ∷ gs) (told-set hears fits guests place g h)
told-set hears (false ∷ fits) (o ∷ guests) (suc place) g h = ap (λ gs. fallen o ∷ gs) (told-set hears fits guests place g h)

told-so : {facts : NodeFacts} {place : ℕ} {m : Mark} {old new last : NetworkState} (k : IsMarkIn facts place m old new)
    → IsMarkTold facts place m.buffer m.buffer.target (published old k.others place k.g (Marked m.buffer k.at) k.more) last
    → Leads facts old (published old k.others place k.g (Marked m.buffer k.at) k.more) → Leads facts old last
unfolding published marked
told-so {facts} {place} {m} {old} {new} {last} k (NobodyIsTold held s e) l =
    and_then l (subst (λ (v : NetworkState). Leads facts (published old k.others place k.g (Marked m.buffer k.at) k.more) v) (sym e)
    (sees {w = published old k.others place k.g (Marked m.buffer k.at) k.more} s))
told-so {facts} {place} {m} {old} {new} {last} k (OthersAreTold held s o e) l =
    let done : Guest = record k.g { todo = k.more } in
    let b : (later : List Change) × (held ≡ ((old.held ++ k.others) ++ Marked m.buffer k.at ∷ []) ++ later) × AreHeldBehind facts ((old.held ++ k.others) ++ Marked m.buffer k.at ∷ []) later =
    later-of s in
    let guests : last.guests ≡ slice_set (told_by (hears_marker held m.buffer.target) o.fits old.guests) place done =
    o.is_new done (get-set old.guests place k.g done k.is_at) ∙ told-set (hears_marker held m.buffer.target) o.fits old.guests place done done in
    let is : last ≡ marked old k.others place k.g m.buffer k.at k.more b.0 o.fits =
    e ∙ (λ i. let v : NetworkState = record old {
      puts = old.puts ++ Marked m.buffer k.at ∷ [];
      held = b.1 i;
      markers = marker_noted m.buffer (mark (b.1 i) m.buffer) old.markers;
      guests = (guests ∙ ap (λ (x : List Change). slice_set (told_by (hears_marker x m.buffer.target) o.fits old.guests) place done) b.1) i;
    } in v) in
    subst (λ (v : NetworkState). Leads facts old v) (sym is)
    (marks-lead k b.0 o.fits (o.is_count ∙ length-set old.guests place done) b.2)

-- it was put and published, and then told
pub put_and_told : {facts : NodeFacts} {place : ℕ} {m : Mark} {old new last : NetworkState} → IsMarkIn facts place m old new
    → IsMarkTold facts place m.buffer m.target new last → Leads facts old last
put_and_told {facts} {place} {m} {old} {new} {last} k t =
    told-so k
    (subst (λ (x : List ℕ). IsMarkTold facts place m.buffer x (published old k.others place k.g (Marked m.buffer k.at) k.more) last) k.is_target
    (subst (λ (v : NetworkState). IsMarkTold facts place m.buffer m.target v last) k.is_new t))
    (subst (λ (v : NetworkState). Leads facts old v) k.is_new (in-leads k))

-- ---- by what right the others are told it

marker-there : (held : List Change) (target : List ℕ) (g : Guest) (f : Facts) → facts_in g.session ≡ Some f → g.is_gone ≡ false
    → hears_marker held target g ≡ record g { told = g.told ++ marker_text held f target }
marker-there held target g f e gone =
    ap (with_text (λ x. marker_text held x target) g) e
    ∙ ap (λ (b : Bool). if b then g else (let h : Guest = record g { told = g.told ++ marker_text held f target } in h)) gone

all-fit : List Guest → List Bool
all-fit [] = []
all-fit (g ∷ guests) = true ∷ all-fit guests

all-fit-length : (guests : List Guest) → length (all-fit guests) ≡ length guests
unfolding all-fit
all-fit-length [] = refl
all-fit-length (g ∷ guests) = ap suc (all-fit-length guests)

told-get : (hears : Guest → Guest) (guests : List Guest) (place : ℕ) (g : Guest)
    → slice_get guests place ≡ Some g → slice_get (told_by hears (all-fit guests) guests) place ≡ Some (hears g)
unfolding all-fit
told-get hears [] place g h = absurd (cc h)
told-get hears (o ∷ guests) zero g h = ap (λ v. Some (hears v)) (get_or_from_slice_get (o ∷ guests) zero g g h)
told-get hears (o ∷ guests) (suc place) g h = told-get hears guests place g h

-- each of them, once it is put and published and the node was seen again
hears-it : {facts : NodeFacts} {place : ℕ} {m : Mark} {old new : NetworkState} (k : IsMarkIn facts place m old new) → IsReached facts old
    → (held : List Change) → IsSeen facts ((old.held ++ k.others) ++ Marked m.buffer k.at ∷ []) held
    → (other : ℕ) (g : Guest) (f : Facts) → place ≢ other → slice_get old.guests other ≡ Some g → g.is_gone ≡ false → facts_in g.session ≡ Some f
    → IsToldToClient facts g.serial g.received (g.told ++ marker_text held f m.buffer.target)
unfolding marked
hears-it {facts} {place} {m} {old} k r held s other g f different at gone has =
    let b : (later : List Change) × (held ≡ ((old.held ++ k.others) ++ Marked m.buffer k.at ∷ []) ++ later) × AreHeldBehind facts ((old.held ++ k.others) ++ Marked m.buffer k.at ∷ []) later =
    later-of s in
    let full : List Change = ((old.held ++ k.others) ++ Marked m.buffer k.at ∷ []) ++ b.0 in
    let heard : Guest = record g { told = g.told ++ marker_text full f m.buffer.target } in
    let fits : List Bool = all-fit old.guests in
    subst (λ (x : List Change). IsToldToClient facts g.serial g.received (g.told ++ marker_text x f m.buffer.target)) (sym b.1)
    (AsClient (marked old k.others place k.g m.buffer k.at k.more b.0 fits) other heard
    (reached r (marks-lead k b.0 fits (all-fit-length old.guests) b.2))
    (get-other (told_by (hears_marker full m.buffer.target) fits old.guests) place other (record k.g { todo = k.more }) different
    ∙ told-get (hears_marker full m.buffer.target) old.guests other g at
    ∙ ap (λ (v : Guest). Some v) (marker-there full m.buffer.target g f has gone))
    refl refl ([], append-nil (g.told ++ marker_text full f m.buffer.target)))

pub may_hear_mark : {facts : NodeFacts} {place : ℕ} {m : Mark} {old new : NetworkState} → ∥ IsReached facts old ∥₁ → ∥ IsMarkIn facts place m old new ∥₁
    → (held : List Change) → ∥ IsSeen facts new.held held ∥₁
    → (other : ℕ) (g : Guest) (f : Facts) → place ≢ other → slice_get new.guests other ≡ Some g → g.is_gone ≡ false → facts_in g.session ≡ Some f
    → ∥ IsToldToClient facts g.serial g.received (g.told ++ marker_text held f m.target) ∥₁
unfolding published
may_hear_mark {facts} {place} {m} {old} {new} reach put held seen other g f different at gone has =
    let both : ∥ IsReached facts old × IsSeen facts new.held held ∥₁ = ∥∥₁_map₂ reach seen (λ r s. (r, s)) in
    ∥∥₁_map₂ put both (λ k q.
    subst (λ (x : List ℕ). IsToldToClient facts g.serial g.received (g.told ++ marker_text held f x)) (sym k.is_target)
    (hears-it k q.0 held (subst (λ (v : NetworkState). IsSeen facts v.held held) k.is_new q.1) other g f different
    (sym (get-other old.guests place other (record k.g { todo = k.more }) different)
    ∙ ap (λ (v : NetworkState). slice_get v.guests other) (sym k.is_new) ∙ at) gone has))
