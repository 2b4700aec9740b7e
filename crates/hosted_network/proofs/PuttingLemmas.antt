-- What comes of a put.
use Rattle.std.proofs.Common.{◌≡◌, ◌<◌, ◌==◌, Bool, true, false, ℕ, zero, suc, List, [], ◌∷◌, ◌++◌, Option, Some, None, Result, Ok, Err, IfErr, OnOk, OnErr, if◌then◌else◌, refl, sym, ap, ◌∙◌, subst, arith, rules, tests, length, take, append-nil}
use Rattle.std.specs.Prelude.{slice_get, ◌≢◌}
use Rattle.std.proofs.lemmas.Option.{slice_get_within, get_or_from_slice_get}
use Rattle.std.proofs.Math.Logic.{∥∥₁_map₂, ∥∥₁_elim, ∥∥₁_prop}
use Rattle.std.proofs.Props.{props}
use Rattle.chat_change.specs.declared.change.Change.{Change}
use Rattle.chat_query.specs.declared.facts.Facts.{Facts}
use Rattle.client_session.specs.Session.{facts_in}
use Rattle.network_log.specs.Facts.{NodeFacts}
use Rattle.network_log.specs.Following.{AreToldBy}
use Rattle.network_log.specs.Guest.{Guest}
use Rattle.network_log.specs.Host.{Host, BatchEntry}
use Rattle.network_log.specs.NetworkState.{NetworkState, changes_of, first_entries, told_by}
use Rattle.network_log.specs.Log.{Puts, PutsFirst, step, after_put_of_first, without_server}
use Rattle.network_log.specs.Putting.{ArePublished, IsSeen, Same, More, MayBePutFor, OfServer}
use Rattle.network_log.specs.Share.{hears_batch, told_to, nick_by_all}
use Rattle.network_log.specs.Telling.{IsToldToClient, AsClient}
use Rattle.network_log.specs.Truth.{AreHeldBehind, ArePut, IsReached, Leads}
use Rattle.node_ports.specs.declared.node.NotPublished.{NotPublished}
use Rattle.hosted_network.specs.Putting.{ArePutBehind, ArePutInPart, IsToldSeen}
use Rattle.hosted_network.proofs.LogLemmas.{and_then, happens, reached, sees}
use Rattle.hosted_network.proofs.TellingLemmas.{as_many, heard-there}

-- ---- evidence

put-by : (facts : NodeFacts) (place : ℕ) (puts held changes : List Change) → facts.put place (puts ++ changes) → facts.held (held ++ changes) → ArePut facts place puts held changes
put-by facts place puts held [] p h = tt
put-by facts place puts held (c ∷ changes) p h = (p, h)

behind : (facts : NodeFacts) (held later : List Change) → facts.held (held ++ later) → AreHeldBehind facts held later
behind facts held [] h = tt
behind facts held (c ∷ later) h = h

pub put_behind : {facts : NodeFacts} {w now : NetworkState} {place : ℕ} {changes puts held : List Change} → w ≡ now → place ≡ w.place
    → puts ≡ w.puts ++ changes → ArePublished facts w.held changes held → facts.put w.place puts
    → ArePutBehind facts changes now (record w { place = place; puts = puts; held = held })
put_behind {facts} {w} {place = place} {changes} {puts} {held} is p e k q =
    subst (λ (v : NetworkState). ArePutBehind facts changes v (record w { place = place; puts = puts; held = held })) is (record {
      others = k.others;
      is_seen = k.is_seen;
      are_put = put-by facts w.place w.puts (w.held ++ k.others) changes (subst (facts.put w.place) e q) (subst facts.held k.is_new k.is_held);
      is_new = (λ i. let v : NetworkState = record w { place = p i; puts = e i; held = k.is_new i } in v);
    })

pub put_in_part : {facts : NodeFacts} {w now : NetworkState} {place : ℕ} {changes puts held : List Change} (count : ℕ) → w ≡ now → place ≡ w.place
    → puts ≡ w.puts ++ take count changes → IsSeen facts w.held held → facts.put w.place puts
    → ArePutInPart facts count changes now (record w { place = place; puts = puts; held = held })
put_in_part {facts} {w} {place = place} {changes} {puts} {held} count is p e s q =
    subst (λ (v : NetworkState). ArePutInPart facts count changes v (record w { place = place; puts = puts; held = held })) is (record {
      held = held;
      is_seen = s;
      is_put = subst (facts.put w.place) e q;
      is_new = (λ i. let v : NetworkState = record w { place = p i; puts = e i; held = held } in v);
    })

-- where all of it is put
pub all_put : {w now : NetworkState} {place : ℕ} {puts : List Change} {T E : Type 0} (facts : NodeFacts) (changes held : List Change) (result : Result T E) → w ≡ now → place ≡ w.place
    → OnOk result (puts ≡ w.puts ++ changes) → OnOk result ∥ ArePublished facts w.held changes held ∥₁ → ∥ facts.put w.place puts ∥₁
    → OnOk result ∥ ArePutBehind facts changes now (record w { place = place; puts = puts; held = held }) ∥₁
all_put facts changes held (Ok u) is p e k q = ∥∥₁_map₂ k q (put_behind is p e)
all_put facts changes held (Err f) is p e k q = tt

-- and where the first of it is
pub first_put : {w now : NetworkState} {place : ℕ} {puts : List Change} {T : Type 0} (facts : NodeFacts) (changes held : List Change) (result : Result T NotPublished) → w ≡ now → place ≡ w.place
    → IfErr result (λ fault. puts ≡ w.puts ++ take fault.count changes) → OnErr result ∥ IsSeen facts w.held held ∥₁ → ∥ facts.put w.place puts ∥₁
    → IfErr result (λ fault. ∥ ArePutInPart facts fault.count changes now (record w { place = place; puts = puts; held = held }) ∥₁)
first_put facts changes held (Ok u) is p e s q = tt
first_put facts changes held (Err f) is p e s q = ∥∥₁_map₂ s q (put_in_part f.count is p e)

-- the node was seen again, and then each client was told
pub told_seen : {facts : NodeFacts} {old mid new : NetworkState} {batch : List BatchEntry} → mid ≡ record old { held = mid.held } → new ≡ record mid { guests = new.guests }
    → IsSeen facts old.held mid.held → AreToldBy (hears_batch mid.held batch) (length mid.guests) mid.guests new.guests
    → IsToldSeen facts batch old new
told_seen {old = old} {mid} {new} {batch} m n s t = record {
  held = mid.held;
  is_seen = s;
  are_told = subst (λ (l : List Guest). AreToldBy (hears_batch mid.held batch) (length l) l new.guests) (ap (λ (v : NetworkState). v.guests) m) t;
  is_new = n ∙ ap (λ (v : NetworkState). let x : NetworkState = record v { guests = new.guests } in x) m;
}

-- what came of the server's lines may be put
pub may_put : {facts : NodeFacts} (w : NetworkState) {batch : List BatchEntry} {changes : List Change} → changes ≡ changes_of batch
    → IsReached facts (record w { batch = batch }) → MayBePutFor facts w.place w.puts w.held changes
may_put w {batch = batch} e r =
    record { world = record w { batch = batch }; is_reached = r; is_place = refl; is_puts = refl; is_held = refl; is_next = OfServer (sym e) }

-- ---- events

-- what it comes to where it is put, and told to those that fit
put_by : NetworkState → List BatchEntry → List Change → List Change → List Bool → NetworkState
put_by w batch others later fits =
    let held = ((w.held ++ others) ++ changes_of batch) ++ later in
    record w { batch = []; puts = w.puts ++ changes_of batch; held = held; guests = told_by (hears_batch held batch) fits w.guests }

later_of : {facts : NodeFacts} {old new : List Change} → IsSeen facts old new → (later : List Change) × (new ≡ old ++ later) × AreHeldBehind facts old later
later_of {facts} {old} (Same e) = ([], e ∙ sym (append-nil old), tt)
later_of {facts} {old} {new} (More changes e h) = (changes, e, behind facts old changes (subst facts.held e h))

puts_so : (facts : NodeFacts) (w : NetworkState) (batch : List BatchEntry) (others later : List Change) (fits : List Bool) → length fits ≡ length w.guests
    → IsSeen facts w.held (w.held ++ others) → ArePut facts w.place w.puts (w.held ++ others) (changes_of batch)
    → AreHeldBehind facts ((w.held ++ others) ++ changes_of batch) later
    → Leads facts (record w { batch = batch }) (put_by w batch others later fits)
unfolding put_by
puts_so facts w batch others later fits count s p l =
    and_then (sees {w = record w { batch = batch }} s) (happens (Puts later fits) (count, p, l) refl)

-- the network once a batch was put
put_state : NetworkState → List Change → List Change → NetworkState
put_state w others changes = record w { puts = w.puts ++ changes; held = (w.held ++ others) ++ changes }

told_so : (facts : NodeFacts) (w new : NetworkState) (batch : List BatchEntry) (others : List Change) → w.batch ≡ []
    → IsSeen facts w.held (w.held ++ others) → ArePut facts w.place w.puts (w.held ++ others) (changes_of batch)
    → IsToldSeen facts batch (put_state w others (changes_of batch)) new
    → Leads facts (record w { batch = batch }) new
unfolding put_by put_state
told_so facts w new batch others none s p u =
    let changes : List Change = changes_of batch in
    let l : (later : List Change) × (u.held ≡ ((w.held ++ others) ++ changes) ++ later) × AreHeldBehind facts ((w.held ++ others) ++ changes) later = later_of u.is_seen in
    let fits : List Bool = u.are_told.fits in
    let is : new ≡ put_by w batch others l.0 fits =
    u.is_new ∙ (λ i. let v : NetworkState = record w {
      batch = none i;
      puts = w.puts ++ changes;
      held = l.1 i;
      guests = (u.are_told.is_new ∙ ap (λ (h : List Change). told_by (hears_batch h batch) fits w.guests) l.1) i;
    } in v) in
    subst (λ (v : NetworkState). Leads facts (record w { batch = batch }) v) (sym is)
    (puts_so facts w batch others l.0 fits u.are_told.is_count s p l.2)

-- a batch was put, and then told
pub flushed : {facts : NodeFacts} {w mid new : NetworkState} {batch told : List BatchEntry} {changes : List Change} → w.batch ≡ [] → changes ≡ changes_of batch → told ≡ batch
    → ArePutBehind facts changes w mid → IsToldSeen facts told mid new
    → Leads facts (record w { batch = batch }) new
unfolding put_state
flushed {facts} {w} {mid} {new} {batch} {told} {changes} none e same k t =
    let s : IsToldSeen facts batch mid new = subst (λ (l : List BatchEntry). IsToldSeen facts l mid new) same t in
    told_so facts w new batch k.others none k.is_seen
    (subst (λ (l : List Change). ArePut facts w.place w.puts (w.held ++ k.others) l) e k.are_put)
    (subst (λ (l : List Change). IsToldSeen facts batch (put_state w k.others l) new) e
    (subst (λ (v : NetworkState). IsToldSeen facts batch v new) k.is_new s))

-- what it comes to where so much is put and told
part_by : NetworkState → List BatchEntry → List Change → ℕ → List Bool → NetworkState
part_by w batch held count fits = after_put_of_first count fits (record w { batch = batch; held = held })

parts_so : (facts : NodeFacts) (w : NetworkState) (batch : List BatchEntry) (seen held : List Change) (count : ℕ) (fits : List Bool) → length fits ≡ length w.guests
    → IsSeen facts w.held seen → IsSeen facts seen held → facts.put w.place (w.puts ++ take count (changes_of batch))
    → Leads facts (record w { batch = batch }) (step facts (PutsFirst count fits) (record w { batch = batch; held = held }))
parts_so facts w batch seen held count fits many s t p =
    and_then (sees {w = record w { batch = batch }} s)
    (and_then (sees {w = record w { batch = batch; held = seen }} t) (happens (PutsFirst count fits) (many, p) refl))

-- so much of a batch was put, and told
pub flushed_in_part : {facts : NodeFacts} {w mid new : NetworkState} {batch told : List BatchEntry} {changes : List Change} (count : ℕ) (is_all : Bool) → w.batch ≡ [] → changes ≡ changes_of batch
    → told ≡ first_entries count batch → (count == length changes) ≡ is_all
    → ArePutInPart facts count changes w mid → IsToldSeen facts told mid new
    → Leads facts (record w { batch = batch }) (if is_all then new else without_server new.server new)
unfolding part_by
flushed_in_part {facts} {w} {mid} {new} {batch} {told} {changes} count is_all none e same all k t =
    let s : IsToldSeen facts (first_entries count batch) mid new = subst (λ (l : List BatchEntry). IsToldSeen facts l mid new) same t in
    let u : IsToldSeen facts (first_entries count batch) (record w { puts = w.puts ++ take count changes; held = k.held }) new =
    subst (λ (v : NetworkState). IsToldSeen facts (first_entries count batch) v new) k.is_new s in
    let fits : List Bool = u.are_told.fits in
    let is : new ≡ part_by w batch u.held count fits =
    u.is_new ∙ (λ i. let v : NetworkState = record w { batch = none i; puts = w.puts ++ take count (e i); held = u.held; guests = u.are_told.is_new i } in v) in
    let whole : (count == length (changes_of batch)) ≡ is_all = ap (λ (l : List Change). count == length l) (sym e) ∙ all in
    let done : Leads facts (record w { batch = batch }) (step facts (PutsFirst count fits) (record w { batch = batch; held = u.held })) =
    parts_so facts w batch k.held u.held count fits u.are_told.is_count k.is_seen u.is_seen (subst (λ (l : List Change). facts.put w.place (w.puts ++ take count l)) e k.is_put) in
    subst (λ (v : NetworkState). Leads facts (record w { batch = batch }) v)
    (ap (λ (b : Bool). if b then part_by w batch u.held count fits else without_server w.server (part_by w batch u.held count fits)) whole
    ∙ ap (λ (v : NetworkState). if is_all then v else without_server v.server v) (sym is)) done

pub flushed_wholly : {facts : NodeFacts} {w mid new : NetworkState} {batch told : List BatchEntry} {changes : List Change} (count : ℕ) → w.batch ≡ [] → changes ≡ changes_of batch
    → told ≡ first_entries count batch → count ≡ length changes
    → ArePutInPart facts count changes w mid → IsToldSeen facts told mid new
    → Leads facts (record w { batch = batch }) new
flushed_wholly {changes = changes} count none e same all k t =
    let is : (count == length changes) ≡ true = search (rules, tests) in
    flushed_in_part count true none e same is k t

-- and the server's connection was closed
pub flushed_partly : {facts : NodeFacts} {w mid new last : NetworkState} {batch told : List BatchEntry} {changes : List Change} (count : ℕ) → w.batch ≡ [] → changes ≡ changes_of batch
    → told ≡ first_entries count batch → count ≢ length changes → last ≡ without_server new.server new
    → ArePutInPart facts count changes w mid → IsToldSeen facts told mid new
    → Leads facts (record w { batch = batch }) last
flushed_partly {facts} {w} {batch = batch} {changes = changes} count none e same part l k t =
    let is : (count == length changes) ≡ false = search (rules, tests) in
    subst (λ (v : NetworkState). Leads facts (record w { batch = batch }) v) (sym l) (flushed_in_part count false none e same is k t)

-- ---- each client may be told its share, before the others are

all_fit : List Guest → List Bool
all_fit [] = []
all_fit (g ∷ guests) = true ∷ all_fit guests

all_fit-length : (guests : List Guest) → length (all_fit guests) ≡ length guests
unfolding all_fit
all_fit-length [] = refl
all_fit-length (g ∷ guests) = ap suc (all_fit-length guests)

told-get : (hears : Guest → Guest) (guests : List Guest) (place : ℕ) (g : Guest)
    → slice_get guests place ≡ Some g → slice_get (told_by hears (all_fit guests) guests) place ≡ Some (hears g)
unfolding all_fit
told-get hears [] place g h = let n : place < 0 = slice_get_within [] place g h in absurd (omega (arith, n))
told-get hears (o ∷ guests) zero g h = ap (λ v. Some (hears v)) (get_or_from_slice_get (o ∷ guests) zero g g h)
told-get hears (o ∷ guests) (suc place) g h = told-get hears guests place g h

may_hear : (facts : NodeFacts) (w : NetworkState) (batch : List BatchEntry) (held : List Change) (place : ℕ) (g : Guest) (f : Facts) → slice_get w.guests place ≡ Some g
    → g.is_gone ≡ false → facts_in g.session ≡ Some f → (next : NetworkState) → IsReached facts next
    → next.guests ≡ told_by (hears_batch held batch) (all_fit w.guests) w.guests
    → IsToldToClient facts g.serial g.received (g.told ++ told_to held f g.nick batch)
may_hear facts w batch held place g f at gone has next r e =
    let heard : Guest = record g { told = g.told ++ told_to held f g.nick batch; nick = nick_by_all g.nick batch } in
    AsClient next place heard r
    (ap (λ (l : List Guest). slice_get l place) e ∙ told-get (hears_batch held batch) w.guests place g at ∙ ap (λ (v : Guest). Some v) (heard-there held batch g f has gone))
    refl refl ([], append-nil (g.told ++ told_to held f g.nick batch))

hear_once_put : (facts : NodeFacts) (w mid : NetworkState) (batch : List BatchEntry) (changes held : List Change) (place : ℕ) (g : Guest) (f : Facts) → changes ≡ changes_of batch
    → IsReached facts (record w { batch = batch }) → ArePutBehind facts changes w mid → IsSeen facts mid.held held
    → slice_get mid.guests place ≡ Some g → g.is_gone ≡ false → facts_in g.session ≡ Some f
    → IsToldToClient facts g.serial g.received (g.told ++ told_to held f g.nick batch)
unfolding put_by
hear_once_put facts w mid batch changes held place g f e r k s at gone has =
    let own : ArePut facts w.place w.puts (w.held ++ k.others) (changes_of batch) = subst (λ (l : List Change). ArePut facts w.place w.puts (w.held ++ k.others) l) e k.are_put in
    let here : mid.held ≡ (w.held ++ k.others) ++ changes_of batch = ap (λ (v : NetworkState). v.held) k.is_new ∙ ap (λ (l : List Change). (w.held ++ k.others) ++ l) e in
    let l : (later : List Change) × (held ≡ ((w.held ++ k.others) ++ changes_of batch) ++ later) × AreHeldBehind facts ((w.held ++ k.others) ++ changes_of batch) later =
    later_of (subst (λ (h : List Change). IsSeen facts h held) here s) in
    let fits : List Bool = all_fit w.guests in
    let spot : slice_get w.guests place ≡ Some g = ap (λ (v : NetworkState). slice_get v.guests place) (sym k.is_new) ∙ at in
    may_hear facts w batch held place g f spot gone has (put_by w batch k.others l.0 fits)
    (reached r (puts_so facts w batch k.others l.0 fits (all_fit-length w.guests) k.is_seen own l.2))
    (ap (λ (h : List Change). told_by (hears_batch h batch) fits w.guests) (sym l.1))

-- once what was taken is put, each client may be told its share of it
pub may_be_told : {facts : NodeFacts} {w mid : NetworkState} {batch told : List BatchEntry} {changes : List Change} → changes ≡ changes_of batch → told ≡ batch
    → ∥ IsReached facts (record w { batch = batch }) ∥₁ → ∥ ArePutBehind facts changes w mid ∥₁
    → (held : List Change) → ∥ IsSeen facts mid.held held ∥₁
    → (place : ℕ) (g : Guest) (f : Facts) → slice_get mid.guests place ≡ Some g → g.is_gone ≡ false → facts_in g.session ≡ Some f
    → ∥ IsToldToClient facts g.serial g.received (g.told ++ told_to held f g.nick told) ∥₁
may_be_told {facts} {w} {mid} {batch} {told} {changes} e same r k held s place g f at gone has =
    ∥∥₁_elim r ∥∥₁_prop (λ q. ∥∥₁_map₂ k s (λ p t. subst (λ (l : List BatchEntry). IsToldToClient facts g.serial g.received (g.told ++ told_to held f g.nick l)) (sym same) (hear_once_put facts w mid batch changes held place g f e q p t at gone has)))

first-guests : (v : NetworkState) (count : ℕ) (fits : List Bool) (b : Bool)
    → (if b then after_put_of_first count fits v else without_server v.server (after_put_of_first count fits v)).guests
    ≡ told_by (hears_batch v.held (first_entries count v.batch)) fits v.guests
first-guests v count fits true = refl
first-guests v count fits false = gone-guests (after_put_of_first count fits v) v.server where
  gone-guests : (u : NetworkState) (o : Option Host) → (without_server o u).guests ≡ u.guests
  gone-guests u None = refl
  gone-guests u (Some h) = refl

hear_once_put_in_part : (facts : NodeFacts) (w mid : NetworkState) (batch : List BatchEntry) (changes held : List Change) (count place : ℕ) (g : Guest) (f : Facts) → changes ≡ changes_of batch
    → IsReached facts (record w { batch = batch }) → ArePutInPart facts count changes w mid → IsSeen facts mid.held held
    → slice_get mid.guests place ≡ Some g → g.is_gone ≡ false → facts_in g.session ≡ Some f
    → IsToldToClient facts g.serial g.received (g.told ++ told_to held f g.nick (first_entries count batch))
hear_once_put_in_part facts w mid batch changes held count place g f e r k s at gone has =
    let fits : List Bool = all_fit w.guests in
    let spot : slice_get w.guests place ≡ Some g = ap (λ (v : NetworkState). slice_get v.guests place) (sym k.is_new) ∙ at in
    let t : IsSeen facts k.held held = subst (λ (h : List Change). IsSeen facts h held) (ap (λ (v : NetworkState). v.held) k.is_new) s in
    let v : NetworkState = record w { batch = batch; held = held } in
    may_hear facts w (first_entries count batch) held place g f spot gone has (step facts (PutsFirst count fits) v)
    (reached r (parts_so facts w batch k.held held count fits (all_fit-length w.guests) k.is_seen t (subst (λ (l : List Change). facts.put w.place (w.puts ++ take count l)) e k.is_put)))
    (first-guests v count fits (count == length (changes_of batch)))

pub may_be_told_in_part : {facts : NodeFacts} {w mid : NetworkState} {batch told : List BatchEntry} {changes : List Change} (count : ℕ) → changes ≡ changes_of batch → told ≡ first_entries count batch
    → ∥ IsReached facts (record w { batch = batch }) ∥₁ → ∥ ArePutInPart facts count changes w mid ∥₁
    → (held : List Change) → ∥ IsSeen facts mid.held held ∥₁
    → (place : ℕ) (g : Guest) (f : Facts) → slice_get mid.guests place ≡ Some g → g.is_gone ≡ false → facts_in g.session ≡ Some f
    → ∥ IsToldToClient facts g.serial g.received (g.told ++ told_to held f g.nick told) ∥₁
may_be_told_in_part {facts} {w} {mid} {batch} {told} {changes} count e same r k held s place g f at gone has =
    ∥∥₁_elim r ∥∥₁_prop (λ q. ∥∥₁_map₂ k s (λ p t. subst (λ (l : List BatchEntry). IsToldToClient facts g.serial g.received (g.told ++ told_to held f g.nick l)) (sym same) (hear_once_put_in_part facts w mid batch changes held count place g f e q p t at gone has)))

-- ---- as many clients are there as before

pub as_many_put : {facts : NodeFacts} {changes : List Change} {old new : NetworkState} → ∥ ArePutBehind facts changes old new ∥₁
    → length new.guests ≡ length old.guests
as_many_put k = ∥∥₁_elim k (Prim.hlevel props) (λ p. ap (λ (w : NetworkState). length w.guests) p.is_new)

pub as_many_put_in_part : {facts : NodeFacts} {count : ℕ} {changes : List Change} {old new : NetworkState} → ∥ ArePutInPart facts count changes old new ∥₁
    → length new.guests ≡ length old.guests
as_many_put_in_part k = ∥∥₁_elim k (Prim.hlevel props) (λ p. ap (λ (w : NetworkState). length w.guests) p.is_new)

pub as_many_told : {facts : NodeFacts} {batch : List BatchEntry} {old new : NetworkState} → ∥ IsToldSeen facts batch old new ∥₁
    → length new.guests ≡ length old.guests
as_many_told k = ∥∥₁_elim k (Prim.hlevel props) (λ t. as_many t.are_told)

guests-without : (o : Option Host) (w : NetworkState) → length (without_server o w).guests ≡ length w.guests
guests-without None w = refl
guests-without (Some h) w = refl

pub as_many_without : (old : NetworkState) {new : NetworkState} → new ≡ without_server old.server old → length new.guests ≡ length old.guests
as_many_without old e = ap (λ (w : NetworkState). length w.guests) e ∙ guests-without old.server old
