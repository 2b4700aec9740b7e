-- What happens on a connection in turn, event by event.
use Rattle.std.proofs.Common.{◌≡◌, ℕ, ◌+◌, ◌-◌, Bool, true, false, cond, not, ◌&&◌, ◌||◌, List, [], ◌∷◌, Option, Some, None, refl, sym, ap, ◌∙◌, nat_le, nat_lt, min, arith, add-zero, add_assoc}
use Rattle.std.specs.List.{list_any, count_by}
use Rattle.std.specs.Option.{is_none}
use Rattle.std.proofs.lemmas.List.Sums.{sum_by-cons}
use Rattle.std.proofs.lemmas.Bool.{or_parts}
use Rattle.std.proofs.lemmas.Bool.Decides.{nat_tests}
use Rattle.gossip_link.specs.declared.pace.Pace.{Pace}
use Rattle.gossip_link.specs.declared.pace.UnderWay.{UnderWay}
use Rattle.gossip_link.specs.declared.pace.TheConstants.{ACK_WAIT_MS, MOST_UNANSWERED}
use Rattle.gossip_link.specs.Pace as pace
use Rattle.gossip_link.specs.Course.{PaceEvent, after, after_all, is_hello, is_acknowledgement, is_making, is_packet, is_news, finds_nothing, ends_wait}
use Rattle.gossip_link.specs.Course as event

-- ---- hellos

given_up_greeted : (b : Bool) (p : Pace) → (cond b (record p { is_wanted = true; under_way = None }) p).is_greeted ≡ p.is_greeted
given_up_greeted true p = refl
given_up_greeted false p = refl

greeted_after : (e : PaceEvent) (p : Pace) → is_hello e ≡ false → (after e p).is_greeted ≡ p.is_greeted
greeted_after event.Greeted p h = absurd (cc)
greeted_after event.Published p h = refl
greeted_after (event.Acknowledged upto) p h = refl
greeted_after (event.Ticked now) p h = given_up_greeted (pace.has_waited now p.under_way && nat_lt p.unanswered MOST_UNANSWERED) p
greeted_after (event.Made None now) p h = refl
greeted_after (event.Made (Some to) now) p h = refl

and_no : (a b : Bool) → a ≡ false → (a && b) ≡ false
and_no a b h = rw h

never_greeted : (events : List PaceEvent) (p : Pace) → p.is_greeted ≡ false → list_any is_hello events ≡ false → (after_all events p).is_greeted ≡ false
never_greeted [] p g h = g
never_greeted (e ∷ events) p g h =
    let parts = or_parts (is_hello e) (list_any is_hello events) h in
    never_greeted events (after e p) (greeted_after e p parts.0 ∙ g) parts.1

pub nothing_before : (events : List PaceEvent) → list_any is_hello events ≡ false → pace.is_due (after_all events pace.new) ≡ false
nothing_before events h = and_no (after_all events pace.new).is_greeted _ (never_greeted events pace.new refl h)

pub not_caught_up_before : (events : List PaceEvent) → list_any is_hello events ≡ false → pace.is_caught_up (after_all events pace.new) ≡ false
not_caught_up_before events h = and_no (after_all events pace.new).is_greeted _ (never_greeted events pace.new refl h)

-- ---- one packet at a time

none_due : (a b : Bool) → (a && (b && false)) ≡ true → ⊥
none_due true true h = absurd (cc)
none_due true false h = absurd (cc)
none_due false b h = absurd (cc)

lower : (to upto : ℕ) → nat_le to upto ≡ false → nat_lt upto to ≡ true
lower to upto h = grind (arith, nat_tests)

kept_packet : (b : Bool) (u : UnderWay) → b ≡ true → cond b (Some u) None ≡ Some u
kept_packet b u h = rw h

kept_pace : (a b : Bool) (p : Pace) (u : UnderWay) → a ≡ false → p.under_way ≡ Some u → (cond (a && b) (record p { is_wanted = true; under_way = None }) p).under_way ≡ Some u
kept_pace a b p u h e = rw h e

pub waits : (events : List PaceEvent) (p : Pace) (to since : ℕ) → p.under_way ≡ Some (record { to = to; since = since }) → list_any is_making events ≡ false → pace.is_due (after_all events p) ≡ true → list_any (ends_wait to since) events ≡ true
waits [] p to since u h due =
    absurd (none_due p.is_greeted p.is_wanted (sym (ap (λ o. p.is_greeted && (p.is_wanted && is_none o)) u) ∙ due))
waits (event.Greeted ∷ events) p to since u h due = waits events (pace.greeted p) to since u h due
waits (event.Published ∷ events) p to since u h due = waits events (pace.published p) to since u h due
waits (event.Acknowledged upto ∷ events) p to since u h due =
    elim (nat_le to upto) as (λ b. nat_le to upto ≡ b → (b || list_any (ends_wait to since) events) ≡ true) [
      | true ↦ λ _. refl
      | false ↦ λ e. waits events (pace.acknowledged upto p) to since
          (ap (pace.left_by upto) u ∙ kept_packet (nat_lt upto to) _ (lower to upto e)) h due
    ] refl
waits (event.Ticked now ∷ events) p to since u h due =
    elim (nat_le ACK_WAIT_MS (now - since)) as (λ b. nat_le ACK_WAIT_MS (now - since) ≡ b → (b || list_any (ends_wait to since) events) ≡ true) [
      | true ↦ λ _. refl
      | false ↦ λ e. waits events (pace.ticked now p) to since
          (kept_pace (pace.has_waited now p.under_way) _ p _ (ap (pace.has_waited now) u ∙ e) u) h due
    ] refl
waits (event.Made to' now ∷ events) p to since u h due = absurd (cc)

-- ---- what was published

given_up_wanted : (b : Bool) (p : Pace) → p.is_wanted ≡ true → (cond b (record p { is_wanted = true; under_way = None }) p).is_wanted ≡ true
given_up_wanted true p h = refl
given_up_wanted false p h = h

wanted_after : (e : PaceEvent) (p : Pace) → is_making e ≡ false → p.is_wanted ≡ true → (after e p).is_wanted ≡ true
wanted_after event.Greeted p h w = refl
wanted_after event.Published p h w = refl
wanted_after (event.Acknowledged upto) p h w = refl
wanted_after (event.Ticked now) p h w = given_up_wanted (pace.has_waited now p.under_way && nat_lt p.unanswered MOST_UNANSWERED) p w
wanted_after (event.Made to now) p h w = absurd (cc)

stays_greeted : (e : PaceEvent) (p : Pace) → is_making e ≡ false → p.is_greeted ≡ true → (after e p).is_greeted ≡ true
stays_greeted event.Greeted p h g = refl
stays_greeted event.Published p h g = g
stays_greeted (event.Acknowledged upto) p h g = g
stays_greeted (event.Ticked now) p h g = given_up_greeted (pace.has_waited now p.under_way && nat_lt p.unanswered MOST_UNANSWERED) p ∙ g
stays_greeted (event.Made to now) p h g = absurd (cc)

due_by : (a b : Bool) (o : Option UnderWay) → a ≡ true → b ≡ true → o ≡ None → (a && (b && is_none o)) ≡ true
due_by a b o g w n = rw (g, w, n)

pub is_remembered : (events : List PaceEvent) (p : Pace) → p.is_greeted ≡ true → p.is_wanted ≡ true → list_any is_making events ≡ false → (after_all events p).under_way ≡ None → pace.is_due (after_all events p) ≡ true
is_remembered [] p g w h n = due_by p.is_greeted p.is_wanted p.under_way g w n
is_remembered (e ∷ events) p g w h n =
    let parts = or_parts (is_making e) (list_any is_making events) h in
    is_remembered events (after e p) (stays_greeted e p parts.0 g) (wanted_after e p parts.0 w) parts.1 n

-- ---- what is left for the peer

-- something may be new, or a packet is under way
abbrev some_left : Bool → Option UnderWay → Bool
some_left wanted None = wanted
some_left wanted (Some packet) = true

wanted_left : (o : Option UnderWay) → some_left true o ≡ true
wanted_left None = refl
wanted_left (Some packet) = refl

left_by_news : (e : PaceEvent) (p : Pace) → is_news e ≡ true → some_left (after e p).is_wanted (after e p).under_way ≡ true
left_by_news event.Greeted p h = wanted_left p.under_way
left_by_news event.Published p h = wanted_left p.under_way
left_by_news (event.Acknowledged upto) p h = wanted_left (pace.left_by upto p.under_way)
left_by_news (event.Ticked now) p h = absurd (cc)
left_by_news (event.Made None now) p h = absurd (cc)
left_by_news (event.Made (Some to) now) p h = refl

given_up_left : (b : Bool) (p : Pace) → some_left p.is_wanted p.under_way ≡ true → let q = cond b (record p { is_wanted = true; under_way = None }) p in some_left q.is_wanted q.under_way ≡ true
given_up_left true p h = refl
given_up_left false p h = h

stays_left : (e : PaceEvent) (p : Pace) → finds_nothing e ≡ false → some_left p.is_wanted p.under_way ≡ true → some_left (after e p).is_wanted (after e p).under_way ≡ true
stays_left event.Greeted p h l = wanted_left p.under_way
stays_left event.Published p h l = wanted_left p.under_way
stays_left (event.Acknowledged upto) p h l = wanted_left (pace.left_by upto p.under_way)
stays_left (event.Ticked now) p h l = given_up_left (pace.has_waited now p.under_way && nat_lt p.unanswered MOST_UNANSWERED) p l
stays_left (event.Made None now) p h l = absurd (cc)
stays_left (event.Made (Some to) now) p h l = refl

not_caught_up : (a b : Bool) (o : Option UnderWay) → some_left b o ≡ true → (a && (not b && is_none o)) ≡ false
not_caught_up true true o h = refl
not_caught_up true false None h = absurd (cc)
not_caught_up true false (Some packet) h = refl
not_caught_up false b o h = refl

never_caught_up : (events : List PaceEvent) (p : Pace) → some_left p.is_wanted p.under_way ≡ true → list_any finds_nothing events ≡ false → pace.is_caught_up (after_all events p) ≡ false
never_caught_up [] p l h = not_caught_up p.is_greeted p.is_wanted p.under_way l
never_caught_up (e ∷ events) p l h =
    let parts = or_parts (finds_nothing e) (list_any finds_nothing events) h in
    never_caught_up events (after e p) (stays_left e p parts.0 l) parts.1

pub not_caught_up_after : (p : Pace) (e : PaceEvent) (events : List PaceEvent) → is_news e ≡ true → list_any finds_nothing events ≡ false → pace.is_caught_up (after_all events (after e p)) ≡ false
not_caught_up_after p e events news h = never_caught_up events (after e p) (left_by_news e p news) h

-- ---- packets without an acknowledgement

given_up_count : (b : Bool) (p : Pace) → (cond b (record p { is_wanted = true; under_way = None }) p).unanswered ≡ p.unanswered
given_up_count true p = refl
given_up_count false p = refl

capped_more : (n m : ℕ) → m ≡ min MOST_UNANSWERED n → pace.one_more m ≡ min MOST_UNANSWERED (n + 1)
capped_more n m h = grind (arith, nat_tests)

no_more : (n m : ℕ) → m ≡ min MOST_UNANSWERED n → m ≡ min MOST_UNANSWERED (n + 0)
no_more n m h = rw add-zero h

count_after : (e : PaceEvent) (p : Pace) (n : ℕ) → is_acknowledgement e ≡ false → p.unanswered ≡ min MOST_UNANSWERED n → (after e p).unanswered ≡ min MOST_UNANSWERED (n + cond (is_packet e) 1 0)
count_after event.Greeted p n h c = no_more n p.unanswered c
count_after event.Published p n h c = no_more n p.unanswered c
count_after (event.Acknowledged upto) p n h c = absurd (cc)
count_after (event.Ticked now) p n h c =
    given_up_count (pace.has_waited now p.under_way && nat_lt p.unanswered MOST_UNANSWERED) p ∙ no_more n p.unanswered c
count_after (event.Made None now) p n h c = no_more n p.unanswered c
count_after (event.Made (Some to) now) p n h c = capped_more n p.unanswered c

counted : (events : List PaceEvent) (p : Pace) (n : ℕ) → list_any is_acknowledgement events ≡ false → p.unanswered ≡ min MOST_UNANSWERED n → (after_all events p).unanswered ≡ min MOST_UNANSWERED (n + count_by is_packet events)
counted [] p n h c = no_more n p.unanswered c
counted (e ∷ events) p n h c =
    let parts = or_parts (is_acknowledgement e) (list_any is_acknowledgement events) h in
    let more : count_by is_packet (e ∷ events) ≡ cond (is_packet e) 1 0 + count_by is_packet events = sum_by-cons (λ x. cond (is_packet x) 1 0) e events in
    counted events (after e p) (n + cond (is_packet e) 1 0) parts.1 (count_after e p n parts.0 c)
    ∙ ap (λ k. min MOST_UNANSWERED k) (add_assoc n (cond (is_packet e) 1 0) (count_by is_packet events) ∙ ap (λ k. n + k) (sym more))

capped_test : (n m : ℕ) → m ≡ min MOST_UNANSWERED (0 + n) → nat_le MOST_UNANSWERED m ≡ nat_le MOST_UNANSWERED n
capped_test n m h = grind (arith, nat_tests)

pub closes : (p : Pace) (events : List PaceEvent) (now : ℕ) → p.unanswered ≡ 0 → list_any is_acknowledgement events ≡ false → pace.is_over now (after_all events p) ≡ (pace.has_waited now (after_all events p).under_way && nat_le MOST_UNANSWERED (count_by is_packet events))
closes p events now none h =
    ap (λ b. pace.has_waited now (after_all events p).under_way && b)
    (capped_test (count_by is_packet events) (after_all events p).unanswered (counted events p 0 h none))
