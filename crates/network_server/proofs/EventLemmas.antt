-- What a step of the server's session makes of a network.
use Rattle.std.proofs.Common.{◌≡◌, ◌≤◌, ◌<◌, ◌+◌, ℕ, Bool, true, false, not, ◌||◌, List, [], ◌∷◌, ◌++◌, Option, None, Some, length, drop, get_or, refl, sym, ap, ◌∙◌, subst, append_assoc, append-nil, inl, inr, arith}
use Rattle.std.proofs.lemmas.Bool.{le-ltb, true≢false}
use Rattle.std.proofs.lemmas.List.Filters.{length-filter_both}
use Rattle.cluster_directory.specs.Entry.{Entry, is_same_channel}
use Rattle.std.proofs.lemmas.List.{drop_all, drop_more}
use Rattle.std.specs.Prelude.{is_some}
use Rattle.irc_line.specs.Stream.{Item, Held, line as whole_line, too_long as cut_line, bytes_of, held_past, held_with, next_item}
use Rattle.upstream_session.specs.Events.{HasClose}
use Rattle.upstream_session.specs.Passing.{is_passed_on}
use Rattle.upstream_session.specs.Session.{step as session_step, say, joined as channel_joined, JoinsNone}
use Rattle.upstream_session.specs.declared.connection.ServerSession.{ServerSession}
use Rattle.upstream_session.specs.Step.{ServerStep}
use Rattle.upstream_session.specs.declared.effect.UpEffect.{UpEffect}
use Rattle.upstream_session.specs.declared.effect.UpEffect.TheVariants.{Send, Put, Relay, Close}
use Rattle.network_log.specs.Facts.{NodeFacts}
use Rattle.network_log.specs.Guest.{next_item as next_of}
use Rattle.network_log.specs.Host.{Host, BatchEntry, host_after, one_heard, entries_by, entering, has_entered, sends_of}
use Rattle.network_log.specs.Truth.{MayBeSkipped}
use Rattle.network_log.specs.Log.{ServerSays, ServerSkips, step, after_server_line, after_server_item, after_saying_to, without_server}
use Rattle.network_log.specs.NetworkState.{NetworkState}
use Rattle.network_server.specs.Effects.{closes}
use Rattle.network_server.specs.ServerEvents.{Makes, LosesLine, IsSaid, LosesSaid}
use Rattle.network_server.specs.Unread.{IsUnread}
use Rattle.network_server.proofs.InputLemmas.{one-heard, more-unread, next-is}

-- ---- what is unread

some-is : (o : Option Item) → is_some o ≡ true → (item : Item) × (o ≡ Some item)
some-is None e = absurd (cc e)
some-is (Some item) e = (item, refl)

pub counted : (received : List ℕ) (heard : ℕ) (held : Held) (later : ℕ) (after : Held) → later ≡ heard + 1 → after ≡ held_past (bytes_of held)
    → is_some (next_of received heard) ≡ true → IsUnread received heard held → IsUnread received later after
counted received heard held later after e f some is =
    let there = some-is (next_of received heard) some in
    subst (λ (n : ℕ). IsUnread received n after) (sym e)
    (subst (λ (h : Held). IsUnread received (heard + 1) h) (sym f) (one-heard received heard held there.0 (sym (next-is received heard held is) ∙ there.1) is))

pub received-more : (received : List ℕ) (heard : ℕ) (held : Held) (bytes later : List ℕ) (after : Held) → later ≡ received ++ bytes → after ≡ held_with held bytes
    → IsUnread received heard held → IsUnread later heard after
received-more received heard held bytes later after e f is =
    subst (λ (l : List ℕ). IsUnread l heard after) (sym e) (subst (λ (h : Held). IsUnread (received ++ bytes) heard h) (sym f) (more-unread received heard held bytes is))

pub next-there : (received : List ℕ) (heard : ℕ) (held : Held) (item : Item) → Some item ≡ next_item held → IsUnread received heard held → next_of received heard ≡ Some item
next-there received heard held item e is = next-is received heard held is ∙ sym e

pub some-there : (o : Option Item) (item : Item) → o ≡ Some item → is_some o ≡ true
some-there o item e = ap is_some e

-- ---- what is owed

pub sends-append : (first last : List UpEffect) → sends_of (first ++ last) ≡ sends_of first ++ sends_of last
sends-append [] last = refl
sends-append (Send text ∷ first) last = ap (λ (t : List ℕ). text ++ t) (sends-append first last) ∙ sym (append_assoc text (sends_of first) (sends_of last))
sends-append (Put change ∷ first) last = sends-append first last
sends-append (Relay text to ∷ first) last = sends-append first last
sends-append (Close ∷ first) last = sends-append first last

pub owed-next : (first before now : List ℕ) (effects : List UpEffect) (place : ℕ) (effect : UpEffect) → effect ≡ get_or effects place effect → place < length effects
    → now ≡ before ++ sends_of (effect ∷ []) → before ++ sends_of (drop place effects) ≡ first ++ sends_of effects → now ++ sends_of (drop (place + 1) effects) ≡ first ++ sends_of effects
owed-next first before now effects place effect is h e so_far =
    let rest = drop (place + 1) effects in
    let split : drop place effects ≡ effect ∷ rest = drop_more effects place effect h ∙ ap (λ (e : UpEffect). e ∷ rest) (sym is) in
    ap (λ (t : List ℕ). t ++ sends_of rest) e
    ∙ append_assoc before (sends_of (effect ∷ [])) (sends_of rest)
    ∙ ap (λ (t : List ℕ). before ++ t) (sym (sends-append (effect ∷ []) rest))
    ∙ ap (λ (t : List UpEffect). before ++ sends_of t) (sym split)
    ∙ so_far

pub owed-all : (first now : List ℕ) (effects : List UpEffect) (place : ℕ) → length effects ≤ place → now ++ sends_of (drop place effects) ≡ first ++ sends_of effects → now ≡ first ++ sends_of effects
owed-all first now effects place h so_far =
    sym (append-nil now) ∙ ap (λ (t : List UpEffect). now ++ sends_of t) (sym (drop_all place effects h)) ∙ so_far

-- the server as the session's step leaves it
pub host-said : (h : Host) (s : ServerStep) (session : ServerSession) (sent owed later : List ℕ) → h.told ≡ sent ++ owed → session ≡ s.session
    → later ≡ owed ++ sends_of s.effects → record h { session = session; told = sent ++ later } ≡ host_after s h
host-said h s session sent owed later t e f =
    let told : sent ++ later ≡ h.told ++ sends_of s.effects = ap (λ (l : List ℕ). sent ++ l) f ∙ sym (append_assoc sent owed (sends_of s.effects)) ∙ ap (λ (l : List ℕ). l ++ sends_of s.effects) (sym t) in
    (λ i. record h { session = e i; told = told i })

-- ---- the channel that was joined

fewer : (before after : Entry) → JoinsNone before.channels after.channels → has_entered before after ≡ false
fewer before after (inl same) = let e = ap length same in le-ltb (length before.channels) (length after.channels) (omega (arith, e))
fewer before after (inr one) =
    let p : List ℕ → Bool = λ other. not (is_same_channel one.0 other) in
    let both = length-filter_both p (λ x. not (p x)) (λ x. refl) before.channels in
    let e = ap length one.1 in
    le-ltb (length before.channels) (length after.channels) (omega (arith, both, e))

-- it may be asked after the step as well
pub entered-same : (u after : ServerSession) (bytes : List ℕ) → ((channel : List ℕ) → channel_joined u bytes ≡ Some channel → channel_joined after bytes ≡ Some channel)
    → (channel_joined u bytes ≡ None → JoinsNone u.entry.channels after.entry.channels)
    → entering (has_entered u.entry after.entry) (channel_joined after bytes) ≡ entering (has_entered u.entry after.entry) (channel_joined u bytes)
entered-same u after bytes later others = by-case (channel_joined u bytes) refl where
  has : Bool
  has = has_entered u.entry after.entry

  by-case : (o : Option (List ℕ)) → channel_joined u bytes ≡ o → entering has (channel_joined after bytes) ≡ entering has (channel_joined u bytes)
  by-case (Some channel) e = ap (entering has) (later channel e ∙ sym e)
  by-case None e =
      let none : has ≡ false = fewer u.entry after.entry (others e) in
      ap (λ (b : Bool). entering b (channel_joined after bytes)) none ∙ sym (ap (λ (b : Bool). entering b (channel_joined u bytes)) none)

-- ---- whether the session is over

has-close : (effects : List UpEffect) → closes effects ≡ true → HasClose effects
has-close [] e = absurd (cc e)
has-close (Send text ∷ effects) e = has-close effects e
has-close (Put change ∷ effects) e = has-close effects e
has-close (Relay text to ∷ effects) e = has-close effects e
has-close (Close ∷ effects) e = tt

close-has : (effects : List UpEffect) → HasClose effects → closes effects ≡ true
close-has [] h = absurd h
close-has (Send text ∷ effects) h = close-has effects h
close-has (Put change ∷ effects) h = close-has effects h
close-has (Relay text to ∷ effects) h = close-has effects h
close-has (Close ∷ effects) h = refl

-- a session that wasn't over
open-after : (s : ServerStep) → (HasClose s.effects → s.session.is_closed ≡ true) → (s.session.is_closed ≡ true → HasClose s.effects)
    → (closed found : Bool) → s.session.is_closed ≡ closed → closes s.effects ≡ found → closed ≡ found
open-after s is only true true e f = refl
open-after s is only false false e f = refl
open-after s is only true false e f = absurd (true≢false (sym (close-has s.effects (only e)) ∙ f))
open-after s is only false true e f = absurd (true≢false (sym (is (has-close s.effects f)) ∙ e))

pub over-after : (u : ServerSession) (s : ServerStep) (over : Bool) → u.is_closed ≡ over
    → (HasClose s.effects → s.session.is_closed ≡ true)
    → (u.is_closed ≡ false → s.session.is_closed ≡ true → HasClose s.effects)
    → (u.is_closed ≡ true → s.session ≡ u)
    → s.session.is_closed ≡ (over || closes s.effects)
over-after u s true e is only stays = ap (λ (v : ServerSession). v.is_closed) (stays e) ∙ e
over-after u s false e is only stays = open-after s is (only e) s.session.is_closed (closes s.effects) refl refl

-- after a step, where it is found whether it closes
pub over-by : (u : ServerSession) (s : ServerStep) (over : Bool) (session : ServerSession) (effects : List UpEffect) (found : Bool)
    → record { session = session; effects = effects } ≡ s → found ≡ closes effects
    → (HasClose s.effects → s.session.is_closed ≡ true)
    → (u.is_closed ≡ false → s.session.is_closed ≡ true → HasClose s.effects)
    → (u.is_closed ≡ true → s.session ≡ u)
    → u.is_closed ≡ over → session.is_closed ≡ (over || found)
over-by u s over session effects found e f is only stays closed =
    ap (λ (t : ServerStep). t.session.is_closed) e ∙ over-after u s over closed is only stays
    ∙ sym (ap (λ (b : Bool). over || b) (f ∙ ap (λ (t : ServerStep). closes t.effects) e))

-- ---- events

pub too-long-skipped : (o : Option Item) → o ≡ Some cut_line → MayBeSkipped o
too-long-skipped o e = subst MayBeSkipped (sym e) tt

pub line-skipped : (o : Option Item) (bytes : List ℕ) → o ≡ Some (whole_line bytes) → is_passed_on bytes ≡ true → MayBeSkipped o
line-skipped o bytes e passed = subst MayBeSkipped (sym e) passed

-- the session hears a line
pub says : (facts : NodeFacts) (now : ℕ) (before mid after : Host) (batch later : List BatchEntry) (bytes : List ℕ)
    → next_of before.received before.heard ≡ Some (whole_line bytes)
    → mid ≡ host_after (session_step before.session now bytes) before
    → after ≡ one_heard mid
    → later ≡ batch ++ entries_by before.session (session_step before.session now bytes) (channel_joined before.session bytes)
    → Makes facts (ServerSays now) before batch after later
says facts now before mid after batch later bytes next e f g w is b =
    let s : ServerStep = session_step before.session now bytes in
    let channel : Option (List ℕ) = channel_joined before.session bytes in
    let all : after ≡ host_after s (one_heard before) = f ∙ ap one_heard e in
    let more : w.batch ++ entries_by before.session s channel ≡ later = ap (λ (l : List BatchEntry). l ++ entries_by before.session s channel) b ∙ sym g in
    ap (after_server_line w now) is ∙ ap (after_server_item w before now) next
    ∙ (λ i. record w { server = Some (sym all i); batch = more i })

-- a line is left out
pub skips : (facts : NodeFacts) (before after : Host) (batch later : List BatchEntry) → after ≡ one_heard before → later ≡ batch → Makes facts ServerSkips before batch after later
skips facts before after batch later e f w is b =
    let same : w.batch ≡ later = b ∙ sym f in
    ap (λ (o : Option Host). step facts ServerSkips (record w { server = o })) is ∙ (λ i. record w { server = Some (sym e i); batch = same i })

-- a client's line is said
pub is-said : (now : ℕ) (text : List ℕ) (before after : Host) (batch later : List BatchEntry)
    → after ≡ host_after (say before.session now text) before
    → later ≡ batch ++ entries_by before.session (say before.session now text) None
    → IsSaid now text before batch after later
is-said now text before after batch later e g w is b =
    let s : ServerStep = say before.session now text in
    let more : w.batch ++ entries_by before.session s None ≡ later = ap (λ (l : List BatchEntry). l ++ entries_by before.session s None) b ∙ sym g in
    ap (after_saying_to w now text) is ∙ (λ i. record w { server = Some (sym e i); batch = more i })

-- it is heard, or said, and lost
pub loses-line : (facts : NodeFacts) (now : ℕ) (before after : Host) (bytes : List ℕ)
    → next_of before.received before.heard ≡ Some (whole_line bytes)
    → after.session ≡ (session_step before.session now bytes).session
    → LosesLine facts now before after
loses-line facts now before after bytes next e w is =
    ap (λ (v : NetworkState). without_server v.server (record v { batch = [] })) (ap (after_server_line w now) is ∙ ap (after_server_item w before now) next)
    ∙ (λ i. record w { serial = (sym e i).serial; nick = (sym e i).entry.nick; server = None; batch = [] })

pub loses-said : (facts : NodeFacts) (now : ℕ) (text : List ℕ) (before after : Host)
    → after.session ≡ (say before.session now text).session
    → LosesSaid facts now text before after
loses-said facts now text before after e w is =
    ap (λ (v : NetworkState). without_server v.server (record v { batch = [] })) (ap (after_saying_to w now text) is)
    ∙ (λ i. record w { serial = (sym e i).serial; nick = (sym e i).entry.nick; server = None; batch = [] })
