-- How clients are told their shares.
use Rattle.std.proofs.Common.{◌≡◌, ◌<◌, ◌+◌, Bool, true, false, ◌&&◌, ℕ, zero, suc, List, [], ◌∷◌, ◌++◌, Option, Some, None, unwrap_or, if◌then◌else◌, refl, sym, ap, ◌∙◌, subst, arith, length, length-append, append-nil, slice_index_or, slice_set}
use Rattle.std.specs.Prelude.{slice_get}
use Rattle.std.proofs.lemmas.Option.{same_Some, slice_get_within, slice_get-get_or, get_or_from_slice_get}
use Rattle.std.proofs.lemmas.List.{length-set}
use Rattle.std.proofs.Math.Logic.{∥∥₁_elim, ∥∥₁_prop}
use Rattle.chat_change.specs.Buffer.{buffer_of}
use Rattle.chat_change.specs.declared.change.Change.{Change}
use Rattle.chat_history.specs.History.{mark}
use Rattle.irc_reply.specs.Reply.{mark_text}
use Rattle.chat_query.specs.Buffers.{has_buffer}
use Rattle.chat_query.specs.declared.facts.Facts.{Facts}
use Rattle.cluster_directory.specs.declared.config.SessionConfig.{SessionConfig}
use Rattle.client_session.specs.Session.{facts_in}
use Rattle.network_log.specs.Facts.{NodeFacts}
use Rattle.network_log.specs.Following.{AreToldBy}
use Rattle.network_log.specs.Guest.{Guest, fallen}
use Rattle.network_log.specs.Host.{BatchEntry, Posted, PassedOn, Renamed, Entered}
use Rattle.network_log.specs.NetworkState.{NetworkState, told_by}
use Rattle.network_log.specs.Share.{hears_batch, with_batch, told_to, nick_by, nick_by_all, share_of, marker_text}
use Rattle.network_log.specs.Telling.{IsToldToClient, AsClient}
use Rattle.network_log.specs.Truth.{IsReached}
use Rattle.hosted_network.specs.Shares.{IsShareAt, entries_in}
use Rattle.hosted_network.specs.Sharing.{AreMarked, mark_line, share_with, told_with}
use Rattle.hosted_network.specs.Telling.{HasHeard, IsGone, IsOutside, Heard, Fell, IsListener, IsToldAt, IsTold, HasFallen, IsToldText, WasTold, WentAway}
use Rattle.hosted_network.specs.declared.shares.Share.{Share}
use Rattle.hosted_network.specs.declared.told.Told.{Told}
use Rattle.hosted_network.proofs.LogLemmas.{there}

-- ---- what is told, where the marker is known

-- a session that doesn't follow markers is told none
unfollowed : (held : List Change) (at : Option ℕ) (f : Facts) (channel : List ℕ) → f.caps.read_marker ≡ false → mark_line at f channel ≡ marker_text held f channel
unfollowed held at f channel e =
    ap (λ (b : Bool). if b && has_buffer f channel then mark_text f.cluster channel at else []) e
    ∙ sym (ap (λ (b : Bool). if b && has_buffer f channel then mark_text f.cluster channel (mark held (buffer_of f.account f.network channel)) else []) e)

-- one whose channel has a buffer is told its marker, and no other
followed : (held : List Change) (at : Option ℕ) (f : Facts) (channel : List ℕ) (has : Bool) → has_buffer f channel ≡ has
    → (has ≡ true → mark held (buffer_of f.account f.network channel) ≡ at)
    → (if f.caps.read_marker && has then mark_text f.cluster channel at else [])
    ≡ (if f.caps.read_marker && has then mark_text f.cluster channel (mark held (buffer_of f.account f.network channel)) else [])
followed held at f channel true e is = ap (λ (m : Option ℕ). if f.caps.read_marker && true then mark_text f.cluster channel m else []) (sym (is refl))
followed held at f channel false e is =
    elim (f.caps.read_marker) as (λ b. (if b && false then mark_text f.cluster channel at else []) ≡ (if b && false then mark_text f.cluster channel (mark held (buffer_of f.account f.network channel)) else [])) [
      | true ↦ refl
      | false ↦ refl
    ]

marked : (held : List Change) (at : Option ℕ) (f : Facts) (channel : List ℕ) → (has_buffer f channel ≡ true → mark held (buffer_of f.account f.network channel) ≡ at)
    → mark_line at f channel ≡ marker_text held f channel
marked held at f channel is =
    let has : Bool = has_buffer f channel in followed held at f channel has refl is

one-share : (held : List Change) (at : Option ℕ) (f : Facts) (nick : List ℕ) (entry : BatchEntry)
    → ((channel : List ℕ) → entry ≡ Entered channel → mark_line at f channel ≡ marker_text held f channel)
    → share_with at f nick entry ≡ share_of held f nick entry
one-share held at f nick (Posted change is_own) is = refl
one-share held at f nick (PassedOn text to) is = refl
one-share held at f nick (Renamed new is_passed_on) is = refl
one-share held at f nick (Entered channel) is = is channel refl

-- each entry's own marker is known
AreKnown : List Change → Option ℕ → Facts → List BatchEntry → Type 0
AreKnown held at f [] = Unit {0}
AreKnown held at f (entry ∷ batch) =
    ((channel : List ℕ) → entry ≡ Entered channel → mark_line at f channel ≡ marker_text held f channel) × AreKnown held at f batch

all-shares : (held : List Change) (at : Option ℕ) (f : Facts) (nick : List ℕ) (batch : List BatchEntry) → AreKnown held at f batch → told_with at f nick batch ≡ told_to held f nick batch
unfolding AreKnown
all-shares held at f nick [] k = refl
all-shares held at f nick (entry ∷ batch) k =
    (λ i. one-share held at f nick entry k.0 i ++ all-shares held at f (nick_by nick entry) batch k.1 i)

known-unfollowed : (held : List Change) (at : Option ℕ) (f : Facts) (batch : List BatchEntry) → f.caps.read_marker ≡ false → AreKnown held at f batch
unfolding AreKnown
known-unfollowed held at f [] e = tt
known-unfollowed held at f (entry ∷ batch) e = (λ channel is. unfollowed held at f channel e, known-unfollowed held at f batch e)

known-marked : (held : List Change) (at : Option ℕ) (f : Facts) (batch : List BatchEntry) → AreMarked held at f.account f.network batch → AreKnown held at f batch
unfolding AreKnown
known-marked held at f [] k = tt
known-marked held at f (Posted change is_own ∷ batch) k = (λ channel is. absurd (cc is), known-marked held at f batch k.1)
known-marked held at f (PassedOn text to ∷ batch) k = (λ channel is. absurd (cc is), known-marked held at f batch k.1)
known-marked held at f (Renamed nick is_passed_on ∷ batch) k = (λ channel is. absurd (cc is), known-marked held at f batch k.1)
known-marked held at f (Entered entered ∷ batch) k =
    let name : BatchEntry → List ℕ = λ e. name_of e in
    (λ channel is. subst (λ (c : List ℕ). mark_line at f c ≡ marker_text held f c) (ap name is) (marked held at f entered k.0), known-marked held at f batch k.1) where
      name_of : BatchEntry → List ℕ
      name_of (Posted change is_own) = []
      name_of (PassedOn text to) = []
      name_of (Renamed nick is_passed_on) = []
      name_of (Entered channel) = channel

-- so that is what a client's session is told, by the marker that was read
pub told_so : (held : List Change) (at : Option ℕ) (config : SessionConfig) (is_read : Bool) (g : Guest) (f : Facts) (batch : List BatchEntry)
    → IsListener config is_read g f → (is_read ≡ true → AreMarked held at config.account config.network batch)
    → told_with at f g.nick batch ≡ told_to held f g.nick batch
told_so held at config is_read g f batch l k = by-case f.caps.read_marker refl where
  by-case : (b : Bool) → f.caps.read_marker ≡ b → told_with at f g.nick batch ≡ told_to held f g.nick batch
  by-case true e =
      all-shares held at f g.nick batch (known-marked held at f batch
      (subst (λ (a : List ℕ). AreMarked held at a f.network batch) (sym l.is_of.0)
      (subst (λ (n : List ℕ). AreMarked held at config.account n batch) (sym l.is_of.1) (k (l.is_known e)))))
  by-case false e = all-shares held at f g.nick batch (known-unfollowed held at f batch e)

-- ---- one client

-- it was told the text that was found for it, or is gone
pub heard-share : {told : Told} {config : SessionConfig} {is_read : Bool} {g new : Guest} {f : Facts} {shares : List Share} {share : Share} {at : ℕ} {known before text : List ℕ} (nick : Option (List ℕ))
    → IsListener config is_read g f → IsShareAt told shares f known at → slice_get shares at ≡ Some share → known ≡ g.nick → text ≡ share.text.items
    → before ≡ g.nick → unwrap_or nick before ≡ share.nick_after
    → IsToldText text nick g new → HasHeard told config is_read g new
heard-share {told} {config} {is_read} {g} {new} {f} {share = share} {known = known} nick l s found k t b n (WasTold here e) =
    let same : s.share ≡ share = same_Some _ _ (sym s.is_there ∙ found) in
    Heard f l (e ∙ (λ i. let h : Guest = record g {
      told = g.told ++ (t ∙ ap (λ (x : Share). x.text.items) (sym same) ∙ s.is_share.text ∙ ap (λ (x : List ℕ). told_with told.mark f x (entries_in told)) k) i;
      nick = (ap (λ (x : List ℕ). unwrap_or nick x) (sym b) ∙ n ∙ ap (λ (x : Share). x.nick_after) (sym same) ∙ s.is_share.nick_after ∙ ap (λ (x : List ℕ). nick_by_all x (entries_in told)) k) i;
    } in h))
heard-share nick l s found k t b n (WentAway e) = Fell e

pub heard-there : (held : List Change) (batch : List BatchEntry) (g : Guest) (f : Facts) → facts_in g.session ≡ Some f → g.is_gone ≡ false
    → hears_batch held batch g ≡ record g { told = g.told ++ told_to held f g.nick batch; nick = nick_by_all g.nick batch }
heard-there held batch g f e gone =
    ap (with_batch held batch g) e
    ∙ ap (λ (b : Bool). if b then g else (let h : Guest = record g { told = g.told ++ told_to held f g.nick batch; nick = nick_by_all g.nick batch } in h)) gone

heard-outside : (held : List Change) (batch : List BatchEntry) (g : Guest) → facts_in g.session ≡ None → hears_batch held batch g ≡ g
heard-outside held batch g e = ap (with_batch held batch g) e

heard-gone : (held : List Change) (batch : List BatchEntry) (g : Guest) (o : Option Facts) → g.is_gone ≡ true → with_batch held batch g o ≡ g
heard-gone held batch g None e = refl
heard-gone held batch g (Some f) e =
    ap (λ (b : Bool). if b then g else (let h : Guest = record g { told = g.told ++ told_to held f g.nick batch; nick = nick_by_all g.nick batch } in h)) e

-- it was told at its place, or is gone
pub told_at : {told : Told} {config : SessionConfig} {is_read : Bool} {g new : Guest} {olds : List Guest} (held : List Change) (place : ℕ)
    → (is_read ≡ true → AreMarked held told.mark config.account config.network (entries_in told))
    → HasHeard told config is_read g new
    → IsToldAt (hears_batch held (entries_in told)) place g olds (slice_set olds place new)
told_at {told} {config} {is_read} {g} {new} {olds} held place k (IsGone gone e) =
    IsTold (ap (slice_set olds place) (e ∙ sym (heard-gone held (entries_in told) g (facts_in g.session) gone)))
told_at {told} {config} {is_read} {g} {new} {olds} held place k (IsOutside out e) =
    IsTold (ap (slice_set olds place) (e ∙ sym (heard-outside held (entries_in told) g out)))
told_at {told} {config} {is_read} {g} {new} {olds} held place k (Heard f l e) =
    let text = told_so held told.mark config is_read g f (entries_in told) l k in
    IsTold (ap (slice_set olds place)
    (e ∙ ap (λ (t : List ℕ). let h : Guest = record g { told = g.told ++ t; nick = nick_by_all g.nick (entries_in told) } in h) text
    ∙ sym (heard-there held (entries_in told) g f l.has_facts l.is_there)))
told_at {olds = olds} held place k (Fell e) = HasFallen (ap (slice_set olds place) e)

-- ---- all clients

abbrev pub told_if : Bool → (Guest → Guest) → Guest → Guest
told_if fits hears g = if fits then hears g else fallen g

pub told_by-more : (hears : Guest → Guest) (fits : List Bool) (b : Bool) (olds : List Guest) (d : Guest)
    → length fits < length olds
    → told_by hears (fits ++ b ∷ []) olds ≡ slice_set (told_by hears fits olds) (length fits) (told_if b hears (slice_index_or olds (length fits) d))
told_by-more hears [] b [] d h = absurd (omega arith)
told_by-more hears [] true (o ∷ os) d h = refl
told_by-more hears [] false (o ∷ os) d h = refl
told_by-more hears (true ∷ fits) b [] d h = absurd (omega arith)
told_by-more hears (false ∷ fits) b [] d h = absurd (omega arith)
told_by-more hears (true ∷ fits) b (o ∷ os) d h =
    ap (λ gs. hears o ∷ gs) (told_by-more hears fits b os d (omega arith))
told_by-more hears (false ∷ fits) b (o ∷ os) d h =
    ap (λ gs. fallen o ∷ gs) (told_by-more hears fits b os d (omega arith))

pub told_by-at : (hears : Guest → Guest) (fits : List Bool) (olds : List Guest) (d : Guest)
    → slice_index_or (told_by hears fits olds) (length fits) d ≡ slice_index_or olds (length fits) d
told_by-at hears [] olds d = refl
told_by-at hears (true ∷ fits) [] d = refl
told_by-at hears (false ∷ fits) [] d = refl
told_by-at hears (true ∷ fits) (o ∷ os) d = told_by-at hears fits os d
told_by-at hears (false ∷ fits) (o ∷ os) d = told_by-at hears fits os d

pub told_by-length : (hears : Guest → Guest) (fits : List Bool) (olds : List Guest) → length (told_by hears fits olds) ≡ length olds
told_by-length hears [] olds = refl
told_by-length hears (true ∷ fits) [] = refl
told_by-length hears (false ∷ fits) [] = refl
told_by-length hears (true ∷ fits) (o ∷ os) = ap suc (told_by-length hears fits os)
told_by-length hears (false ∷ fits) (o ∷ os) = ap suc (told_by-length hears fits os)

pub as_many : {hears : Guest → Guest} {count : ℕ} {olds news : List Guest} → AreToldBy hears count olds news → length news ≡ length olds
as_many {hears} {olds = olds} k = ap length k.is_new ∙ told_by-length hears k.fits olds

-- the next one wasn't told yet
pub still_there : {hears : Guest → Guest} {place : ℕ} {olds news : List Guest} {g : Guest}
    → slice_get olds place ≡ Some g → AreToldBy hears place olds news → slice_get news place ≡ Some g
still_there {hears} {place} {olds} {news} {g} at k =
    let within : place < length olds = slice_get_within olds place g at in
    let many : length news ≡ length olds = as_many k in
    let spot : slice_index_or news place g ≡ slice_index_or olds place g = rw (k.is_new, ← k.is_count) (told_by-at hears k.fits olds g) in
    slice_get-get_or news place g (omega (arith, within, many)) ∙ ap (λ (v : Guest). Some v) (spot ∙ get_or_from_slice_get olds place g g at)

pub was_there : {hears : Guest → Guest} {place : ℕ} {olds news : List Guest} {g : Guest}
    → place < length olds → slice_get news place ≡ Some g → AreToldBy hears place olds news → slice_get olds place ≡ Some g
was_there {hears} {place} {olds} {news} {g} within at k =
    let spot : slice_index_or news place g ≡ slice_index_or olds place g = rw (k.is_new, ← k.is_count) (told_by-at hears k.fits olds g) in
    slice_get-get_or olds place g within ∙ ap (λ (v : Guest). Some v) (sym spot ∙ get_or_from_slice_get news place g g at)

more : {hears : Guest → Guest} {place : ℕ} {olds news later : List Guest} {g : Guest} (b : Bool)
    → slice_get olds place ≡ Some g → later ≡ slice_set news place (told_if b hears g) → AreToldBy hears place olds news → AreToldBy hears (place + 1) olds later
more {hears} {place} {olds} {news} {later} {g} b at e k =
    let within : place < length olds = slice_get_within olds place g at in
    let last : g ≡ slice_index_or olds (length k.fits) g = rw k.is_count (sym (get_or_from_slice_get olds place g g at)) in
    record {
      fits = k.fits ++ b ∷ [];
      is_count = length-append k.fits (b ∷ []) ∙ ap (λ n. n + 1) k.is_count;
      is_new = e ∙ rw (k.is_new, ← k.is_count)
          (ap (λ v. slice_set (told_by hears k.fits olds) (length k.fits) (told_if b hears v)) last
          ∙ sym (told_by-more hears k.fits b olds g (rw k.is_count within)));
    }

more-by : {hears : Guest → Guest} {place : ℕ} {olds news later : List Guest} (g : Guest)
    → slice_get olds place ≡ Some g → IsToldAt hears place g news later → AreToldBy hears place olds news → AreToldBy hears (place + 1) olds later
more-by g at (IsTold e) k = more true at e k
more-by g at (HasFallen e) k = more false at e k

pub told_more : {hears : Guest → Guest} {place : ℕ} {olds news later : List Guest}
    → place < length olds
    → ((g : Guest) → slice_get news place ≡ Some g → IsToldAt hears place g news later)
    → AreToldBy hears place olds news → AreToldBy hears (place + 1) olds later
told_more {hears} {place} {olds} {news} {later} within each k =
    let t : (g : Guest) × (slice_get olds place ≡ Some g) = there olds place within in
    more-by t.0 t.1 (each t.0 (still_there t.1 k)) k

-- as many are there as before
count-at : {hears : Guest → Guest} {place : ℕ} {g : Guest} {news later : List Guest} → IsToldAt hears place g news later → length later ≡ length news
count-at {hears} {place} {g} {news} (IsTold e) = ap length e ∙ length-set news place (hears g)
count-at {place = place} {g = g} {news = news} (HasFallen e) = ap length e ∙ length-set news place (fallen g)

pub kept-count : {hears : Guest → Guest} (place : ℕ) (news : List Guest) {later : List Guest}
    → place < length news → ((g : Guest) → slice_get news place ≡ Some g → IsToldAt hears place g news later) → length later ≡ length news
kept-count {hears} place news {later} within each =
    let t : (g : Guest) × (slice_get news place ≡ Some g) = there news place within in
    count-at (each t.0 t.1)

-- what the next one may be told it may still be told
pub may-still : {facts : NodeFacts} {hears : Guest → Guest} {place : ℕ} {olds news : List Guest} (held : List Change) (batch : List BatchEntry)
    → place < length olds
    → ((at : ℕ) (g : Guest) (f : Facts) → slice_get olds at ≡ Some g → g.is_gone ≡ false → facts_in g.session ≡ Some f
    → ∥ IsToldToClient facts g.serial g.received (g.told ++ told_to held f g.nick batch) ∥₁)
    → ∥ AreToldBy hears place olds news ∥₁
    → (g : Guest) (f : Facts) → slice_get news place ≡ Some g → g.is_gone ≡ false → facts_in g.session ≡ Some f
    → ∥ IsToldToClient facts g.serial g.received (g.told ++ told_to held f g.nick batch) ∥₁
may-still {place = place} held batch within may k g f at gone has =
    ∥∥₁_elim k ∥∥₁_prop (λ q. may place g f (was_there within at q) gone has)

-- ---- by what right a client is told its share

-- all are told
pub all_fit : List Guest → List Bool
all_fit [] = []
all_fit (g ∷ guests) = true ∷ all_fit guests

pub all_fit-length : (guests : List Guest) → length (all_fit guests) ≡ length guests
unfolding all_fit
all_fit-length [] = refl
all_fit-length (g ∷ guests) = ap suc (all_fit-length guests)

told-get : (hears : Guest → Guest) (guests : List Guest) (place : ℕ) (g : Guest)
    → slice_get guests place ≡ Some g → slice_get (told_by hears (all_fit guests) guests) place ≡ Some (hears g)
unfolding all_fit
told-get hears [] place g h = let n : place < 0 = slice_get_within [] place g h in absurd (omega (arith, n))
told-get hears (o ∷ guests) zero g h = ap (λ v. Some (hears v)) (get_or_from_slice_get (o ∷ guests) zero g g h)
told-get hears (o ∷ guests) (suc place) g h = told-get hears guests place g h

-- a network in which all are told that can be come to
pub may_hear : (facts : NodeFacts) (guests : List Guest) (batch : List BatchEntry) (held : List Change) (place : ℕ) (g : Guest) (f : Facts) → slice_get guests place ≡ Some g
    → g.is_gone ≡ false → facts_in g.session ≡ Some f → (next : NetworkState) → IsReached facts next
    → next.guests ≡ told_by (hears_batch held batch) (all_fit guests) guests
    → IsToldToClient facts g.serial g.received (g.told ++ told_to held f g.nick batch)
may_hear facts guests batch held place g f at gone has next r e =
    let heard : Guest = record g { told = g.told ++ told_to held f g.nick batch; nick = nick_by_all g.nick batch } in
    AsClient next place heard r
    (ap (λ (l : List Guest). slice_get l place) e ∙ told-get (hears_batch held batch) guests place g at ∙ ap (λ (v : Guest). Some v) (heard-there held batch g f has gone))
    refl refl ([], append-nil (g.told ++ told_to held f g.nick batch))
