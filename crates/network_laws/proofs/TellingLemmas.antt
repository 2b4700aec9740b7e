-- The laws on clients, on servers and on what is put, from what is so of each network that is reached.
use Rattle.std.proofs.Common.{◌≡◌, ◌⊎◌, inl, inr, true, false, ℕ, List, [], ◌∷◌, ◌++◌, Option, Some, refl, sym, ap, ◌∙◌, subst, append_assoc}
use Rattle.std.specs.Prelude.{slice_get}
use mathlib.Core.List.{IsPrefix}
use Rattle.irc_line.specs.Stream.{items}
use Rattle.chat_change.specs.declared.change.Change.{Change}
use Rattle.cluster_directory.specs.declared.config.SessionConfig.{SessionConfig}
use Rattle.client_session.specs.declared.effect.Effect.{Effect}
use Rattle.client_session.specs.declared.effect.Effect.TheVariants.{Put}
use Rattle.network_log.specs.Facts.{NodeFacts}
use Rattle.network_log.specs.Guest.{Guest}
use Rattle.network_log.specs.Host.{Host, BatchEntry}
use Rattle.network_log.specs.NetworkState.{NetworkState}
use Rattle.network_log.specs.Putting.{IsNextPut, MayBePutFor, OfServer, OfClient}
use Rattle.network_log.specs.Truth.{IsReached}
use Rattle.network_log.specs.declared.origin.Origin.TheVariants.{ClientCame}
use Rattle.network_log.specs.Telling.{AsClient, AsNewcomer, IsToldToClient, IsToldToServer}
use Rattle.network_laws.specs.Acts.{Act, AreActsOf, AreOnce, all_effects}
use Rattle.network_laws.specs.Heard.{IsHeardOverItsConnection}
use Rattle.network_laws.specs.Puts.{ArePutOf, PutsWhatWasSaid}
use Rattle.network_laws.specs.Streams.{entries_of, HearsItsClientsAlone, IsPart, Stream, AreStreams, said_of}
use Rattle.network_laws.specs.Told.{HearsItsOwnAlone, HearsItsSessionAlone, lines_of}
use Rattle.network_laws.proofs.ClientLemmas.{Goes, IsAlone, IsGuestSo, lines-of-both, newcomer-so, start}
use Rattle.network_laws.proofs.OrderLemmas.{order-get}
use Rattle.network_laws.proofs.MemberLemmas.{IsClientSo, Laws, act_of, is-act}
use Rattle.network_laws.proofs.PartLemmas.{part-first}
use Rattle.network_laws.proofs.StoryLemmas.{Putting, Story, putting-batch, putting-mark, story}
use Rattle.network_laws.proofs.StreamLemmas.{IsServed, Serving}

-- ---- clients

-- no network has this configuration; a newcomer is of none
abbrev no_config : SessionConfig
no_config = record { account = []; network = []; nick = []; user = []; channels = [] }

alone-told : (facts : NodeFacts) (serial : ℕ) (received bytes : List ℕ) (did : List Effect) (g : Guest) → IsGuestSo facts no_config true [] did g
    → g.serial ≡ serial → g.received ≡ received → IsPrefix bytes g.told → HearsItsSessionAlone facts serial received bytes
alone-told facts serial received bytes did g k s r p =
    let a : IsAlone facts k.events k.done k.waiting g.told = k.alone refl in
    let P : ℕ → List ℕ → Type 0 = λ n b. facts.came ClientCame n b in
    let all : lines_of (all_effects (start facts) k.events) ≡ lines_of k.done ++ lines_of k.todo =
    ap lines_of k.all ∙ lines-of-both k.done k.todo in
    let words : (bytes ++ p.0) ++ k.waiting ≡ lines_of k.done = ap (λ (l : List ℕ). l ++ k.waiting) p.1 ∙ a.0 in
    let tail : List ℕ = p.0 ++ (k.waiting ++ lines_of k.todo) in
    record {
      events = k.events;
      later = k.later;
      it_came = subst (λ n. P n received) s (subst (λ b. P g.serial b) r k.it_came);
      are_first = ap items (sym r) ∙ k.are_first;
      are_by_accounts = k.are_by_accounts;
      is_never = a.1;
      is_told = (
        tail,
        sym (append_assoc bytes p.0 (k.waiting ++ lines_of k.todo))
            ∙ sym (append_assoc (bytes ++ p.0) k.waiting (lines_of k.todo))
            ∙ ap (λ (l : List ℕ). l ++ lines_of k.todo) words
            ∙ sym all,
      );
    }

pub guest-heard : (facts : NodeFacts) → Laws → (w : NetworkState) (at : ℕ) (g : Guest) → IsReached facts w → slice_get w.guests at ≡ Some g
    → IsHeardOverItsConnection facts w.place g
guest-heard facts laws w at g reached e =
    let k : Story facts w = story facts laws w reached in
    let c : IsClientSo facts w.place w.config k.taken k.said k.marks g =
    order-get (IsClientSo facts w.place w.config k.taken k.said k.marks) 0 w.joins w.guests at g e k.clients in
    let so : IsGuestSo facts w.config false c.has.0 c.did g = c.has.2 in
    record {
      joins = c.joins;
      events = so.events;
      later = so.later;
      it_came = so.it_came;
      is_joined = c.is_joined;
      it_joined = c.it_joined;
      are_first = so.are_first;
      is_count = so.is_count;
      are_by_accounts = so.are_by_accounts;
      are_seen = so.are_seen;
      came_to = so.came_to;
    }

own-told : (facts : NodeFacts) → Laws → (serial : ℕ) (received bytes : List ℕ) (w : NetworkState) (at : ℕ) (g : Guest) → IsReached facts w
    → slice_get w.guests at ≡ Some g → g.serial ≡ serial → g.received ≡ received → IsPrefix bytes g.told → HearsItsOwnAlone facts serial received bytes
own-told facts laws serial received bytes w at g reached e s r p =
    let k : Story facts w = story facts laws w reached in
    let c : IsClientSo facts w.place w.config k.taken k.said k.marks g =
    order-get (IsClientSo facts w.place w.config k.taken k.said k.marks) 0 w.joins w.guests at g e k.clients in
    let so : IsGuestSo facts w.config false c.has.0 c.did g = c.has.2 in
    let serving : Serving facts w.place w.config w.joins w.serial w.server w.batch k.taken k.said = k.serving in
    let Q : List Act → Type 0 = λ l. AreOnce l in
    record {
      world = w;
      place = at;
      guest = g;
      is_reached = reached;
      is_guest = e;
      is_serial = s;
      is_received = r;
      is_told = p;
      is_heard = record {
        joins = c.joins;
        events = so.events;
        later = so.later;
        it_came = so.it_came;
        is_joined = c.is_joined;
        it_joined = c.it_joined;
        are_first = so.are_first;
        is_count = so.is_count;
        are_by_accounts = so.are_by_accounts;
        are_seen = so.are_seen;
        came_to = so.came_to;
      };
      has_logged_in = c.has_logged_in;
      todo = so.todo;
      waiting = so.waiting;
      heard = c.has.0;
      put = k.taken;
      acts = k.marks;
      streams = serving.streams;
      course = so.course;
      are_latest = c.has.1;
      are_put = k.putting.are_put;
      are_acts = k.putting.are_acts;
      acts_once = k.putting.are_once;
      are_entries = part-first k.taken w.batch (entries_of facts w.config serving.streams) serving.is_all;
      are_streams = serving.are_streams;
      are_once = subst Q (sym serving.are_said) serving.are_once;
    }

pub hears-its-own : (facts : NodeFacts) → Laws → (serial : ℕ) (received bytes : List ℕ) → IsToldToClient facts serial received bytes
    → HearsItsSessionAlone facts serial received bytes ⊎ HearsItsOwnAlone facts serial received bytes
hears-its-own facts laws serial received bytes (AsNewcomer g n s r p) =
    let k : Goes facts no_config true [] [] g = newcomer-so facts no_config g n in
    inl (alone-told facts serial received bytes k.0 g k.2 s r p)
hears-its-own facts laws serial received bytes (AsClient w at g reached e s r p) =
    inr (own-told facts laws serial received bytes w at g reached e s r p)

-- ---- servers

server-told : (facts : NodeFacts) (network serial : ℕ) (received bytes : List ℕ) (w : NetworkState) (h : Host) (streams : List Stream) (said : List Act)
    → slice_get facts.accounts.networks w.place ≡ Some w.config → w.place ≡ network
    → AreStreams facts w.place w.config w.joins streams → IsServed facts w.place w.config w.serial (Some h) streams → said_of streams ≡ said → AreOnce said
    → h.serial ≡ serial → h.received ≡ received → IsPrefix bytes h.told → HearsItsClientsAlone facts network serial received bytes
server-told facts network serial received bytes w h [] said there is are l same once s r p = absurd l
server-told facts network serial received bytes w h (stream ∷ earlier) said there is are l same once s r p =
    let P : ℕ → Type 0 = λ n. slice_get facts.accounts.networks n ≡ Some w.config in
    let Q : ℕ → Type 0 = λ n. AreStreams facts n w.config w.joins (stream ∷ earlier) in
    let R : List Act → Type 0 = λ a. AreOnce a in
    record {
      config = w.config;
      is_configured = subst P is there;
      bound = w.joins;
      stream = stream;
      earlier = earlier;
      are_streams = subst Q is are;
      are_once = subst R (sym same) once;
      is_serial = l.is_serial ∙ s;
      is_received = l.is_received ∙ r;
      is_told = (p.0, p.1 ∙ l.is_told);
    }

pub hears-its-clients : (facts : NodeFacts) → Laws → (network serial : ℕ) (received bytes : List ℕ) → IsToldToServer facts network serial received bytes
    → HearsItsClientsAlone facts network serial received bytes
hears-its-clients facts laws network serial received bytes t =
    let w : NetworkState = t.world in
    let k : Story facts w = story facts laws w t.is_reached in
    let serving : Serving facts w.place w.config w.joins w.serial w.server w.batch k.taken k.said = k.serving in
    let P : Option Host → Type 0 = λ o. IsServed facts w.place w.config w.serial o serving.streams in
    server-told facts network serial received bytes w t.server serving.streams k.said k.is_configured t.is_place serving.are_streams
    (subst P t.is_server serving.is_served) serving.are_said serving.are_once t.is_serial t.is_received t.is_told

-- ---- what is put

record IsNextSo (facts : NodeFacts) (w : NetworkState) (all : List BatchEntry) (changes : List Change) : Type 0 where
  entries : List BatchEntry
  acts : List Act
  is_part : IsPart entries all
  putting : Putting facts w.place w.config entries acts (w.puts ++ changes)

next-put : (facts : NodeFacts) (w : NetworkState) (changes : List Change) (k : Story facts w) → IsNextPut w changes
    → IsNextSo facts w (entries_of facts w.config k.serving.streams) changes
next-put facts w changes k (OfServer is) =
    let P : List Change → Type 0 = λ l. Putting facts w.place w.config (k.taken ++ w.batch) k.marks (w.puts ++ l) in
    record {
      entries = k.taken ++ w.batch;
      acts = k.marks;
      is_part = k.serving.is_all;
      putting = subst P is (putting-batch facts w.place w.config w.batch k.taken k.marks w.puts k.putting);
    }
next-put facts w changes k (OfClient at g change more e there t is) =
    let c : IsClientSo facts w.place w.config k.taken k.said k.marks g =
    order-get (IsClientSo facts w.place w.config k.taken k.said k.marks) 0 w.joins w.guests at g e k.clients in
    let a : Act = act_of g.serial c.joins c.did (Put change) in
    let P : List Change → Type 0 = λ l. Putting facts w.place w.config k.taken (a ∷ k.marks) (w.puts ++ l) in
    record {
      entries = k.taken;
      acts = a ∷ k.marks;
      is_part = part-first k.taken w.batch (entries_of facts w.config k.serving.streams) k.serving.is_all;
      putting = subst P (sym is)
          (putting-mark facts w.place w.config k.taken k.marks w.puts change a refl
          (is-act facts w.place w.config k.taken k.said k.marks g (Put change) more there t c) c.before_marks k.putting);
    }

pub puts-what-was-said : (facts : NodeFacts) → Laws → (place : ℕ) (puts held changes : List Change) → MayBePutFor facts place puts held changes
    → PutsWhatWasSaid facts place puts held changes
puts-what-was-said facts laws place puts held changes m =
    let w : NetworkState = m.world in
    let k : Story facts w = story facts laws w m.is_reached in
    let serving : Serving facts w.place w.config w.joins w.serial w.server w.batch k.taken k.said = k.serving in
    let n : IsNextSo facts w (entries_of facts w.config serving.streams) changes = next-put facts w changes k m.is_next in
    let P : ℕ → Type 0 = λ p. slice_get facts.accounts.networks p ≡ Some w.config in
    let Q : ℕ → Type 0 = λ p. AreStreams facts p w.config w.joins serving.streams in
    let R : ℕ → Type 0 = λ p. AreActsOf facts p w.config n.acts in
    let T : List Act → Type 0 = λ l. AreOnce l in
    let V : List Change → Type 0 = λ l. facts.held l in
    let U : List Change → Type 0 = λ l. ArePutOf n.entries n.acts (l ++ changes) in
    record {
      config = w.config;
      is_configured = subst P m.is_place k.is_configured;
      is_held = subst V m.is_held k.is_held;
      bound = w.joins;
      streams = serving.streams;
      entries = n.entries;
      acts = n.acts;
      are_streams = subst Q m.is_place serving.are_streams;
      are_once = subst T (sym serving.are_said) serving.are_once;
      is_part = n.is_part;
      are_acts = subst R m.is_place n.putting.are_acts;
      acts_once = n.putting.are_once;
      are_put = subst U m.is_puts n.putting.are_put;
    }
