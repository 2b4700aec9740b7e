-- Worlds whose nodes took the same sets of changes print the same.
use Rattle.std.proofs.Common.{◌≡◌, ℕ, zero, suc, get_or, set, map, List, [], ◌∷◌, ◌++◌, Option, None, Some, Result, Ok, Err, refl, sym, ap, ◌∙◌, subst, append_assoc, ⊎_elim}
use Rattle.std.specs.Prelude.{Contains}
use Rattle.std.specs.List.{cons_option, list_any}
use Rattle.std.specs.Str.{bytes_eq}
use Rattle.std.proofs.lemmas.List.{append-nil}
use Rattle.std.proofs.lemmas.List.Elements.{Contains-append_right, Contains-append_left, Contains-append_cases}
use Rattle.irc_line.specs.declared.line.LineFault.{LineFault}
use Rattle.irc_line.specs.declared.line.TagLimit.TheVariants.{Client}
use Rattle.irc_line.specs.Line.{Reading}
use Rattle.irc_line.specs.Read.{read}
use Rattle.irc_line.specs.Stream.{Item}
use Rattle.chat_change.specs.Record.{Record}
use Rattle.chat_change.specs.declared.change.Change.{Change}
use Rattle.chat_history.specs.History.{norm, changes_of, SameSet}
use Rattle.chat_history.specs.Visible.{records_in}
use Rattle.chat_history.proofs.CallerLemmas.{norm_left, norm_of_set}
use Rattle.chat_query.specs.Answers.{Answer}
use Rattle.chat_query.specs.declared.facts.Facts.{Facts}
use Rattle.chat_query.proofs.CallerLemmas.{same_answer}
use Rattle.cluster_directory.specs.Directory.{Directory}
use Rattle.client_session.specs.Lookup.{MessageName, name_sought}
use Rattle.client_session.specs.Session.{step, too_long, facts_in, session_after}
use Rattle.client_session.specs.Step.{Step}
use Rattle.client_session.specs.declared.effect.Effect.{Effect}
use Rattle.client_session.specs.declared.effect.Effect.TheVariants.{Send, Put, Ask, Upstream, Close}
use Rattle.client_session.specs.declared.stage.Stage.TheVariants.{Registered}
use Rattle.cluster_directory.specs.Life.{Life}
use Rattle.bnc_server.specs.Node.{Node, Reply, after_taking, with_session, answer_to, reply_to_effect, reply_to_effects, reply_to_step, is_shown, step_of, reply_to_line, reply_to_long_line}
use Rattle.bnc_server.specs.Request.{Request, of_change, of_command, of_client, over_long, request_of}
use Rattle.bnc_server.specs.Command.{select, exchange, lose, hold_back, hand_over, restart, bad_form}
use Rattle.bnc_server.specs.Links.{new_node, after_making, hearing}
use Rattle.bnc_server.specs.World.{World, no_node, node_at, with_node, lives_with, next_life, life_of}
use Rattle.bnc_server.specs.Script.{selected_node, after_change, outcome, text_of}
use Rattle.bnc_server.specs.ChangeLines.{IsOfChange, AreChangeLines, IsLocal, AreLocal, AllTookTheSame, AreAlike, change_in, changes_in, world_after}

-- ---- nodes of one session that hold the same

record Alike (n m : Node) : Type 0 where
  session : n.session ≡ m.session
  history : norm n.taken ≡ norm m.taken

record SameReply (a b : Reply) : Type 0 where
  text : a.text ≡ b.text
  node : Alike a.node b.node

module _ (n m : Node) (s : Alike n m) where
  took_alike : (changes : List Change) → norm (n.taken ++ changes) ≡ norm (m.taken ++ changes)
  took_alike changes = sym (norm_left n.taken changes) ∙ ap (λ h. norm (changes_of h ++ changes)) s.history ∙ norm_left m.taken changes

  answer_alike : (o : Option Facts) (r : Result Reading LineFault) → SameReply (answer_to n o r) (answer_to m o r)
  answer_alike None r = record { text = refl; node = s }
  answer_alike (Some facts) (Err fault) = record { text = refl; node = s }
  answer_alike (Some facts) (Ok line) =
      let same = same_answer n.taken m.taken s.history facts line in record {
        text = ap (λ (a : Answer). a.text) same;
        node = record { session = λ i. session_after (s.session i) (same i).answered; history = s.history };
      }

  effect_alike : (effect : Effect) → SameReply (reply_to_effect n effect) (reply_to_effect m effect)
  effect_alike (Send bytes) = record { text = refl; node = s }
  effect_alike (Put change) = record { text = refl; node = record { session = s.session; history = took_alike (change ∷ []) } }
  effect_alike (Ask line) =
      subst (λ o. SameReply (answer_to n (facts_in n.session) (read Client line)) (answer_to m o (read Client line))) (ap facts_in s.session)
      (answer_alike (facts_in n.session) (read Client line))
  effect_alike (Upstream bytes) = record { text = refl; node = s }
  effect_alike Close = record { text = refl; node = s }

  shown_alike : (o : Option MessageName) → is_shown n.taken o ≡ is_shown m.taken o
  shown_alike None = refl
  shown_alike (Some place) = ap (λ h. list_any (λ (r : Record). bytes_eq r.id place.id) (records_in h place.buffer)) s.history

  step_alike : (directory : Directory) (bytes : List ℕ) → step_of directory n bytes ≡ step_of directory m bytes
  step_alike directory bytes =
      ap (λ b. step directory b n.session bytes) (shown_alike (name_sought n.session bytes))
      ∙ (λ i. step directory (is_shown m.taken (name_sought (s.session i) bytes)) (s.session i) bytes)

effects_alike : (effects : List Effect) (n m : Node) → Alike n m → SameReply (reply_to_effects n effects) (reply_to_effects m effects)
effects_alike [] n m s = record { text = refl; node = s }
effects_alike (effect ∷ effects) n m s =
    let one = effect_alike n m s effect in
    let more = effects_alike effects (reply_to_effect n effect).node (reply_to_effect m effect).node one.node in
    record { text = λ i. one.text i ++ more.text i; node = more.node }

stepped_alike : (n m : Node) → Alike n m → (a b : Step) → a ≡ b → SameReply (reply_to_step n a) (reply_to_step m b)
stepped_alike n m s a b e =
    subst (λ c. SameReply (reply_to_step n a) (reply_to_step m c)) e
    (effects_alike a.effects (with_session n a.session) (with_session m a.session) (record { session = refl; history = s.history }))

line_alike : (directory : Directory) (n m : Node) → Alike n m → (bytes : List ℕ) → SameReply (reply_to_line directory n bytes) (reply_to_line directory m bytes)
line_alike directory n m s bytes = stepped_alike n m s _ _ (step_alike n m s directory bytes)

long_alike : (directory : Directory) (n m : Node) → Alike n m → SameReply (reply_to_long_line directory n) (reply_to_long_line directory m)
long_alike directory n m s = stepped_alike n m s _ _ (ap (too_long directory) s.session)

-- ---- nodes by their places

AllAlike : List Node → List Node → Type 0
AllAlike [] [] = Unit {0}
AllAlike [] (m ∷ ms) = ⊥
AllAlike (n ∷ ns) [] = ⊥
AllAlike (n ∷ ns) (m ∷ ms) = Alike n m × AllAlike ns ms

none_alike : Alike no_node no_node
none_alike = record { session = refl; history = refl }

at_alike : (ns ms : List Node) → AllAlike ns ms → (i : ℕ) → Alike (get_or ns i no_node) (get_or ms i no_node)
unfolding AllAlike
at_alike [] [] s i = none_alike
at_alike [] (m ∷ ms) s i = absurd s
at_alike (n ∷ ns) [] s i = absurd s
at_alike (n ∷ ns) (m ∷ ms) s zero = s.0
at_alike (n ∷ ns) (m ∷ ms) s (suc i) = at_alike ns ms s.1 i

set_alike : (ns ms : List Node) → AllAlike ns ms → (i : ℕ) (n m : Node) → Alike n m → AllAlike (set ns i n) (set ms i m)
unfolding AllAlike
set_alike [] [] s i n m a = tt
set_alike [] (y ∷ ms) s i n m a = absurd s
set_alike (x ∷ ns) [] s i n m a = absurd s
set_alike (x ∷ ns) (y ∷ ms) s zero n m a = (a, s.1)
set_alike (x ∷ ns) (y ∷ ms) s (suc i) n m a = (s.0, set_alike ns ms s.1 i n m a)

-- what they hear of changes neither what they took nor their sessions
heard_alike : (place : ℕ) (one other : Life) (ns ms : List Node) → AllAlike ns ms → AllAlike (map (hearing place one) ns) (map (hearing place other) ms)
unfolding AllAlike
heard_alike place one other [] [] s = tt
heard_alike place one other [] (m ∷ ms) s = absurd s
heard_alike place one other (n ∷ ns) [] s = absurd s
heard_alike place one other (n ∷ ns) (m ∷ ms) s = (record { session = s.0.session; history = s.0.history }, heard_alike place one other ns ms s.1)

norm_alike : (ns ms : List Node) → AllTookTheSame ns ms → AllAlike ns ms
unfolding AllAlike
norm_alike [] [] s = tt
norm_alike [] (m ∷ ms) s = absurd s
norm_alike (n ∷ ns) [] s = absurd s
norm_alike (n ∷ ns) (m ∷ ms) s = (record { session = s.0.session; history = norm_of_set n.taken m.taken s.0.taken }, norm_alike ns ms s.1)

-- ---- worlds

record AlikeWorlds (v w : World) : Type 0 where
  directory : v.directory ≡ w.directory
  facts : v.facts ≡ w.facts
  selected : v.selected ≡ w.selected
  nodes : AllAlike v.nodes w.nodes

module _ (v w : World) (s : AlikeWorlds v w) where
  selected_alike : Alike (selected_node v) (selected_node w)
  selected_alike =
      subst (λ i. Alike (selected_node v) (get_or w.nodes i no_node)) s.selected (at_alike v.nodes w.nodes s.nodes v.selected)

  -- the selected node becomes another
  with_selected : (n m : Node) → Alike n m → AlikeWorlds (with_node v v.selected n) (with_node w w.selected m)
  with_selected n m a = record {
    directory = s.directory;
    facts = s.facts;
    selected = s.selected;
    nodes = subst (λ i. AllAlike (set v.nodes v.selected n) (set w.nodes i m)) s.selected (set_alike v.nodes w.nodes s.nodes v.selected n m a);
  }

  client_alike : (bytes : List ℕ) → SameReply (reply_to_line v.directory (selected_node v) bytes) (reply_to_line w.directory (selected_node w) bytes)
  client_alike bytes =
      subst (λ d. SameReply (reply_to_line v.directory (selected_node v) bytes) (reply_to_line d (selected_node w) bytes)) s.directory
      (line_alike v.directory (selected_node v) (selected_node w) selected_alike bytes)

  cut_alike : SameReply (reply_to_long_line v.directory (selected_node v)) (reply_to_long_line w.directory (selected_node w))
  cut_alike =
      subst (λ d. SameReply (reply_to_long_line v.directory (selected_node v)) (reply_to_long_line d (selected_node w))) s.directory
      (long_alike v.directory (selected_node v) (selected_node w) selected_alike)

  text_alike : (a : Request) → IsLocal a → (outcome v a).text ≡ (outcome w a).text
  text_alike (of_change (Ok change)) local = refl
  text_alike (of_change (Err fault)) local = refl
  text_alike (of_command (select node)) local = refl
  text_alike (of_command (exchange sender receiver)) local = absurd local
  text_alike (of_command (lose sender receiver)) local = refl
  text_alike (of_command (hold_back sender receiver)) local = absurd local
  text_alike (of_command (hand_over sender receiver)) local = absurd local
  text_alike (of_command (restart node)) local = refl
  text_alike (of_command bad_form) local = refl
  text_alike (of_client bytes) local = (client_alike bytes).text
  text_alike over_long local = cut_alike.text

  change_alike : (change : Change) → AlikeWorlds (after_change v change) (after_change w change)
  change_alike change =
      let a = selected_alike in
      with_selected (after_taking (selected_node v) (change ∷ [])) (after_taking (selected_node w) (change ∷ []))
      (record { session = a.session; history = took_alike (selected_node v) (selected_node w) a (change ∷ []) })

  lost_alike : (sender receiver : ℕ) → AllAlike (set v.nodes sender (after_making (node_at v sender) receiver)) (set w.nodes sender (after_making (node_at w sender) receiver))
  lost_alike sender receiver =
      let a = at_alike v.nodes w.nodes s.nodes sender in
      set_alike v.nodes w.nodes s.nodes sender (after_making (node_at v sender) receiver) (after_making (node_at w sender) receiver) (record { session = a.session; history = a.history })

  begun_alike : (place : ℕ) (one other : Life) → AllAlike
      (set (map (hearing place one) v.nodes) place (new_node (Registered v.facts) one (lives_with v place one) (node_at v place).late))
      (set (map (hearing place other) w.nodes) place (new_node (Registered w.facts) other (lives_with w place other) (node_at w place).late))
  begun_alike place one other =
      set_alike (map (hearing place one) v.nodes) (map (hearing place other) w.nodes) (heard_alike place one other v.nodes w.nodes s.nodes) place _ _
      (record { session = ap Registered s.facts; history = refl })

  world_alike : (a : Request) → IsLocal a → AlikeWorlds (outcome v a).world (outcome w a).world
  world_alike (of_change (Ok change)) local = change_alike change
  world_alike (of_change (Err fault)) local = s
  world_alike (of_command (select node)) local = record { directory = s.directory; facts = s.facts; selected = refl; nodes = s.nodes }
  world_alike (of_command (exchange sender receiver)) local = absurd local
  world_alike (of_command (lose sender receiver)) local = record { directory = s.directory; facts = s.facts; selected = s.selected; nodes = lost_alike sender receiver }
  world_alike (of_command (hold_back sender receiver)) local = absurd local
  world_alike (of_command (hand_over sender receiver)) local = absurd local
  world_alike (of_command (restart node)) local = record {
    directory = s.directory;
    facts = s.facts;
    selected = s.selected;
    nodes = begun_alike node (next_life (life_of (node_at v node))) (next_life (life_of (node_at w node)));
  }
  world_alike (of_command bad_form) local = s
  world_alike (of_client bytes) local = with_selected _ _ (client_alike bytes).node
  world_alike over_long local = with_selected _ _ cut_alike.node

printed_alike : (items : List Item) (v w : World) → AlikeWorlds v w → AreLocal items → text_of v items ≡ text_of w items
printed_alike [] v w s local = refl
printed_alike (item ∷ items) v w s local =
    λ i. text_alike v w s (request_of item) local.0 i
    ++ printed_alike items (outcome v (request_of item)).world (outcome w (request_of item)).world (world_alike v w s (request_of item) local.0) local.1 i

pub same_printed : (one two : World) (items : List Item) → AreAlike one two → AreLocal items → text_of one items ≡ text_of two items
same_printed one two items s local =
    printed_alike items one two
    (record { directory = s.directory; facts = s.facts; selected = s.selected; nodes = norm_alike one.nodes two.nodes s.nodes }) local

pub text_of-append : (w : World) (before items : List Item) → text_of w (before ++ items) ≡ text_of w before ++ text_of (world_after w before) items
text_of-append w [] items = refl
text_of-append w (item ∷ before) items =
    ap (λ l. (outcome w (request_of item)).text ++ l) (text_of-append (outcome w (request_of item)).world before items)
    ∙ sym (append_assoc (outcome w (request_of item)).text (text_of (outcome w (request_of item)).world before) _)

pub world_after-append : (w : World) (before items : List Item) → world_after w (before ++ items) ≡ world_after (world_after w before) items
world_after-append w [] items = refl
world_after-append w (item ∷ before) items = world_after-append (outcome w (request_of item)).world before items

-- ---- lines of changes

-- nodes of which the one at a place took more changes
with_more : List Node → ℕ → List Change → List Node
with_more [] place more = []
with_more (n ∷ ns) zero more = after_taking n more ∷ ns
with_more (n ∷ ns) (suc place) more = n ∷ with_more ns place more

abbrev took_more : World → List Change → World
took_more w more = record w { nodes = with_more w.nodes w.selected more }

more-nothing : (nodes : List Node) (place : ℕ) → with_more nodes place [] ≡ nodes
unfolding with_more
more-nothing [] place = refl
more-nothing (n ∷ ns) zero = ap (λ l. record n { taken = l } ∷ ns) (append-nil n.taken)
more-nothing (n ∷ ns) (suc place) = ap (λ l. n ∷ l) (more-nothing ns place)

more-behind : (nodes : List Node) (place : ℕ) (change : Change) (more : List Change)
    → with_more (set nodes place (after_taking (get_or nodes place no_node) (change ∷ []))) place more ≡ with_more nodes place (change ∷ more)
unfolding with_more
more-behind [] place change more = refl
more-behind (n ∷ ns) zero change more = ap (λ l. record n { taken = l } ∷ ns) (append_assoc n.taken (change ∷ []) more)
more-behind (n ∷ ns) (suc place) change more = ap (λ l. n ∷ l) (more-behind ns place change more)

-- the world after lines of changes, which its selected node took
after_changes : (w : World) (items : List Item) → AreChangeLines items → world_after w items ≡ took_more w (changes_in items)
after_changes w [] all = ap (λ l. record w { nodes = l }) (sym (more-nothing w.nodes w.selected))
after_changes w (item ∷ items) all =
    go (request_of item) all.0 (λ next. after_changes next items all.1) where
      go : (a : Request) → IsOfChange a → ((next : World) → world_after next items ≡ took_more next (changes_in items))
          → world_after (outcome w a).world items ≡ took_more w (cons_option (change_in a) (changes_in items))
      go (of_change (Ok change)) is rest =
          rest (after_change w change) ∙ ap (λ l. record w { nodes = l }) (more-behind w.nodes w.selected change (changes_in items))
      go (of_change (Err fault)) is rest = rest w
      go (of_command command) is rest = absurd is
      go (of_client bytes) is rest = absurd is
      go over_long is rest = absurd is

same_behind : (before one two : List Change) → SameSet one two → SameSet (before ++ one) (before ++ two)
same_behind before one two s c = (to one two (s c).0, to two one (s c).1) where
  to : (one two : List Change) → (Contains one c → Contains two c) → Contains (before ++ one) c → Contains (before ++ two) c
  to one two t h =
      ⊎_elim (λ l. Contains-append_left before two c l) (λ r. Contains-append_right before two c (t r)) (Contains-append_cases before one c h)

itself : (nodes : List Node) → AllTookTheSame nodes nodes
itself [] = tt
itself (n ∷ ns) = (record { session = refl; taken = λ c. ((λ h. h), (λ h. h)) }, itself ns)

more_alike : (nodes : List Node) (place : ℕ) (one two : List Change) → SameSet one two → AllTookTheSame (with_more nodes place one) (with_more nodes place two)
unfolding with_more
more_alike [] place one two s = tt
more_alike (n ∷ ns) zero one two s = (record { session = refl; taken = same_behind n.taken one two s }, itself ns)
more_alike (n ∷ ns) (suc place) one two s = (record { session = refl; taken = λ c. ((λ h. h), (λ h. h)) }, more_alike ns place one two s)

pub same_after : (w : World) (one two items : List Item) → AreChangeLines one → AreChangeLines two → SameSet (changes_in one) (changes_in two) → AreLocal items
    → text_of (world_after w one) items ≡ text_of (world_after w two) items
same_after w one two items p q s local =
    ap (λ v. text_of v items) (after_changes w one p)
    ∙ same_printed (took_more w (changes_in one)) (took_more w (changes_in two)) items
    (record { directory = refl; facts = refl; selected = refl; nodes = more_alike w.nodes w.selected (changes_in one) (changes_in two) s }) local
    ∙ ap (λ v. text_of v items) (sym (after_changes w two q))
