-- The nodes of a world by their places: what is held of them, and what changes with them.
use Rattle.std.proofs.Common.{◌≡◌, ℕ, ◌+◌, ◌<◌, Option, None, Some, List, [], ◌∷◌, ◌++◌, take, drop, map, length, get_or, set, Result, Ok, Err, refl, sym, ap, ◌∙◌, arith}
use Rattle.std.specs.Prelude.{◌≢◌, OnOk, IfOk, option_map}
use Rattle.std.proofs.lemmas.List.{get_or-map, get_or_default, map-set, length-map, set-get_or}
use Rattle.std.proofs.lemmas.List.Edits.{map_over_more}
use Rattle.std.proofs.Math.ListN.{length-set}
use Rattle.chat_query.specs.declared.facts.Facts.{Facts}
use Rattle.client_session.specs.declared.stage.Stage.TheVariants.{Registered}
use Rattle.cluster_directory.specs.Life.{Life}
use Rattle.peer_lines.specs.Packet.{Ack}
use Rattle.cluster_directory.specs.declared.fault.LinkFault.{LinkFault}
use Rattle.cluster_directory.specs.declared.fault.LinkFault.TheVariants.{BadForm, WrongLife, AckTooHigh, NoMemory, NotTaken, NoEntry}
use Rattle.bnc_server.specs.Node.{Node}
use Rattle.bnc_server.specs.Links.{new_node, hearing, ack_answer, late_ack}
use Rattle.bnc_server.specs.World.{World, no_node, node_at, with_node, refusal_of, ack_text, taking_ack, life_of, lives_with, after_restart}
use Rattle.bnc_server.specs.Script.{selected_node}
use Rattle.bnc_server.specs.HeldNode.{HeldNode, HeldWorld, held_node, held_world, after_ack_if, after_late}

-- ---- answers

-- what holds at `Ok` of one thing holds so of another
pub on_ok_then : {T E : Type 0} (r : Result T E) (P Q : Type 0) → OnOk r P → (P → Q) → OnOk r Q
on_ok_then (Ok x) P Q p f = f p
on_ok_then (Err e) P Q p f = tt

pub if_ok_then : {T E : Type 0} (r : Result T E) (P Q : T → Type 0) → IfOk r P → ((x : T) → P x → Q x) → IfOk r Q
if_ok_then (Ok x) P Q p f = f x p
if_ok_then (Err e) P Q p f = tt

-- ---- refused acknowledgements

pub refusal_some : (fault : LinkFault) → refusal_of fault ≢ []
refusal_some BadForm = λ none. cc
refusal_some WrongLife = λ none. cc
refusal_some AckTooHigh = λ none. cc
refusal_some NoMemory = λ none. cc
refusal_some NotTaken = λ none. cc
refusal_some NoEntry = λ none. cc

-- what is printed where what was held back is taken
pub handed_text : (w : World) (place other : ℕ) (held : Option Ack) (answer : Result (Unit {0}) LinkFault) → Some answer ≡ option_map (ack_answer (node_at w place) other) held
    → ack_text answer ≡ (taking_ack w place other held).text
handed_text w place other None answer is = cc
handed_text w place other (Some ack) answer is = (let same : answer ≡ ack_answer (node_at w place) other ack = cc in ap ack_text same)

-- ---- nodes of a world

module _ (held : HeldWorld) (w : World) (is : held ≡ held_world w) where
  nodes_are : held.nodes ≡ map held_node w.nodes
  nodes_are = ap (λ (x : HeldWorld). x.nodes) is

  selected_is : held.selected ≡ w.selected
  selected_is = ap (λ (x : HeldWorld). x.selected) is

  pub node_there : (place : ℕ) (h : HeldNode) → h ≡ get_or held.nodes place h → place < length held.nodes → h ≡ held_node (node_at w place)
  node_there place h at within =
      let there : place < length w.nodes = omega (arith, ap length nodes_are, length-map w.nodes held_node) in
      at ∙ (λ i. get_or (nodes_are i) place h) ∙ get_or-map held_node w.nodes place no_node h there

  pub node_changed : (place : ℕ) (h : HeldNode) (node : Node) → h ≡ held_node node
      → record held { nodes = set held.nodes place h } ≡ held_world (with_node w place node)
  node_changed place h node e =
      (λ i. record (is i) { nodes = set (is i).nodes place (e i) }) ∙ ap (λ l. record (held_world w) { nodes = l }) (sym (map-set held_node w.nodes place node))

  pub selected_there : (h : HeldNode) → h ≡ get_or held.nodes held.selected h → held.selected < length held.nodes → h ≡ held_node (selected_node w)
  selected_there h at within = node_there held.selected h at within ∙ ap (λ p. held_node (node_at w p)) selected_is

  pub selected_changed : (h : HeldNode) (node : Node) → h ≡ held_node node
      → record held { nodes = set held.nodes held.selected h } ≡ held_world (with_node w w.selected node)
  selected_changed h node e = node_changed held.selected h node e ∙ ap (λ p. held_world (with_node w p node)) selected_is

  -- the lives of all nodes, one of them in another
  pub lives_are : (place : ℕ) (life : Life) → set (map (λ (h : HeldNode). h.life) held.nodes) place life ≡ lives_with w place life
  lives_are place life = ap (λ l. set l place life) (ap (map (λ (h : HeldNode). h.life)) nodes_are ∙ lives w.nodes) where
    lives : (nodes : List Node) → map (λ (h : HeldNode). h.life) (map held_node nodes) ≡ map life_of nodes
    lives [] = refl
    lives (node ∷ nodes) = ap (λ l. node.life ∷ l) (lives nodes)

  -- the node at a place took what was held back of another
  pub handed_over : (place other : ℕ) (h : HeldNode) → h ≡ held_node (after_late (node_at w place) other)
      → record held { nodes = set held.nodes place h } ≡ held_world (taking_ack w place other (late_ack (node_at w place) other)).world
  handed_over place other h e = node_changed place h _ e ∙ ap held_world (go (late_ack (node_at w place) other)) where
    go : (o : Option Ack) → with_node w place (after_ack_if (node_at w place) other o) ≡ (taking_ack w place other o).world
    go None = ap (λ l. record w { nodes = l }) (set-get_or w.nodes place no_node)
    go (Some ack) = refl

  -- the nodes heard of a life, and the one at the place began it
  pub restarted : (place : ℕ) (life : Life) (heard : List HeldNode) (h h' : HeldNode) (facts : Facts) (lives : List Life)
      → heard ≡ map held_node (map (hearing place life) w.nodes) → h ≡ get_or heard place h → place < length held.nodes
      → facts ≡ held.facts → lives ≡ lives_with w place life
      → ((node : Node) → h ≡ held_node node → h' ≡ held_node (new_node (Registered facts) life lives node.late))
      → record held { nodes = set heard place h' } ≡ held_world (after_restart w place life)
  restarted place life heard h h' facts lives all at within copied are begins =
      let hears : Node → Node = hearing place life in
      let there : place < length w.nodes = omega (arith, ap length nodes_are, length-map w.nodes held_node) in
      let heard_there : place < length (map hears w.nodes) = omega (arith, there, length-map w.nodes hears) in
      let node = hears (node_at w place) in
      let is_node : h ≡ held_node node =
      at ∙ (λ i. get_or (all i) place h) ∙ get_or-map held_node (map hears w.nodes) place no_node h heard_there
      ∙ ap held_node (get_or-map hears w.nodes place no_node no_node there) in
      let facts_are : facts ≡ w.facts = copied ∙ ap (λ (x : HeldWorld). x.facts) is in
      let begun : h' ≡ held_node (new_node (Registered w.facts) life (lives_with w place life) (node_at w place).late) =
      begins node is_node ∙ (λ i. held_node (new_node (Registered (facts_are i)) life (are i) (node_at w place).late)) in
      (λ i. record (is i) { nodes = set (all i) place (begun i) })
      ∙ ap (λ l. record (held_world w) { nodes = l }) (sym (map-set held_node (map hears w.nodes) place (new_node (Registered w.facts) life (lives_with w place life) (node_at w place).late)))

-- another element of a list stands where it stood
pub still_within : {X : Type 0} → (xs : List X) (i j : ℕ) (x : X) → j < length xs → j < length (set xs i x)
still_within xs i j x h = rw length-set h

-- a loop that changes each node that is held
pub nodes_more : (f : Node → Node) (nodes : List Node) (helds : List HeldNode) (i : ℕ) (h h' : HeldNode)
    → helds ≡ map held_node (map f (take i nodes) ++ drop i nodes) → i < length nodes → i < length helds → h ≡ get_or helds i h
    → ((node : Node) → h ≡ held_node node → h' ≡ held_node (f node))
    → set helds i h' ≡ map held_node (map f (take (i + 1) nodes) ++ drop (i + 1) nodes)
nodes_more f nodes helds i h h' are less within at changes =
    let so_far : List Node = map f (take i nodes) ++ drop i nodes in
    let node = get_or so_far i no_node in
    let there : i < length so_far = omega (arith, ap length are, length-map so_far held_node) in
    let is : h ≡ held_node node = at ∙ (λ j. get_or (are j) i h) ∙ get_or-map held_node so_far i no_node h there in
    (λ j. set (are j) i (changes node is j)) ∙ sym (map-set held_node so_far i (f node))
    ∙ ap (map held_node) (map_over_more f nodes so_far i node less refl (get_or_default so_far i no_node node there))
