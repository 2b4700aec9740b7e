-- Every line of a script is some events of a cluster, and so is every script.
use Rattle.std.proofs.Common.{◌≡◌, ℕ, true, false, cond, Option, Some, None, List, [], ◌∷◌, ◌++◌, drop, refl, sym, ◌∙◌, ap, lit<, append_assoc, append-nil}
use Rattle.std.specs.Prelude.{⊤, Result, Ok, Err}
use Rattle.byte_text.specs.Bytes.{begins_with}
use Rattle.irc_line.specs.Stream.{Item, items, line, too_long}
use Rattle.irc_line.specs.Line.{Reading}
use Rattle.irc_line.specs.Read.{read}
use Rattle.irc_line.specs.declared.line.LineFault.{LineFault}
use Rattle.irc_line.specs.declared.line.TagLimit.TheVariants.{Client}
use Rattle.chat_change.specs.declared.change.Change.{Change}
use Rattle.chat_query.specs.declared.facts.Facts.{Facts}
use Rattle.change_lines.specs.ChangeLine.{read_change}
use Rattle.client_session.specs.Session.{facts_in, too_long as too_long_step}
use Rattle.client_session.specs.Step.{Step}
use Rattle.client_session.specs.declared.effect.Effect.{Effect}
use Rattle.client_session.specs.declared.effect.Effect.TheVariants.{Send, Put, Ask, Upstream, Close}
use Rattle.bnc_server.specs.Command.{command_of}
use Rattle.bnc_server.specs.Request.{Request, of_change, of_command, of_client, over_long, is_change_line, request_in, request_of}
use Rattle.bnc_server.specs.Node.{Node, Reply, with_session, after_taking, answer_to, reply_to_effect, reply_to_effects, reply_to_step, step_of, reply_to_line, reply_to_long_line}
use Rattle.bnc_server.specs.World.{World}
use Rattle.bnc_server.specs.Script.{session_of, start, of_reply, selected_node, outcome}
use Rattle.bnc_server.specs.ChangeLines.{world_after}
use Rattle.bnc_server.specs.Schedule.{IsSchedule}
use Rattle.bnc_server.proofs.ScheduleLemmas.{own_shown, shown_is}
use Rattle.bnc_server.proofs.ScheduleStartLemmas.{begun_shown, IsCommand, command_is, Goes, command_goes}

-- ---- what a client's line leaves as it is

-- the node took more, and its life, its links and what is held back are as they were
record Keeps (old new : Node) : Type 0 where
  changes : List Change
  taken : new.taken ≡ old.taken ++ changes
  life : new.life ≡ old.life
  links : new.links ≡ old.links
  late : new.late ≡ old.late

keeps_itself : (node : Node) → Keeps node node
keeps_itself node = record { changes = []; taken = sym (append-nil node.taken); life = refl; links = refl; late = refl }

keeps_then : (a b c : Node) → Keeps a b → Keeps b c → Keeps a c
keeps_then a b c p q = record {
  changes = p.changes ++ q.changes;
  taken = q.taken ∙ ap (λ l. l ++ q.changes) p.taken ∙ append_assoc a.taken p.changes q.changes;
  life = q.life ∙ p.life;
  links = q.links ∙ p.links;
  late = q.late ∙ p.late;
}

answer_keeps : (node : Node) (facts : Option Facts) (line : Result Reading LineFault) → Keeps node (answer_to node facts line).node
answer_keeps node (Some facts) (Ok question) = record { changes = []; taken = sym (append-nil node.taken); life = refl; links = refl; late = refl }
answer_keeps node (Some facts) (Err fault) = keeps_itself node
answer_keeps node None (Ok question) = keeps_itself node
answer_keeps node None (Err fault) = keeps_itself node

effect_keeps : (node : Node) (effect : Effect) → Keeps node (reply_to_effect node effect).node
effect_keeps node (Send bytes) = keeps_itself node
effect_keeps node (Put change) = record { changes = change ∷ []; taken = refl; life = refl; links = refl; late = refl }
effect_keeps node (Ask text) = answer_keeps node (facts_in node.session) (read Client text)
effect_keeps node (Upstream bytes) = keeps_itself node
effect_keeps node Close = keeps_itself node

effects_keep : (node : Node) (effects : List Effect) → Keeps node (reply_to_effects node effects).node
effects_keep node [] = keeps_itself node
effects_keep node (effect ∷ effects) =
    keeps_then node (reply_to_effect node effect).node (reply_to_effects (reply_to_effect node effect).node effects).node
    (effect_keeps node effect) (effects_keep (reply_to_effect node effect).node effects)

step_keeps : (node : Node) (s : Step) → Keeps node (reply_to_step node s).node
step_keeps node s =
    keeps_then node (with_session node s.session) (reply_to_step node s).node
    (record { changes = []; taken = sym (append-nil node.taken); life = refl; links = refl; late = refl })
    (effects_keep (with_session node s.session) s.effects)

-- ---- requests

reply_goes : (v : World) (reply : Reply) → Keeps (selected_node v) reply.node → Goes v → Goes (of_reply v reply).world
reply_goes v reply keeps g = record {
  selected = g.selected;
  shown = own_shown v v.selected reply.node keeps.changes g.selected g.shown keeps.life keeps.links keeps.late keeps.taken;
}

abbrev IsRequest : Request → Type 0
IsRequest (of_change change) = ⊤
IsRequest (of_command command) = IsCommand command
IsRequest (of_client bytes) = ⊤
IsRequest over_long = ⊤

request_goes : (v : World) (a : Request) → IsRequest a → Goes v → Goes (outcome v a).world
request_goes v (of_change (Ok change)) is g = record {
  selected = g.selected;
  shown = own_shown v v.selected (after_taking (selected_node v) (change ∷ [])) (change ∷ []) g.selected g.shown refl refl refl refl;
}
request_goes v (of_change (Err fault)) is g = g
request_goes v (of_command command) is g = command_goes v command is g
request_goes v (of_client bytes) is g =
    reply_goes v (reply_to_line v.directory (selected_node v) bytes) (step_keeps (selected_node v) (step_of v.directory (selected_node v) bytes)) g
request_goes v over_long is g =
    reply_goes v (reply_to_long_line v.directory (selected_node v)) (step_keeps (selected_node v) (too_long_step v.directory (selected_node v).session)) g

request_is : (item : Item) → IsRequest (request_of item)
unfolding request_in
request_is (line bytes) =
    elim (is_change_line bytes) as (λ t. IsRequest (cond t (of_change (read_change bytes)) (cond (begins_with 37 bytes) (of_command (command_of (drop 1 bytes))) (of_client bytes)))) [
      | true ↦ tt
      | false ↦ elim (begins_with 37 bytes) as (λ t. IsRequest (cond t (of_command (command_of (drop 1 bytes))) (of_client bytes))) [
        | true ↦ command_is (drop 1 bytes)
        | false ↦ tt
      ]
    ]
request_is too_long = tt

items_go : (v : World) (items : List Item) → Goes v → Goes (world_after v items)
items_go v [] g = g
items_go v (item ∷ items) g = items_go (outcome v (request_of item)).world items (request_goes v (request_of item) (request_is item) g)

-- ---- scripts

pub script_is_schedule : (input account network nick : List ℕ) → IsSchedule (world_after (start account network nick) (items input))
script_is_schedule input account network nick =
    let first = start account network nick in
    let g = items_go first (items input) (record { selected = lit< tt; shown = begun_shown first (session_of account network nick) refl }) in
    (g.shown.0, g.shown.1.reached, shown_is g.shown.0 (world_after first (items input)) g.shown.1)
