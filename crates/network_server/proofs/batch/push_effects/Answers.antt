use Rattle.std.proofs.Common.{◌≡◌, List, [], ◌∷◌, ◌++◌, length, refl, sym, ap, ◌∙◌, append_assoc, append-nil, arith}
use Rattle.std.specs.Vec.Iter.{into_iter_items}
use Rattle.upstream_session.specs.declared.effect.UpEffect.{UpEffect}
use Rattle.network_log.specs.Host.{BatchEntry, entries_of}
use Rattle.network_server.specs.Entries.{entries}
use Rattle.network_server.proofs.BatchLemmas.{entries-append}
use Rattle.network_server.proofs.batch.push_effects.Goals as goal

nothing_left : {X : Type 0} (l : List X) → length l ≡ 0 → l ≡ []
nothing_left [] h = refl
nothing_left (x ∷ xs) h = absurd (omega arith)

pub push_effect-requires-clause-room_for_change : goal.push_effect-requires-clause-room_for_change
push_effect-requires-clause-room_for_change c =
    let short = ap length c.in-Some.ensures.steps.0 in
    let room = c.loop-effect.invariant.2 in
    omega (arith, short, room)

pub push_effect-requires-clause-room_for_part : goal.push_effect-requires-clause-room_for_part
push_effect-requires-clause-room_for_part c =
    let short = ap length c.in-Some.ensures.steps.0 in
    let room = c.loop-effect.invariant.3 in
    omega (arith, short, room)

pub loop-effect-preserved : goal.loop-effect-preserved
loop-effect-preserved c =
    let at = c.loop-effect in
    let effect = c.in-Some.effect in
    let nick = c.args.nick.now in
    let rest = into_iter_items c.next.new.self in
    let steps : into_iter_items at.effect-iterator ≡ effect ∷ rest = c.in-Some.ensures.steps.0 in
    let short = ap length steps in
    let before = entries at.parts.items at.changes.items in (
      ap (λ (l : List BatchEntry). l ++ entries_of nick rest) c.push_effect.ensures.entries
          ∙ append_assoc before (entries_of nick (effect ∷ [])) (entries_of nick rest)
          ∙ ap (λ (l : List BatchEntry). before ++ l) (sym (entries-append nick (effect ∷ []) rest))
          ∙ ap (λ (l : List UpEffect). before ++ entries_of nick l) (sym steps) ∙ at.invariant.0,
      c.push_effect.ensures.agree,
      let room = at.invariant.2 in let grown = c.push_effect.ensures.changes in let same = c.push_effect.ensures.same_changes in omega (arith, room, grown, same, short),
      let room = at.invariant.3 in let grown = c.push_effect.ensures.parts in let same = c.push_effect.ensures.same_parts in omega (arith, room, grown, same, short),
      let was = at.invariant.4 in let gone = c.in-Some.ensures.steps.1 in omega (arith, was, gone, short),
    )

pub returns-clause-entries : goal.returns-clause-entries
returns-clause-entries c =
    let at = c.loop-effect in
    let none = c.in-None.ensures.steps in
    let empty : into_iter_items at.effect-iterator ≡ [] = nothing_left _ (sym at.invariant.4 ∙ none.0) in
    let now = entries at.parts.items at.changes.items in
    sym (append-nil now) ∙ ap (λ (l : List UpEffect). now ++ entries_of c.args.nick.now l) (sym empty) ∙ at.invariant.0
    ∙ ap (λ (l : List UpEffect). entries c.args.parts.now.items c.args.changes.now.items ++ entries_of c.args.nick.now l) c.into_iter-effect-iterator.ensures.into_iter_gives.0

pub returns-clause-agree : goal.returns-clause-agree
returns-clause-agree c = c.loop-effect.invariant.1

pub returns-clause-parts : goal.returns-clause-parts
returns-clause-parts c = let room = c.loop-effect.invariant.3 in omega (arith, room)
