use Rattle.std.proofs.Common.{◌∷◌, ◌++◌, [], ap, sym, subst, ◌∙◌, append_assoc, append-nil}
use Rattle.std.specs.List.Sorted.{IsStrictlySortedBy}
use Rattle.std.specs.Map.{keys_of}
use Rattle.std.specs.VecDeque.Iter.{deque_iter_rest}
use Rattle.ordered_maps.specs.Pages.{entries_of}
use Rattle.ordered_maps.proofs.EntriesLemmas.{keys_with_last, sorted_none, sorted_one, sorted_with_first}
use Rattle.ordered_maps.proofs.packed_map.clones.ascend.Goals as goal

pub returns-in_default : goal.returns-in_default
returns-in_default g c = λ _.
    let all = append-nil (entries_of (deque_iter_rest c.iter.result)) ∙ ap entries_of c.iter.ensures.rest in
    subst (λ es. IsStrictlySortedBy g.K.Ord.cmp (keys_of es)) (sym c.in_default.ensures.steps.0 ∙ all) (sorted_none g.K.Ord.cmp)

pub loop-key-init : goal.loop-key-init
loop-key-init g c =
    let all = append-nil (entries_of (deque_iter_rest c.iter.result)) ∙ ap entries_of c.iter.ensures.rest in
    ([], ap keys_of (sym all ∙ c.in-Some.ensures.steps) ∙ keys_with_last c.next_back.new.self _, sorted_one g.K.Ord.cmp c.in-Some.above.now)

pub loop-key-preserved : goal.loop-key-preserved
loop-key-preserved g c =
    let seen = c.loop-key.invariant in
    let above = c.loop-key.above.now in
    let key = c.in-Some-next_back.key.now in
    let rest = c.next_back-in-loop-key.new.self in
    let out = ap keys_of c.in-Some-next_back.ensures.steps ∙ keys_with_last rest _ in (
      above ∷ seen.0,
      seen.1 ∙ ap (λ ks. ks ++ above ∷ seen.0) out ∙ append_assoc (keys_of rest) (key ∷ []) (above ∷ seen.0),
      sorted_with_first g.met.K.Ord.total key above seen.0 (sym c.in-Less.ensures) seen.2,
    )

pub returns : goal.returns
returns g c = λ _.
    let seen = c.loop-key.invariant in
    subst (IsStrictlySortedBy g.K.Ord.cmp) (sym (seen.1 ∙ ap (λ es. keys_of es ++ c.loop-key.above.now ∷ seen.0) c.in_default-next_back.ensures.steps.0)) seen.2
