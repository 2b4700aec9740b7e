use Rattle.std.proofs.Common.{◌≡◌, ◌<◌, ◌≤◌, ◌+◌, ◌++◌, length, vec_len, vec_capacity}
use Rattle.std.specs.Vec.Iter.{into_iter_items, into_iter_len}
use Rattle.network_log.specs.Host.{entries_of}
use Rattle.network_server.specs.Entries.{entries, posted_count}
use Rattle.network_server.proofs.batch.push_effects.Given as goal

abbrev pub invariant-loop-effect : goal.invariant-loop-effect
invariant-loop-effect l =
    (entries l.parts.items l.changes.items ++ entries_of l.nick (into_iter_items l.effect-iterator)
    ≡ entries l.fn.parts.items l.fn.changes.items ++ entries_of l.nick (into_iter_items l.initial.effect-iterator))
    × (posted_count l.parts.items ≡ length l.changes.items)
    × (vec_len l.changes + length (into_iter_items l.effect-iterator) ≤ vec_capacity l.changes)
    × (vec_len l.parts + length (into_iter_items l.effect-iterator) < vec_capacity l.parts)
    × (into_iter_len l.effect-iterator ≡ length (into_iter_items l.effect-iterator))
