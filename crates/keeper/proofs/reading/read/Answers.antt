use Rattle.std.proofs.Common.{◌≡◌, ℕ, List, ◌++◌, ◌∙◌, length, drop, sym, ap, subst, arith, rules}
use Rattle.std.specs.Prelude.{IfSome, Err}
use Rattle.chat_change.specs.declared.change.Change.{Change}
use Rattle.chat_history.specs.StateValue.{state_after}
use Rattle.history_file.specs.Changes.{Past, with_changes, with_life}
use Rattle.history_file.specs.Reading.{IsReadingPast, HasDamage}
use Rattle.keeper.specs.Found.{HasNoEntryAt, with_more}
use Rattle.keeper.proofs.FoundLemmas.{left_behind, from_source, no_entry_at, counted_on}
use Rattle.keeper.proofs.reading.read.Goals as goal

pub returns-in-None-clause-found : goal.returns-in-None-clause-found
returns-in-None-clause-found g c =
    let now = c.loop.invariant in
    let new = c.next.new.self.blocks in
    let done = c.in-Ok.ensures.last (search rules) now.past now.reading in
    let still = c.in-Ok.ensures.still (search rules) now.past now.reading in
    let left : c.saturating_sub-left.result ≡ length (drop new.end (g.S.ByteSource.got new.source)) =
    omega (arith, left_behind g.S.ByteSource.got new still.payloads still.reading, c.len.ensures, c.saturating_sub-left.ensures) in
    from_source g.S.ByteSource.got c.source_of-in-None.result new.source c.source_of-in-None.ensures
    (record { past = now.past; read = done.0; state = now.state; life = done.1; left = left; count = now.counted })

pub returns-in-Err-clause-refused : goal.returns-in-Err-clause-refused
returns-in-Err-clause-refused g c = λ is.
    let now = c.loop.invariant.reading in
    let end = c.loop.reader.blocks.end in
    let found = c.in-Err.ensures.refused (ap Err is) in
    subst (λ source. HasNoEntryAt (g.S.ByteSource.got source) end) (sym c.source_of.ensures)
    (no_entry_at g.S.ByteSource.got c.next.new.self.blocks now.payloads found.0 end (found.2 now.payloads now.reading) now.reading.end found.1)

pub returns-in-Err-clause-damaged : goal.returns-in-Err-clause-damaged
returns-in-Err-clause-damaged g c = λ is.
    subst (λ source. HasDamage (g.S.ByteSource.got source) c.loop.reader.blocks.end) (sym c.source_of.ensures) (c.in-Err.ensures.damaged (ap Err is))

pub loop-preserved : goal.loop-preserved
loop-preserved g c =
    let now = c.loop.invariant in
    let next = subst (λ o. IfSome o (λ more. (past : Past) → IsReadingPast g.S.ByteSource.got c.loop.reader past → (n : ℕ) × IsReadingPast g.S.ByteSource.got c.next.new.self (with_life (with_changes past more.items) n)))
    c.in-Some.is c.in-Ok.ensures.next in
    let on = next now.past now.reading in
    record {
      past = with_life (with_changes now.past c.in-Some.changes.items) on.0;
      reading = on.1;
      state = c.in-Ok-take.ensures.held c.args.front now.past.changes now.state ∙ ap (λ (l : List Change). state_after c.args.front (now.past.changes ++ l)) c.deref.ensures.value;
      counted = c.with-count.ensures ∙ ap (λ l. with_more c.loop.count l) c.deref-in-Ok-take.ensures.value ∙ counted_on c.loop.count now.past.changes c.in-Some.changes.items now.counted;
    }
