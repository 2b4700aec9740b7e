use Rattle.std.proofs.Common.{◌≡◌, ℕ, max, ◌+◌, ◌++◌, ◌∙◌, arith, [], refl, sym, ap, subst, length, length-append}
use Rattle.history_file.specs.Changes.{HasPast, IsCopied, nothing}
use Rattle.keeper.specs.Found.{capped}
use Rattle.keeper.specs.Keeper.{only}
use Rattle.keeper.proofs.FoundLemmas.{capped_sum}
use Rattle.keeper.proofs.PiecesLemmas.{PiecesTo, pieces_begin, pieces_go_on, pieces_end, no_changes}
use Rattle.keeper.proofs.TakenLemmas.{leaves_on}
use Rattle.keeper.proofs.compaction.copy_pieces.Goals as goal

max_zero : (n : ℕ) → max 0 n ≡ n
max_zero n = omega arith

pub returns-in_err-copy_life-clause-any_moment : goal.returns-in_err-copy_life-clause-any_moment
returns-in_err-copy_life-clause-any_moment g c = λ past k.
    leaves_on g.D.Device.moment g.D.Device.left_since c.args.file.now.journal.device c.begin_copy.new.self.journal.device c.copy_life.new.self.journal.device (λ f. HasPast f past)
    (c.begin_copy.ensures.any_moment past k) (c.copy_life.ensures.any_moment past (c.begin_copy.ensures.kept past k))

pub loop-init : goal.loop-init
loop-init g c = (
  ([], subst (λ n. IsCopied g.D.Device.side c.copy_life.new.self (only [] n)) (max_zero c.args.life) (c.in_ok-copy_life.ensures.copied nothing c.in_ok-begin_copy.ensures.begun), λ start list is. pieces_begin start list, refl),
  λ past k. c.copy_life.ensures.kept past (c.begin_copy.ensures.kept past k),
  λ past k.
      leaves_on g.D.Device.moment g.D.Device.left_since c.args.file.now.journal.device c.begin_copy.new.self.journal.device c.copy_life.new.self.journal.device (λ f. HasPast f past)
      (c.begin_copy.ensures.any_moment past k) (c.copy_life.ensures.any_moment past (c.begin_copy.ensures.kept past k)),
  omega (arith, c.begin_copy.ensures.later, c.copy_life.ensures.later),
)

pub returns-then-is_empty-clause-copied : goal.returns-then-is_empty-clause-copied
returns-then-is_empty-clause-copied g c = λ start list is.
    let none = no_changes c.in-Ok.delta.changes (sym c.is_empty.ensures ∙ c.if-is_empty.true) in
    (c.loop.invariant.0.0, c.loop.invariant.0.1, pieces_end start c.loop.from list c.loop.invariant.0.0 c.in-Ok.delta (c.in-Ok.ensures start list is) none (c.loop.invariant.0.2 start list is), c.loop.invariant.0.3)

pub returns-then-is_empty-clause-some : goal.returns-then-is_empty-clause-some
returns-then-is_empty-clause-some g c = (c.loop.invariant.0.0, c.loop.invariant.0.1)

pub returns-in_err-copy-clause-any_moment : goal.returns-in_err-copy-clause-any_moment
returns-in_err-copy-clause-any_moment g c = λ past k.
    leaves_on g.D.Device.moment g.D.Device.left_since c.args.file.now.journal.device c.loop.file.journal.device c.copy.new.self.journal.device (λ f. HasPast f past)
    (c.loop.invariant.2 past k) (c.copy.ensures.any_moment past (c.loop.invariant.1 past k))

pub loop-preserved : goal.loop-preserved
loop-preserved g c =
    let pieces = c.loop.invariant.0.0 in
    let copied = subst (λ l. IsCopied g.D.Device.side c.copy.new.self (only (pieces ++ l) c.args.life)) c.changes-changes.ensures (c.in_ok-copy.ensures.copied (only pieces c.args.life) c.loop.invariant.0.1) in
    let counted : c.saturating_add-count.result ≡ capped (length (pieces ++ c.in-Ok.delta.changes)) =
    c.saturating_add-count.ensures
    ∙ ap (λ l. capped (c.loop.count + length l)) c.changes-changes.ensures
    ∙ ap (λ n. capped (n + length c.in-Ok.delta.changes)) c.loop.invariant.0.3
    ∙ capped_sum (length pieces) (length c.in-Ok.delta.changes) (length (pieces ++ c.in-Ok.delta.changes)) (length-append pieces c.in-Ok.delta.changes) in (
      (
        pieces ++ c.in-Ok.delta.changes,
        copied,
        λ start list is. subst (PiecesTo start list (pieces ++ c.in-Ok.delta.changes)) (sym c.to-from.ensures)
            (pieces_go_on start c.loop.from list pieces c.in-Ok.delta (c.in-Ok.ensures start list is) (c.loop.invariant.0.2 start list is)),
        counted,
      ),
      λ past k. c.copy.ensures.kept past (c.loop.invariant.1 past k),
      λ past k. leaves_on g.D.Device.moment g.D.Device.left_since c.args.file.now.journal.device c.loop.file.journal.device c.copy.new.self.journal.device (λ f. HasPast f past)
          (c.loop.invariant.2 past k) (c.copy.ensures.any_moment past (c.loop.invariant.1 past k)),
      omega (arith, c.loop.invariant.3, c.copy.ensures.later),
    )
