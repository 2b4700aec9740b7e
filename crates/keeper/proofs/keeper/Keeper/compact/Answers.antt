use Rattle.std.proofs.Common.{◌≡◌, ℕ, List, true, sym, subst, arith, length}
use Rattle.block_file.specs.Device.{LeavesOnly}
use Rattle.chat_change.specs.declared.change.Change.{Change}
use Rattle.history_file.proofs.CallerLemmas.{leaves_too}
use Rattle.history_file.specs.Changes.{IsKept}
use Rattle.keeper.specs.Found.{capped}
use Rattle.keeper.specs.Keeper.{KeeperValue, HasTaken, Covers, IsCovering, ArePieces, only, HasNoOthers, WasGiven}
use Rattle.keeper.proofs.StemLemmas.{given_at_rest, kept_without, no_others_either, pieces_stem}
use Rattle.keeper.proofs.TakenLemmas.{covering_left, kept_on, pieces_say, either, leaves_on}
use Rattle.keeper.proofs.keeper.Keeper.compact.Goals as goal

pub returns-in_err-count-clause-taken : goal.returns-in_err-count-clause-taken
returns-in_err-count-clause-taken g c = λ start list h.
    let is_open = subst (λ (v : KeeperValue g.row.D.Denot). v.is_open ≡ true) (sym c.self.view_is) c.requires.open in
    let own = subst (λ v. HasTaken g.D.Device.seen g.D.Device.may_leave v start list) (sym c.self.view_is) h in
    let now = kept_on g.D.Device.seen g.D.Device.may_leave c.self.inside.file c.copy_pieces.new.file list c.copy_pieces.ensures.kept (own.covering is_open) in
    record { state = own.state; left = covering_left g.D.Device.seen g.D.Device.may_leave c.copy_pieces.new.file list now; covering = λ o. now }

pub returns-in_err-count-clause-any_moment : goal.returns-in_err-count-clause-any_moment
returns-in_err-count-clause-any_moment g c =
    let is_open = subst (λ (v : KeeperValue g.row.D.Denot). v.is_open ≡ true) (sym c.self.view_is) c.requires.open in
    subst (λ (v : KeeperValue g.row.D.Denot). (start : ℕ) (list : List Change) → HasTaken g.D.Device.seen g.D.Device.may_leave v start list → LeavesOnly g.D.Device.moment g.D.Device.left_since v.file.journal.device c.copy_pieces.new.file.journal.device (Covers list v.life)) c.self.view_is
    (λ start list own.
    let s = own.covering is_open in
    let first = leaves_too g.D.Device.moment g.D.Device.left_since c.self.inside.file.journal.device c.copy_pieces.new.file.journal.device _ (Covers list c.self.inside.life) (λ f has. record { past = s.past; has = has; says = s.says; life = s.life }) (c.copy_pieces.ensures.any_moment s.past s.kept) in
    first)

pub end_copy-requires : goal.end_copy-requires
end_copy-requires g c =
    let p = c.in_ok-count.ensures.some in
    (only p.0 c.self.inside.life, p.1)

pub invariant_of-self-in-Ok : goal.invariant_of-self-in-Ok
invariant_of-self-in-Ok g c = λ o.
    let p = c.in_ok-count.ensures.some in
    (only p.0 c.self.inside.life, c.in-Ok.ensures.replaced (only p.0 c.self.inside.life) p.1)

pub returns-in-Ok-clause-taken : goal.returns-in-Ok-clause-taken
returns-in-Ok-clause-taken g c = λ start list h.
    let own = subst (λ v. HasTaken g.D.Device.seen g.D.Device.may_leave v start list) (sym c.self.view_is) h in
    let p = c.in_ok-count.ensures.copied start list own.state in
    let now : IsCovering g.D.Device.seen g.D.Device.may_leave c.end_copy.new.self list c.self.inside.life = record {
      past = only p.0 c.self.inside.life;
      kept = c.in-Ok.ensures.replaced (only p.0 c.self.inside.life) p.1;
      says = pieces_say list p.0 p.2;
      life = omega arith;
    } in
    record { state = own.state; left = covering_left g.D.Device.seen g.D.Device.may_leave c.end_copy.new.self list now; covering = λ o. now }

pub returns-in-Ok-clause-pieces : goal.returns-in-Ok-clause-pieces
returns-in-Ok-clause-pieces g c =
    subst (λ (v : KeeperValue g.row.D.Denot). (start : ℕ) (list : List Change) → HasTaken g.D.Device.seen g.D.Device.may_leave v start list
    → (pieces : List Change) × IsKept g.D.Device.seen g.D.Device.may_leave c.end_copy.new.self (only pieces v.life) × ArePieces list pieces × (c.in_ok-count.count ≡ capped (length pieces))) c.self.view_is
    (λ start list own.
    let p = c.in_ok-count.ensures.copied start list own.state in
    (p.0, c.in-Ok.ensures.replaced (only p.0 c.self.inside.life) p.1, p.2, p.3))

pub returns-in-Ok-clause-any_moment : goal.returns-in-Ok-clause-any_moment
returns-in-Ok-clause-any_moment g c =
    let is_open = subst (λ (v : KeeperValue g.row.D.Denot). v.is_open ≡ true) (sym c.self.view_is) c.requires.open in
    subst (λ (v : KeeperValue g.row.D.Denot). (start : ℕ) (list : List Change) → HasTaken g.D.Device.seen g.D.Device.may_leave v start list → LeavesOnly g.D.Device.moment g.D.Device.left_since v.file.journal.device c.end_copy.new.self.journal.device (Covers list v.life)) c.self.view_is
    (λ start list own.
    let s = own.covering is_open in
    let p = c.in_ok-count.ensures.copied start list own.state in
    let first = leaves_too g.D.Device.moment g.D.Device.left_since c.self.inside.file.journal.device c.copy_pieces.new.file.journal.device _ (Covers list c.self.inside.life) (λ f has. record { past = s.past; has = has; says = s.says; life = s.life }) (c.copy_pieces.ensures.any_moment s.past s.kept) in
    let second = leaves_too g.D.Device.moment g.D.Device.left_since c.copy_pieces.new.file.journal.device c.end_copy.new.self.journal.device _ (Covers list c.self.inside.life) (either list c.self.inside.life s.past p.0 s.says s.life p.2)
    (c.end_copy.ensures.any_moment s.past (only p.0 c.self.inside.life) (c.copy_pieces.ensures.kept s.past s.kept) p.1) in
    leaves_on g.D.Device.moment g.D.Device.left_since c.self.inside.file.journal.device c.copy_pieces.new.file.journal.device c.end_copy.new.self.journal.device (Covers list c.self.inside.life) first second)

pub returns-in-Err-clause-any_moment : goal.returns-in-Err-clause-any_moment
returns-in-Err-clause-any_moment g c =
    let is_open = subst (λ (v : KeeperValue g.row.D.Denot). v.is_open ≡ true) (sym c.self.view_is) c.requires.open in
    subst (λ (v : KeeperValue g.row.D.Denot). (start : ℕ) (list : List Change) → HasTaken g.D.Device.seen g.D.Device.may_leave v start list → LeavesOnly g.D.Device.moment g.D.Device.left_since v.file.journal.device c.end_copy.new.self.journal.device (Covers list v.life)) c.self.view_is
    (λ start list own.
    let s = own.covering is_open in
    let p = c.in_ok-count.ensures.copied start list own.state in
    let first = leaves_too g.D.Device.moment g.D.Device.left_since c.self.inside.file.journal.device c.copy_pieces.new.file.journal.device _ (Covers list c.self.inside.life) (λ f has. record { past = s.past; has = has; says = s.says; life = s.life }) (c.copy_pieces.ensures.any_moment s.past s.kept) in
    let second = leaves_too g.D.Device.moment g.D.Device.left_since c.copy_pieces.new.file.journal.device c.end_copy.new.self.journal.device _ (Covers list c.self.inside.life) (either list c.self.inside.life s.past p.0 s.says s.life p.2)
    (c.end_copy.ensures.any_moment s.past (only p.0 c.self.inside.life) (c.copy_pieces.ensures.kept s.past s.kept) p.1) in
    leaves_on g.D.Device.moment g.D.Device.left_since c.self.inside.file.journal.device c.copy_pieces.new.file.journal.device c.end_copy.new.self.journal.device (Covers list c.self.inside.life) first second)

pub returns-in-Err-clause-taken : goal.returns-in-Err-clause-taken
returns-in-Err-clause-taken g c = λ start list h.
    let is_open = subst (λ (v : KeeperValue g.row.D.Denot). v.is_open ≡ true) (sym c.self.view_is) c.requires.open in
    let own = subst (λ v. HasTaken g.D.Device.seen g.D.Device.may_leave v start list) (sym c.self.view_is) h in
    let p = c.in_ok-count.ensures.copied start list own.state in
    let s = own.covering is_open in
    let second = leaves_too g.D.Device.moment g.D.Device.left_since c.copy_pieces.new.file.journal.device c.end_copy.new.self.journal.device _ (Covers list c.self.inside.life) (either list c.self.inside.life s.past p.0 s.says s.life p.2)
    (c.end_copy.ensures.any_moment s.past (only p.0 c.self.inside.life) (c.copy_pieces.ensures.kept s.past s.kept) p.1) in
    record {
      state = own.state;
      left = λ f now. second.each f (g.met.D.Device.counts_now c.end_copy.new.self.journal.device _ f second.later now);
      covering = λ o. absurd (cc o);
    }

pub returns-in_err-count-clause-given : goal.returns-in_err-count-clause-given
returns-in_err-count-clause-given g c = λ given w.
    let is_open = subst (λ (v : KeeperValue g.row.D.Denot). v.is_open ≡ true) (sym c.self.view_is) c.requires.open in
    let own = subst (λ v. WasGiven g.D.Device.seen g.D.Device.may_leave v given) (sym c.self.view_is) w in
    given_at_rest g.D.Device.seen g.D.Device.may_leave _ given own.start own.list own.state own.stem
    (kept_without g.D.Device.seen g.D.Device.may_leave c.self.inside.file c.copy_pieces.new.file given c.copy_pieces.ensures.kept (own.resting is_open))

pub returns-in_err-count-clause-any_moment_given : goal.returns-in_err-count-clause-any_moment_given
returns-in_err-count-clause-any_moment_given g c =
    let is_open = subst (λ (v : KeeperValue g.row.D.Denot). v.is_open ≡ true) (sym c.self.view_is) c.requires.open in
    subst (λ (v : KeeperValue g.row.D.Denot). (given : List Change) → WasGiven g.D.Device.seen g.D.Device.may_leave v given → LeavesOnly g.D.Device.moment g.D.Device.left_since v.file.journal.device c.copy_pieces.new.file.journal.device (HasNoOthers given)) c.self.view_is
    (λ given own.
    let is = own.resting is_open in
    leaves_too g.D.Device.moment g.D.Device.left_since c.self.inside.file.journal.device c.copy_pieces.new.file.journal.device _ (HasNoOthers given) (λ f has. record { past = is.past; has = has; stem = is.stem }) (c.copy_pieces.ensures.any_moment is.past is.kept))

pub returns-in-Ok-clause-given : goal.returns-in-Ok-clause-given
returns-in-Ok-clause-given g c = λ given w.
    let own = subst (λ v. WasGiven g.D.Device.seen g.D.Device.may_leave v given) (sym c.self.view_is) w in
    let p = c.in_ok-count.ensures.copied own.start own.list own.state in
    given_at_rest g.D.Device.seen g.D.Device.may_leave _ given own.start own.list own.state own.stem (record {
      past = only p.0 c.self.inside.life;
      kept = c.in-Ok.ensures.replaced (only p.0 c.self.inside.life) p.1;
      stem = pieces_stem given own.list p.0 own.stem p.2;
    })

pub returns-in-Ok-clause-any_moment_given : goal.returns-in-Ok-clause-any_moment_given
returns-in-Ok-clause-any_moment_given g c =
    let is_open = subst (λ (v : KeeperValue g.row.D.Denot). v.is_open ≡ true) (sym c.self.view_is) c.requires.open in
    subst (λ (v : KeeperValue g.row.D.Denot). (given : List Change) → WasGiven g.D.Device.seen g.D.Device.may_leave v given → LeavesOnly g.D.Device.moment g.D.Device.left_since v.file.journal.device c.end_copy.new.self.journal.device (HasNoOthers given)) c.self.view_is
    (λ given own.
    let is = own.resting is_open in
    let p = c.in_ok-count.ensures.copied own.start own.list own.state in
    let after = only p.0 c.self.inside.life in
    let first = leaves_too g.D.Device.moment g.D.Device.left_since c.self.inside.file.journal.device c.copy_pieces.new.file.journal.device _ (HasNoOthers given) (λ f has. record { past = is.past; has = has; stem = is.stem }) (c.copy_pieces.ensures.any_moment is.past is.kept) in
    let second = leaves_too g.D.Device.moment g.D.Device.left_since c.copy_pieces.new.file.journal.device c.end_copy.new.self.journal.device _ (HasNoOthers given) (no_others_either given is.past after is.stem (pieces_stem given own.list p.0 own.stem p.2))
    (c.end_copy.ensures.any_moment is.past after (c.copy_pieces.ensures.kept is.past is.kept) p.1) in
    leaves_on g.D.Device.moment g.D.Device.left_since c.self.inside.file.journal.device c.copy_pieces.new.file.journal.device c.end_copy.new.self.journal.device (HasNoOthers given) first second)

pub returns-in-Err-clause-any_moment_given : goal.returns-in-Err-clause-any_moment_given
returns-in-Err-clause-any_moment_given g c =
    let is_open = subst (λ (v : KeeperValue g.row.D.Denot). v.is_open ≡ true) (sym c.self.view_is) c.requires.open in
    subst (λ (v : KeeperValue g.row.D.Denot). (given : List Change) → WasGiven g.D.Device.seen g.D.Device.may_leave v given → LeavesOnly g.D.Device.moment g.D.Device.left_since v.file.journal.device c.end_copy.new.self.journal.device (HasNoOthers given)) c.self.view_is
    (λ given own.
    let is = own.resting is_open in
    let p = c.in_ok-count.ensures.copied own.start own.list own.state in
    let after = only p.0 c.self.inside.life in
    let first = leaves_too g.D.Device.moment g.D.Device.left_since c.self.inside.file.journal.device c.copy_pieces.new.file.journal.device _ (HasNoOthers given) (λ f has. record { past = is.past; has = has; stem = is.stem }) (c.copy_pieces.ensures.any_moment is.past is.kept) in
    let second = leaves_too g.D.Device.moment g.D.Device.left_since c.copy_pieces.new.file.journal.device c.end_copy.new.self.journal.device _ (HasNoOthers given) (no_others_either given is.past after is.stem (pieces_stem given own.list p.0 own.stem p.2))
    (c.end_copy.ensures.any_moment is.past after (c.copy_pieces.ensures.kept is.past is.kept) p.1) in
    leaves_on g.D.Device.moment g.D.Device.left_since c.self.inside.file.journal.device c.copy_pieces.new.file.journal.device c.end_copy.new.self.journal.device (HasNoOthers given) first second)

pub returns-in-Err-clause-given : goal.returns-in-Err-clause-given
returns-in-Err-clause-given g c = λ given w.
    let is_open = subst (λ (v : KeeperValue g.row.D.Denot). v.is_open ≡ true) (sym c.self.view_is) c.requires.open in
    let own = subst (λ v. WasGiven g.D.Device.seen g.D.Device.may_leave v given) (sym c.self.view_is) w in
    let is = own.resting is_open in
    let p = c.in_ok-count.ensures.copied own.start own.list own.state in
    let after = only p.0 c.self.inside.life in
    let leaves = c.end_copy.ensures.any_moment is.past after (c.copy_pieces.ensures.kept is.past is.kept) p.1 in
    record {
      start = own.start;
      list = own.list;
      state = own.state;
      stem = own.stem;
      left = λ f now. no_others_either given is.past after is.stem (pieces_stem given own.list p.0 own.stem p.2) f (leaves.each f (g.met.D.Device.counts_now c.end_copy.new.self.journal.device _ f leaves.later now));
      resting = λ o. absurd (cc o);
    }
