-- What stems from the changes that were given.
use Rattle.std.proofs.Common.{◌≡◌, ⊎_elim, ℕ, List, [], ◌∷◌, ◌++◌, take, drop, sym, subst, append_assoc, append-nil, take-append-drop}
use Rattle.std.specs.Prelude.{Contains, Result, Ok, Err, OnOk, OnErr}
use Rattle.std.proofs.lemmas.List.Elements.{All-contains, All-from_recursion, Contains-append_cases, Contains-append_left, Contains-append_right}
use Rattle.block_file.specs.Device.{LeavesOnly}
use Rattle.block_file.proofs.CallerLemmas.{started}
use Rattle.chat_change.specs.declared.change.Change.{Change}
use Rattle.chat_history.specs.StateValue.{state_after}
use Rattle.history_file.specs.Changes.{Past, IsKept, IsEither}
use Rattle.history_file.specs.declared.history_file.HistoryFile.{HistoryFile}
use Rattle.keeper.specs.Keeper.{KeeperValue, IsPieceOf, ArePieces, AllStemFrom, StemsFrom, HasNoOthers, IsWithoutOthers, WasGiven}
use Rattle.keeper.specs.Keeper.StemsFrom.{one, piece}
use Rattle.keeper.specs.Lives.{Life, AreLives, last_left, all_given}
use Rattle.keeper.proofs.TakenLemmas.{past_left}

stems_more : (given more : List Change) → ((c : Change) → Contains given c → Contains more c) → (c : Change) → StemsFrom given c → StemsFrom more c
stems_more given more up _ (one c is) = one c (up c is)
stems_more given more up _ (piece list c all is) = piece list c (λ d h. stems_more given more up d (all d h)) is

all_more : (given more list : List Change) → ((c : Change) → Contains given c → Contains more c) → AllStemFrom given list → AllStemFrom more list
all_more given more list up all c h = stems_more given more up c (all c h)

-- more changes come, of which some are added
pub all_with : (given changes list some : List Change) → AllStemFrom given list → ((c : Change) → Contains some c → Contains changes c) → AllStemFrom (given ++ changes) (list ++ some)
all_with given changes list some all among c h =
    ⊎_elim
    (λ old. all_more given (given ++ changes) list (λ d. Contains-append_left given changes d) all c old)
    (λ new. one c (Contains-append_right given changes c (among c new)))
    (Contains-append_cases list some c h)

-- more changes come
pub all_still : (given changes list : List Change) → AllStemFrom given list → AllStemFrom (given ++ changes) list
all_still given changes list all = all_more given (given ++ changes) list (λ d. Contains-append_left given changes d) all

pub pieces_stem : (given list pieces : List Change) → AllStemFrom given list → ArePieces list pieces → AllStemFrom given pieces
pieces_stem given list pieces all are c h =
    piece list c all (All-contains (IsPieceOf list) pieces c (All-from_recursion (IsPieceOf list) pieces are.pieces_alone) h)

pub among_first : (count : ℕ) (changes : List Change) (c : Change) → Contains (take count changes) c → Contains changes c
among_first count changes c h =
    subst (λ l. Contains l c) (take-append-drop count changes) (Contains-append_left (take count changes) (drop count changes) c h)

-- a file stands for the one past or for the other
pub no_others_either : (given : List Change) (before after : Past) → AllStemFrom given before.changes → AllStemFrom given after.changes
    → (c : List ℕ) → IsEither before after c → HasNoOthers given c
no_others_either given before after all every c has =
    ⊎_elim (λ was. record { past = before; has = was; stem = all }) (λ is. record { past = after; has = is; stem = every }) has

pub no_others_still : (given changes : List Change) (c : List ℕ) → HasNoOthers given c → HasNoOthers (given ++ changes) c
no_others_still given changes c h = record { past = h.past; has = h.has; stem = all_still given changes h.past.changes h.stem }

module _ {D : Type 0} (seen : D → List ℕ) (may_leave : D → List ℕ → Type 0) where
  -- whatever a crash may leave of a file at rest has no others
  pub no_others_left : (file : HistoryFile D) (given : List Change) → IsWithoutOthers seen may_leave file given → (c : List ℕ) → may_leave file.journal.device c → HasNoOthers given c
  no_others_left file given is c left = record { past = is.past; has = past_left seen may_leave file is.past is.kept c left; stem = is.stem }

  pub kept_without : (old new : HistoryFile D) (given : List Change) → ((past : Past) → IsKept seen may_leave old past → IsKept seen may_leave new past)
      → IsWithoutOthers seen may_leave old given → IsWithoutOthers seen may_leave new given
  kept_without old new given then is = record { past = is.past; kept = then is.past is.kept; stem = is.stem }

  -- a file that is at rest, with the state
  pub given_at_rest : (k : KeeperValue D) (given : List Change) (start : ℕ) (list : List Change) → k.state ≡ state_after start list → AllStemFrom given list
      → IsWithoutOthers seen may_leave k.file given → WasGiven seen may_leave k given
  given_at_rest k given start list state all is = record {
    start = start;
    list = list;
    state = state;
    stem = all;
    left = no_others_left k.file given is;
    resting = λ o. is;
  }

  -- nothing of what comes is taken
  pub given_in_vain : (k : KeeperValue D) (given changes : List Change) → WasGiven seen may_leave k given → WasGiven seen may_leave k (given ++ changes)
  given_in_vain k given changes w = record {
    start = w.start;
    list = w.list;
    state = w.state;
    stem = all_still given changes w.list w.stem;
    left = λ c left. no_others_still given changes c (w.left c left);
    resting = λ o. (let is = w.resting o in record { past = is.past; kept = is.kept; stem = all_still given changes is.past.changes is.stem });
  }

-- no call was made, whatever came
pub nothing_happens : {D : Type 0} (seen : D → List ℕ) (may_leave : D → List ℕ → Type 0) (moment : D → ℕ) (left_since : D → ℕ → List ℕ → Type 0) (file : HistoryFile D) (given changes : List Change)
    → ((c : List ℕ) → left_since file.journal.device (moment file.journal.device) c → may_leave file.journal.device c)
    → IsWithoutOthers seen may_leave file given
    → LeavesOnly moment left_since file.journal.device file.journal.device (HasNoOthers (given ++ changes))
nothing_happens seen may_leave moment left_since file given changes now is =
    started moment left_since file.journal.device (HasNoOthers (given ++ changes))
    (λ c left. no_others_still given changes c (no_others_left seen may_leave file given is c (now c left)))

-- what comes, one after another
pub lives_have_no_others : (first : List ℕ) (lives : List Life) (given : List Change) → HasNoOthers given first → AreLives first lives → HasNoOthers (given ++ all_given lives) (last_left first lives)
lives_have_no_others first [] given no_others are = subst (λ l. HasNoOthers l first) (sym (append-nil given)) no_others
lives_have_no_others first (life ∷ lives) given no_others are =
    subst (λ l. HasNoOthers l (last_left life.left lives)) (append_assoc given life.given (all_given lives))
    (lives_have_no_others life.left lives (given ++ life.given) (are.0.nothing_else given no_others) are.1)

-- what holds after all were taken, and after the first so many, holds
pub all_or_first : {T E : Type 0} (r : Result T E) (P Q R : Type 0) → OnOk r P → OnErr r Q → (P → R) → (Q → R) → R
all_or_first (Ok x) P Q R all first f g = f all
all_or_first (Err e) P Q R all first f g = g first
