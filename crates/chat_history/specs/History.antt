-- What a set of changes means. A set is given as a list of which only membership counts.
use Rattle.std.specs.Prelude.{ℕ, ◌≡◌, ◌≤◌, ◌↔◌, ⊤, max, Bool, Contains, true, false, Option, Some, None, List, [], ◌∷◌, ◌++◌, filter, unwrap_or, nat_lt, nat_le, if◌then◌else◌}
use Rattle.std.specs.List.{filter_map, list_any, AllByRecursion}
use Rattle.std.specs.Option.{option_map}
use Rattle.std.specs.FinMap.{FinMap, from_entries, entries, values}
use Rattle.chat_change.specs.Buffer.{Buffer}
use Rattle.chat_change.specs.Record.{Record}
use Rattle.chat_change.specs.Order.{record_cmp}
use Rattle.chat_change.specs.declared.change.Change.{Change}
use Rattle.chat_change.specs.declared.change.Change.TheVariants.{Post, Redact, Mark, Floor, AccountFloor}
use Rattle.chat_change.specs.Extent.{Extent, OfAccount, OfBuffer}
use Rattle.chat_change.specs.Key.{Key, FloorOf, MarkerOf, MessageOf, key_cmp, key_of, bearers_of, floor_change}
use Rattle.chat_history.specs.Choice.{first_by, greatest}

-- ---- what one change says

abbrev pub floor_moment : Change → Option ℕ
floor_moment (Floor b t) = Some t
floor_moment (AccountFloor a t) = Some t
floor_moment c = None

abbrev pub marker_moment : Change → Option ℕ
marker_moment (Mark b t) = Some t
marker_moment c = None

abbrev pub posted_record : Change → Option Record
posted_record (Post r) = Some r
posted_record c = None

-- a post's moment, or the one that a redaction names
abbrev pub message_moment : Change → Option ℕ
message_moment (Post r) = Some r.at
message_moment (Redact b m t) = t
message_moment c = None

abbrev pub is_redaction : Change → Bool
is_redaction (Redact b m t) = true
is_redaction c = false

-- ---- what a set of changes says

-- the own floor of an account or of a buffer: the greatest that was set for it, or 0
abbrev pub own_floor : List Change → Extent → ℕ
own_floor changes e =
    unwrap_or (greatest (filter_map floor_moment (bearers_of (FloorOf e) changes))) 0

-- the retention floor of an account: the greatest that was set for it, or 0
abbrev pub account_floor : List Change → List ℕ → ℕ
account_floor changes a = own_floor changes (OfAccount a)

-- the retention floor of a buffer: that of its account or its own one, whichever is greater
abbrev pub floor : List Change → Buffer → ℕ
floor changes b = max (account_floor changes b.account) (own_floor changes (OfBuffer b))

-- the retention floor of an account or of a buffer
abbrev pub floor_at : List Change → Extent → ℕ
floor_at changes (OfAccount a) = account_floor changes a
floor_at changes (OfBuffer b) = floor changes b

-- the floor that the own one has to exceed to say anything: for a buffer that of its account
abbrev pub floor_around : List Change → Extent → ℕ
floor_around changes (OfAccount a) = 0
floor_around changes (OfBuffer b) = account_floor changes b.account

-- the read marker of a buffer: the greatest that was set
abbrev pub mark : List Change → Buffer → Option ℕ
mark changes b = greatest (filter_map marker_moment (bearers_of (MarkerOf b) changes))

-- whether a message was redacted
abbrev pub is_gone : List Change → Buffer → List ℕ → Bool
is_gone changes b m = list_any is_redaction (bearers_of (MessageOf b m) changes)

-- the kept record of a message: of its posts at or above the floor the one before which no other
-- goes
abbrev pub kept_record : List Change → Buffer → List ℕ → Option Record
kept_record changes b m =
    first_by record_cmp
    (filter (λ r. nat_le (floor changes b) r.at)
    (filter_map posted_record (bearers_of (MessageOf b m) changes)))

-- the position of a message: the greatest moment at or above the floor that its posts have or its
-- redactions name
abbrev pub position_of : List Change → Buffer → List ℕ → Option ℕ
position_of changes b m =
    greatest
    (filter (λ t. nat_le (floor changes b) t)
    (filter_map message_moment (bearers_of (MessageOf b m) changes)))

-- ---- the normal form

-- the one change that stands for all those of a key, if any does
abbrev pub piece : List Change → Key → Option Change
piece changes (FloorOf e) =
    if nat_lt (floor_around changes e) (own_floor changes e)
    then Some (floor_change e (own_floor changes e)) else None
piece changes (MarkerOf b) = option_map (Mark b) (mark changes b)
piece changes (MessageOf b m) =
    if is_gone changes b m then Some (Redact b m (position_of changes b m))
    else option_map Post (kept_record changes b m)

-- a history in normal form: at most one change for each key
abbrev pub History : Type 0
History = FinMap key_cmp Change

-- the piece of a change's key, as an entry
abbrev pub piece_entry : List Change → Change → Option (Key × Change)
piece_entry changes c = option_map (λ (p : Change). (key_of c, p)) (piece changes (key_of c))

-- the normal form of a set of changes: at each key its piece
unfoldable pub norm : List Change → History
norm changes = from_entries (filter_map (piece_entry changes) changes)

-- the pieces of a history, which are a set of changes again
unfoldable pub changes_of : History → List Change
changes_of history = values history

-- under each key stands a change that bears it
abbrev pub IsKeyedEntry : Key × Change → Type 0
IsKeyedEntry e = key_of e.1 ≡ e.0

unfoldable pub IsKeyed : History → Type 0
IsKeyed history = AllByRecursion IsKeyedEntry (entries history)

-- ---- sets of changes

-- two lists are one set of changes
abbrev pub SameSet : List Change → List Change → Type 0
SameSet xs ys = (c : Change) → Contains xs c ↔ Contains ys c

-- the normal form of two sets together
abbrev pub join : List Change → List Change → History
join xs ys = norm (xs ++ ys)

-- whether a set says all that a change says
abbrev pub Includes : List Change → Change → Type 0
Includes changes c = norm (changes ++ c ∷ []) ≡ norm changes

-- a moment is no later than another; none is below every moment
abbrev pub IsAtMost : Option ℕ → Option ℕ → Type 0
IsAtMost None u = ⊤
IsAtMost (Some t) None = ⊥
IsAtMost (Some t) (Some u) = t ≤ u
