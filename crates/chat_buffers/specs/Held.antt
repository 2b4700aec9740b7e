-- What is held of one buffer, and the pieces of many buffers and of their accounts as one store.
use Rattle.std.specs.Prelude.{ℕ, ◌≡◌, ◌≤◌, ⊤, max, if◌then◌else◌, Option, Some, None, List, ◌∷◌, ◌++◌, map}
use Rattle.std.specs.Option.{option_map}
use Rattle.std.specs.List.{filter_map, flat_map}
use Rattle.std.specs.FinMap as finite
use Rattle.chat_change.specs.Buffer.{Buffer}
use Rattle.chat_change.specs.Extent.{Extent, OfAccount, OfBuffer}
use Rattle.byte_text.specs.Order.{text_cmp}
use Rattle.chat_change.specs.Order.{buffer_cmp}
use Rattle.chat_change.specs.declared.change.Change.{Change}
use Rattle.chat_change.specs.declared.change.Change.TheVariants.{Post, Redact, Mark, Floor, AccountFloor}
use Rattle.chat_change.specs.Key.{Key, FloorOf, MarkerOf, MessageOf, key_extent, key_of, same_key, floor_change}
use Rattle.chat_history.specs.Retention.{at_or_above}
use Rattle.chat_buffers.specs.declared.held_message.HeldMessage.{HeldMessage}
use Rattle.chat_buffers.specs.declared.held_message.HeldMessage.TheVariants.{Kept, Gone}
use Rattle.chat_buffers.specs.Messages.{number_of}
use Rattle.chat_buffers.specs.Stamps.{floor_moment, stamp_number}
use Rattle.chat_buffers.specs.Store.{Store, Numbered}
use Rattle.chat_buffers.specs.Entering.{beside}
use Rattle.chat_buffers.specs.declared.held.Held.{Held}
use Rattle.chat_buffers.specs.declared.held.Stamp.{Stamp}

-- the floors of accounts, and what is held of buffers
abbrev pub ByAccount : Type 0
ByAccount = finite.FinMap text_cmp Stamp

abbrev pub ByBuffer : Type 0
ByBuffer = finite.FinMap buffer_cmp Held

-- the own floor of a buffer, or 0
abbrev pub held_floor : Held → ℕ
held_floor h = floor_moment h.floor

-- the piece of a message. A redaction is read at the floor: a moment below it is forgotten
abbrev pub numbered : Buffer → List ℕ → ℕ → HeldMessage → Numbered
numbered b m f (Kept r n) = record { number = n; change = Post r }
numbered b m f (Gone t n) = record { number = n; change = Redact b m (at_or_above f t) }

-- the piece of the own floor of an account or of a buffer
abbrev pub floor_piece : Extent → Stamp → Numbered
floor_piece e s = record { number = s.number; change = floor_change e s.at }

-- the piece of a key of a buffer, where its account has a floor
abbrev pub held_piece : ℕ → Option Held → Key → Option Numbered
held_piece f None k = None
held_piece f (Some h) (FloorOf (OfAccount a)) = None
held_piece f (Some h) (FloorOf (OfBuffer b)) =
    option_map (floor_piece (OfBuffer b)) h.floor
held_piece f (Some h) (MarkerOf b) =
    option_map (λ (s : Stamp). record { number = s.number; change = Mark b s.at }) h.marker
held_piece f (Some h) (MessageOf b m) =
    option_map (numbered b m (max f (held_floor h))) (finite.get h.messages m)

-- the number of that piece
abbrev pub number_under : Held → Key → Option ℕ
number_under h (FloorOf (OfAccount a)) = None
number_under h (FloorOf (OfBuffer b)) = stamp_number h.floor
number_under h (MarkerOf b) = stamp_number h.marker
number_under h (MessageOf b m) = option_map number_of (finite.get h.messages m)

-- the piece of an account's floor
abbrev pub account_piece : List ℕ → Option Stamp → Option Numbered
account_piece a o = option_map (floor_piece (OfAccount a)) o

-- the piece of a key that is in an extent
abbrev pub extent_piece : ByAccount → ByBuffer → Extent → Key → Option Numbered
extent_piece accounts buffers (OfAccount a) k = account_piece a (finite.get accounts a)
extent_piece accounts buffers (OfBuffer b) k =
    held_piece (floor_moment (finite.get accounts b.account)) (finite.get buffers b) k

abbrev pub piece_in : ByAccount → ByBuffer → Key → Option Numbered
piece_in accounts buffers k = extent_piece accounts buffers (key_extent k) k

-- a store that has under each listed key what the function gives
abbrev pub tabulated : (Key → Option Numbered) → List Key → Store
tabulated f keys =
    finite.from_entries
    (filter_map (λ k. option_map (λ (p : Numbered). (k, p)) (f k)) keys)

-- the key of an account's floor
abbrev pub account_key : List ℕ → Key
account_key a = FloorOf (OfAccount a)

-- the keys of a buffer that may have a piece
abbrev pub keys_of : Buffer × Held → List Key
keys_of e =
    FloorOf (OfBuffer e.0) ∷ MarkerOf e.0 ∷ map (MessageOf e.0) (finite.keys e.1.messages)

abbrev pub store_in : ByAccount → ByBuffer → Store
store_in accounts buffers =
    tabulated (piece_in accounts buffers)
    (map account_key (finite.keys accounts) ++ flat_map keys_of (finite.entries buffers))

-- a change that speaks of one buffer
abbrev pub IsOfBuffer : Change → Type 0
IsOfBuffer (AccountFloor a t) = ⊥
IsOfBuffer c = ⊤

-- a piece that may be put in a buffer, where its account has a floor
abbrev pub Fits : ℕ → Held → Change → Type 0
Fits f h (Post r) = ⊤
Fits f h (Redact b m t) = at_or_above (max f (held_floor h)) t ≡ t
Fits f h (Mark b t) = ⊤
Fits f h (Floor b t) = max f (held_floor h) ≤ t
Fits f h (AccountFloor a t) = ⊥

-- what is under the keys of its buffer where a piece came to its key
abbrev pub Settles : ℕ → Option Held → ℕ → Change → Held → Type 0
Settles f old n c new =
    (k : Key) → key_extent k ≡ key_extent (key_of c) →
    held_piece f (Some new) k ≡
    (if same_key k (key_of c) then Some (record { number = n; change = c })
    else beside c (held_piece f old k))
