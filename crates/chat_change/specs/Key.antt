-- What a change speaks of: the floor of an account or of a buffer, the marker of a buffer, or one message of a buffer.
use Rattle.std.specs.Prelude.{ℕ, Bool, List, [], ◌∷◌, ◌++◌, filter}
use Rattle.std.specs.declared.cmp.Ordering.{Ordering}
use Rattle.std.specs.Ordering.{on, eq_by_cmp}
use Rattle.chat_change.specs.Buffer.{Buffer, buffer_texts}
use Rattle.chat_change.specs.Extent as extent
use Rattle.chat_change.specs.Extent.{Extent, OfAccount, OfBuffer, extent_texts}
use Rattle.chat_change.specs.Order.{texts_cmp}
use Rattle.chat_change.specs.declared.change.Change.{Change}
use Rattle.chat_change.specs.declared.change.Change.TheVariants.{Post, Redact, Mark, Floor, AccountFloor}
use Rattle.chat_change.specs.declared.key.Key as code
use Rattle.chat_change.specs.declared.key.Key.TheVariants as code_key

pub data Key : Type 0 where
  FloorOf : (extent : Extent) → Key
  MarkerOf : (buffer : Buffer) → Key
  MessageOf : (buffer : Buffer) (id : List ℕ) → Key

-- the key that a value of the code's type stands for
abbrev pub value_of : code.Key → Key
value_of (code_key.Floor e) = FloorOf (extent.value_of e)
value_of (code_key.Marker buffer) = MarkerOf buffer.now
value_of (code_key.Message buffer id) = MessageOf buffer.now id.now

-- the texts by which keys differ and are ordered: by account and buffer, there the floor, the marker, and the messages
-- by id
abbrev pub key_texts : Key → List (List ℕ)
key_texts (FloorOf e) = extent_texts e ++ (0 ∷ []) ∷ []
key_texts (MarkerOf b) = buffer_texts b ++ (1 ∷ []) ∷ []
key_texts (MessageOf b m) = buffer_texts b ++ (2 ∷ []) ∷ m ∷ []

abbrev pub key_cmp : Key → Key → Ordering
key_cmp = on key_texts texts_cmp

abbrev pub same_key : Key → Key → Bool
same_key = eq_by_cmp key_cmp

-- the key that a change bears
abbrev pub key_of : Change → Key
key_of (Post r) = MessageOf r.buffer r.id
key_of (Redact b m t) = MessageOf b m
key_of (Mark b t) = MarkerOf b
key_of (Floor b t) = FloorOf (OfBuffer b)
key_of (AccountFloor a t) = FloorOf (OfAccount a)

-- the changes that bear a key
abbrev pub bearers_of : Key → List Change → List Change
bearers_of k changes = filter (λ c. same_key k (key_of c)) changes

-- the buffer of a key, or the account, where it is the floor of one
abbrev pub key_extent : Key → Extent
key_extent (FloorOf e) = e
key_extent (MarkerOf b) = OfBuffer b
key_extent (MessageOf b m) = OfBuffer b

-- a floor that is set for an extent
abbrev pub floor_change : Extent → ℕ → Change
floor_change (OfAccount a) t = AccountFloor a t
floor_change (OfBuffer b) t = Floor b t
