-- The index of a store by number.
use Rattle.std.specs.Prelude.{ℕ, ◌≡◌, ◌≢◌, Option, Some, List}
use Rattle.std.specs.FinMap as finite
use Rattle.chat_change.specs.Buffer.{Buffer}
use Rattle.chat_change.specs.Record.{Record}
use Rattle.chat_change.specs.Key.{Key, MessageOf}
use Rattle.chat_change.specs.declared.change.Change.TheVariants.{Redact}
use Rattle.ordered_maps.specs.MapView.{get}
use Rattle.chat_buffers.specs.Store.{Store, Numbered, number_at, change_at}
use Rattle.chat_state.specs.Number.{number_cmp}
use Rattle.chat_state.specs.PieceName.{PieceName, name_of}

-- what the piece of each number is known by
abbrev pub ByNumber : Type 0
ByNumber = List (ℕ × PieceName)

-- No two pieces have one number. Each piece has one entry, under its number, which holds what the piece is known by, with its
-- record where it is a post; and there is no other entry.
pub record IsIndexed (s : Store) (index : ByNumber) : Type 0 where
  pub once : (k l : Key) (n : ℕ) → number_at s k ≡ Some n → number_at s l ≡ Some n → k ≡ l
  pub listed : (k : Key) (p : Numbered) → finite.get s k ≡ Some p
      → get number_cmp index p.number ≡ Some (name_of p.change)
  pub right : (n : ℕ) (q : PieceName) → get number_cmp index n ≡ Some q →
      (k : Key) × (p : Numbered) × (finite.get s k ≡ Some p) × (p.number ≡ n)
      × (name_of p.change ≡ q)

-- the index holds no record of a message that is redacted
abbrev pub HoldsNoRedacted : Store → ByNumber → Type 0
HoldsNoRedacted s index =
    (b : Buffer) (m : List ℕ) (t : Option ℕ) → change_at s (MessageOf b m) ≡ Some (Redact b m t) →
    (n : ℕ) (q : PieceName) (r : Record) → get number_cmp index n ≡ Some q →
    q.post ≡ Some r → MessageOf r.buffer r.id ≢ MessageOf b m
