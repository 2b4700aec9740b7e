-- What a walk over the buffers has ahead of it.
use Rattle.std.specs.Prelude.{ℕ, ◌≡◌, Bool, true, false, nat_le, Option, List, [], ◌∷◌}
use Rattle.std.specs.declared.cmp.Ordering.TheVariants.{Less}
use Rattle.std.specs.Ordering.{is_gt, ordering_then}
use Rattle.chat_change.specs.Buffer.{Buffer}
use Rattle.chat_change.specs.Record.{Record}
use Rattle.byte_text.specs.Order.{text_cmp}
use Rattle.chat_change.specs.Order.{buffer_cmp}
use Rattle.chat_change.specs.declared.change.Change.TheVariants.{Post}
use Rattle.chat_history.specs.Choice.{Among}
use Rattle.chat_history.specs.History.{History, IsKeyed, changes_of}
use Rattle.chat_buffers.specs.Messages.{Messages}
use Rattle.chat_buffers.specs.Kept.{IsKept}
use Rattle.chat_buffers.specs.declared.held.Held.{Held}
use Rattle.chat_buffers.specs.declared.sought.Sought.{Sought}
use Rattle.chat_buffers.specs.declared.sought.Sought.TheVariants.{Outdated, OfNetwork}
use Rattle.chat_buffers.specs.Sought.{is_sought, is_past}

-- buffers, each with what is held of it
abbrev pub Entries : Type 0
Entries = List (Buffer × Held)

-- each buffer is less than those after it
abbrev pub IsRising : Entries → Type 0
IsRising [] = Unit {0}
IsRising (e ∷ es) = ((x : Buffer × Held) → Among x es → buffer_cmp e.0 x.0 ≡ Less) × IsRising es

-- entries of a store that come after the last buffer, in their order, and all that have a record
pub record IsAhead (h : History) (last : Option Buffer) (es : Entries) : Type 0 where
  pub keyed : IsKeyed h
  pub rising : IsRising es
  pub past : (b : Buffer) (d : Held) → Among (b, d) es → is_past last b ≡ true
  pub posted : (b : Buffer) (d : Held) → Among (b, d) es → (r : Record) → IsKept d.messages r
      → (r.buffer ≡ b) × Among (Post r) (changes_of h)
  pub all : (r : Record) → Among (Post r) (changes_of h) → is_past last r.buffer ≡ true
      → (d : Held) × Among (r.buffer, d) es × IsKept d.messages r

-- a kept record is sought
abbrev pub HasSought : Sought → Messages → Type 0
HasSought s messages = (r : Record) × IsKept messages r × (is_sought s r ≡ true)

-- no kept record is sought
abbrev pub HasNoneSought : Sought → Messages → Type 0
HasNoneSought s messages = (r : Record) → IsKept messages r → is_sought s r ≡ false

-- a kept record is not older than a moment
abbrev pub HasSince : ℕ → Messages → Type 0
HasSince t messages = (r : Record) × IsKept messages r × (nat_le t r.at ≡ true)

-- every kept record is older than a moment
abbrev pub HasNoneSince : ℕ → Messages → Type 0
HasNoneSince t messages = (r : Record) → IsKept messages r → nat_le t r.at ≡ false

-- the kept records are all of that buffer
abbrev pub AreOf : Buffer → Messages → Type 0
AreOf b messages = (r : Record) → IsKept messages r → r.buffer ≡ b

-- the buffer is of a later account than the one that is sought, or of its, on a later network
abbrev pub is_behind : Sought → Buffer → Bool
is_behind (Outdated t) b = false
is_behind (OfNetwork account network since) b =
    is_gt (ordering_then (text_cmp b.account account.now) (text_cmp b.network network.now))
