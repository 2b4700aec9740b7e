-- A post that is new in a buffer of which something is held.
use Rattle.std.proofs.Common.{◌≡◌, refl, sym, ◌∙◌, ℕ, Some, None}
use Rattle.std.specs.BTreeMap as tree
use Rattle.std.specs.FinMap as finite
use Rattle.chat_change.specs.Record.{Record}
use Rattle.chat_change.specs.Order.{buffer_cmp}
use Rattle.chat_change.specs.Key.{key_of}
use Rattle.chat_change.specs.declared.change.Change.TheVariants.{Post}
use Rattle.ordered_maps.specs.MapView.{IsWith}
use Rattle.chat_buffers.specs.declared.held.Held.{Held}
use Rattle.chat_buffers.specs.declared.held_message.HeldMessage.TheVariants.{Kept}
use Rattle.chat_buffers.specs.Messages.{Messages}
use Rattle.chat_buffers.specs.Store.{Store, change_at, IsKeyedStore}
use Rattle.chat_buffers.specs.Entering.{IsEntered}
use Rattle.chat_buffers.proofs.SettleLemmas.{Accounts, Tree, seen, floor_around, post_settles, entered, entered_keyed, unchanged_store}
use Rattle.chat_buffers.proofs.LookupLemmas.{message_here}

module _ (ac : Accounts) (bs : Tree) (r : Record) (n : ℕ) (h : Held) (here : tree.get buffer_cmp bs r.buffer ≡ Some h) where
  -- nothing is held of its message
  pub nothing_there : (s : Store) → seen ac bs ≡ s → finite.get h.messages r.id ≡ None → change_at s (key_of (Post r)) ≡ None
  nothing_there s is none = message_here ac bs s is r.buffer r.id h None here none

  module _ (new : Tree) (ms : Messages) (up : IsWith buffer_cmp bs.entries r.buffer (record h { messages = ms }) new.entries) where
    -- it stands under its key
    pub new_entered : ms ≡ finite.insert h.messages r.id (Kept r n) → IsEntered (seen ac bs) n (Post r) (seen ac new)
    new_entered is =
        entered ac bs new (Post r) n r.buffer refl (Some h) (record h { messages = ms }) here up
        (post_settles (floor_around ac r.buffer) h n r ms is)

    pub new_keyed : ms ≡ finite.insert h.messages r.id (Kept r n) → IsKeyedStore (seen ac bs) → IsKeyedStore (seen ac new)
    new_keyed is = entered_keyed (seen ac bs) n (Post r) (seen ac new) (new_entered is)

    -- there was no memory for it
    pub not_entered : ms ≡ h.messages → seen ac new ≡ seen ac bs
    not_entered is = unchanged_store ac bs new r.buffer (record h { messages = ms }) (here ∙ (λ i. Some (record h { messages = sym is i }))) up
