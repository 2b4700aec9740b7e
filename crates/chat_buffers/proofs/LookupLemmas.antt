-- What is looked up in a buffer, as the store has it.
use Rattle.std.proofs.Common.{◌≡◌, refl, sym, ◌∙◌, ap, ℕ, max, List, Option, Some, None}
use Rattle.std.specs.Option.{option_map, option_and_then, unwrap_or}
use Rattle.std.specs.BTreeMap as tree
use Rattle.std.specs.FinMap as finite
use Rattle.chat_change.specs.Buffer.{Buffer}
use Rattle.chat_change.specs.Extent.{Extent, OfAccount, OfBuffer}
use Rattle.chat_change.specs.Record.{Record}
use Rattle.chat_change.specs.Order.{buffer_cmp}
use Rattle.chat_change.specs.declared.change.Change.{Change}
use Rattle.chat_change.specs.declared.change.Change.TheVariants.{Post, Mark}
use Rattle.chat_change.specs.Key.{Key, FloorOf, MarkerOf, MessageOf, key_extent, floor_change}
use Rattle.chat_history.specs.History as history
use Rattle.chat_buffers.specs.declared.held_message.HeldMessage.{HeldMessage}
use Rattle.chat_buffers.specs.declared.held_message.HeldMessage.TheVariants.{Kept}
use Rattle.chat_buffers.specs.Stamps.{stamp_moment, stamp_number, floor_moment}
use Rattle.chat_buffers.specs.Store.{Store, Numbered, change_at, own_floor_in, IsKeyedStore}
use Rattle.chat_buffers.specs.Held.{held_piece, floor_piece, numbered, held_floor}
use Rattle.chat_buffers.specs.declared.held.Held.{Held}
use Rattle.chat_buffers.specs.declared.held.Stamp.{Stamp}
use Rattle.chat_buffers.proofs.SettleLemmas.{Accounts, Tree, seen, floor_around, has_here, own_said, account_said}

abbrev change : Numbered → Change
change p = p.change

pub piece_moment : (e : Extent) (o : Option Stamp) → option_map change (option_map (floor_piece e) o) ≡ option_map (floor_change e) (stamp_moment o)
piece_moment e None = refl
piece_moment e (Some s) = refl

pub piece_number : (e : Extent) (o : Option Stamp) → option_map (λ (p : Numbered). p.number) (option_map (floor_piece e) o) ≡ stamp_number o
piece_number e None = refl
piece_number e (Some s) = refl

module _ (ac : Accounts) (bs : Tree) (s : Store) (is : seen ac bs ≡ s) where
  pub change_here : (b : Buffer) (k : Key) (o : Option Held) → key_extent k ≡ OfBuffer b → tree.get buffer_cmp bs b ≡ o → change_at s k ≡ option_map change (held_piece (floor_around ac b) o k)
  change_here b k o same e = ap (option_map change) (has_here ac bs s b o is e k same)

  mark_said : (b : Buffer) (o : Option Stamp) → option_map change (option_map (λ (s : Stamp). record { number = s.number; change = Mark b s.at }) o) ≡ option_map (Mark b) (stamp_moment o)
  mark_said b None = refl
  mark_said b (Some s) = refl

  pub marker_here : (b : Buffer) (h : Held) → tree.get buffer_cmp bs b ≡ Some h → change_at s (MarkerOf b) ≡ option_map (Mark b) (stamp_moment h.marker)
  marker_here b h e = change_here b (MarkerOf b) (Some h) refl e ∙ mark_said b h.marker

  pub message_here : (b : Buffer) (m : List ℕ) (h : Held) (o : Option HeldMessage) → tree.get buffer_cmp bs b ≡ Some h → finite.get h.messages m ≡ o → change_at s (MessageOf b m) ≡ option_map change (option_map (numbered b m (max (floor_around ac b) (held_floor h))) o)
  message_here b m h o e f = change_here b (MessageOf b m) (Some h) refl e ∙ ap (λ x. option_map change (option_map (numbered b m (max (floor_around ac b) (held_floor h))) x)) f

  -- the floor of a buffer's account, by the stamp that is said to be its
  pub around_is : (b : Buffer) (a : List ℕ) (o : Option Stamp) → a ≡ b.account → finite.get s (FloorOf (OfAccount a)) ≡ option_map (floor_piece (OfAccount a)) o → own_floor_in s (OfAccount b.account) ≡ floor_moment o
  around_is b a o same e = ap (λ x. own_floor_in s (OfAccount x)) (sym same) ∙ ap (λ x. unwrap_or (option_and_then history.floor_moment (option_map change x)) 0) e ∙ account_said a o

  pub own_floor_here : (b : Buffer) (h : Held) → tree.get buffer_cmp bs b ≡ Some h → own_floor_in s (OfBuffer b) ≡ floor_moment h.floor
  own_floor_here b h e = ap (λ x. unwrap_or (option_and_then history.floor_moment (option_map change x)) 0) (has_here ac bs s b (Some h) is e (FloorOf (OfBuffer b)) refl) ∙ own_said b h.floor

  pub no_own_floor : (b : Buffer) → tree.get buffer_cmp bs b ≡ None → own_floor_in s (OfBuffer b) ≡ 0
  no_own_floor b e = ap (λ x. unwrap_or (option_and_then history.floor_moment (option_map change x)) 0) (has_here ac bs s b None is e (FloorOf (OfBuffer b)) refl)

same_message : (a b : Buffer) (m n : List ℕ) → MessageOf a m ≡ MessageOf b n → (a ≡ b) × (m ≡ n)
same_message a b m n e = (cc e, cc e)

pub record_bears : (ac : Accounts) (bs : Tree) → IsKeyedStore (seen ac bs) → (b : Buffer) (m : List ℕ) (h : Held) (r : Record) (n : ℕ) → tree.get buffer_cmp bs b ≡ Some h → finite.get h.messages m ≡ Some (Kept r n) → (r.buffer ≡ b) × (r.id ≡ m)
record_bears ac bs keyed b m h r n e f =
    same_message r.buffer b r.id m (keyed (MessageOf b m) (record { number = n; change = Post r })
    (has_here ac bs (seen ac bs) b (Some h) refl e (MessageOf b m) refl ∙ ap (option_map (numbered b m (max (floor_around ac b) (held_floor h)))) f))
