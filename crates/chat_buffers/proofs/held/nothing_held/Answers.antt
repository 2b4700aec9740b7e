use Rattle.std.proofs.Common.{◌≡◌, ◌∙◌, refl, ap, ℕ, max, Some, None}
use Rattle.std.specs.FinMap as map
use Rattle.std.specs.Option.{option_map}
use Rattle.chat_change.specs.Extent.{OfAccount, OfBuffer}
use Rattle.chat_change.specs.Order.{id_cmp}
use Rattle.chat_change.specs.Key.{Key, FloorOf, MarkerOf, MessageOf}
use Rattle.chat_buffers.specs.Messages.{Messages}
use Rattle.chat_buffers.specs.Held.{held_piece, held_floor, numbered}
use Rattle.chat_buffers.specs.declared.held.Held.{Held}
use Rattle.chat_buffers.proofs.held.nothing_held.Goals as goal

nothing : (f : ℕ) (h : Held) → h.floor ≡ None → h.marker ≡ None → h.messages ≡ map.empty → (k : Key) → held_piece f (Some h) k ≡ None
nothing f h l m e (FloorOf (OfAccount a)) = refl
nothing f h l m e (FloorOf (OfBuffer b)) = ap (option_map _) l
nothing f h l m e (MarkerOf b) = ap (option_map _) m
nothing f h l m e (MessageOf b i) = ap (option_map (numbered b i (max f (held_floor h)))) (ap (λ (x : Messages). map.get x i) e ∙ map.get-empty id_cmp i)

pub returns : goal.returns
returns c f = nothing f (record { messages = c.new.result; floor = None; marker = None }) refl refl c.new.ensures
