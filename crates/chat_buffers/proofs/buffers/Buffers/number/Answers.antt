use Rattle.std.proofs.Common.{rules, ◌≡◌, ◌∙◌, refl, sym, ap, Some, None}
use Rattle.std.specs.FinMap as map
use Rattle.std.specs.BTreeMap as tree
use Rattle.std.specs.Option.{option_map}
use Rattle.chat_change.specs.Extent as extent
use Rattle.chat_change.specs.Order.{buffer_cmp}
use Rattle.chat_change.specs.Key.{MarkerOf, MessageOf, value_of}
use Rattle.chat_buffers.specs.Messages.{number_of}
use Rattle.chat_buffers.specs.Store.{Numbered, number_at}
use Rattle.chat_buffers.proofs.SettleLemmas.{number_here, number_absent}
use Rattle.chat_buffers.proofs.LookupLemmas.{piece_number}
use Rattle.chat_buffers.proofs.buffers.Buffers.number.Goals as goal

pub returns-in-Floor : goal.returns-in-Floor
returns-in-Floor c =
    let e = extent.value_of c.in-Floor.extent in
    c.number_of.ensures ∙ sym (piece_number e c.own_floor.result) ∙ ap (option_map (λ (p : Numbered). p.number)) (sym c.own_floor.ensures)
    ∙ ap (number_at c.args.self.now) (sym (ap value_of c.in-Floor.is))

pub returns-in_err-get-in-Marker : goal.returns-in_err-get-in-Marker
returns-in_err-get-in-Marker c =
    let ac = c.self.inside.accounts in
    let bs = c.self.inside.held in
    let s = c.args.self.now in
    let b = c.in-Marker.buffer.now in
    let key : value_of c.args.key.now ≡ MarkerOf b = ap value_of c.in-Marker.is in
    let none : tree.get buffer_cmp bs b ≡ None = search rules in
    c.from_residual.ensures ∙ sym (number_absent ac bs s b (MarkerOf b) c.self.view_is refl none) ∙ ap (number_at s) (sym key)

pub returns-in_err-get-in-Message : goal.returns-in_err-get-in-Message
returns-in_err-get-in-Message c =
    let ac = c.self.inside.accounts in
    let bs = c.self.inside.held in
    let s = c.args.self.now in
    let b = c.in-Message.buffer.now in
    let m = c.in-Message.id.now in
    let key : value_of c.args.key.now ≡ MessageOf b m = ap value_of c.in-Message.is in
    let none : tree.get buffer_cmp bs b ≡ None = search rules in
    c.from_residual-in_err-get-in-Message.ensures ∙ sym (number_absent ac bs s b (MessageOf b m) c.self.view_is refl none) ∙ ap (number_at s) (sym key)

pub returns-in_err-held_message-in-Message : goal.returns-in_err-held_message-in-Message
returns-in_err-held_message-in-Message c =
    let ac = c.self.inside.accounts in
    let bs = c.self.inside.held in
    let s = c.args.self.now in
    let b = c.in-Message.buffer.now in
    let m = c.in-Message.id.now in
    let key : value_of c.args.key.now ≡ MessageOf b m = ap value_of c.in-Message.is in
    let h = c.in_ok-get-in-Message.field-0.now in
    let here : tree.get buffer_cmp bs b ≡ Some h = search rules in
    let none : map.get h.messages m ≡ None = search rules in
    c.from_residual-in_err-held_message-in-Message.ensures ∙ ap (option_map number_of) (sym none) ∙ sym (number_here ac bs s b (MessageOf b m) h c.self.view_is refl here) ∙ ap (number_at s) (sym key)

pub returns-in_ok-get-in-Marker : goal.returns-in_ok-get-in-Marker
returns-in_ok-get-in-Marker c =
    let ac = c.self.inside.accounts in
    let bs = c.self.inside.held in
    let s = c.args.self.now in
    let b = c.in-Marker.buffer.now in
    let key : value_of c.args.key.now ≡ MarkerOf b = ap value_of c.in-Marker.is in
    let h = c.in_ok-get-in-Marker.field-0.now in
    let here : tree.get buffer_cmp bs b ≡ Some h = search rules in
    c.number_of-in-Marker.ensures ∙ sym (number_here ac bs s b (MarkerOf b) h c.self.view_is refl here) ∙ ap (number_at s) (sym key)

pub returns-in_ok-held_message-in-Message : goal.returns-in_ok-held_message-in-Message
returns-in_ok-held_message-in-Message c =
    let ac = c.self.inside.accounts in
    let bs = c.self.inside.held in
    let s = c.args.self.now in
    let b = c.in-Message.buffer.now in
    let m = c.in-Message.id.now in
    let key : value_of c.args.key.now ≡ MessageOf b m = ap value_of c.in-Message.is in
    let h = c.in_ok-get-in-Message.field-0.now in
    let here : tree.get buffer_cmp bs b ≡ Some h = search rules in
    let there : map.get h.messages m ≡ Some c.in_ok-held_message-in-Message.held_message.now = search rules in
    ap Some c.number.ensures ∙ ap (option_map number_of) (sym there) ∙ sym (number_here ac bs s b (MessageOf b m) h c.self.view_is refl here) ∙ ap (number_at s) (sym key)
