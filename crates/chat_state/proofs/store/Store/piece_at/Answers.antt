use Rattle.std.proofs.Common.{◌≡◌, sym, subst, Some}
use Rattle.chat_change.specs.Key.{Key}
use Rattle.chat_buffers.specs.Store.{number_at}
use Rattle.chat_state.proofs.store.Store.piece_at.Goals as goal

pub floor_at-change-requires : goal.floor_at-change-requires
floor_at-change-requires c = (c.args.number, subst (λ (k : Key). number_at c.args.self.now k ≡ Some c.args.number) (sym c.in-Floor.ensures) c.requires)

pub marker_at-change-requires : goal.marker_at-change-requires
marker_at-change-requires c = (c.args.number, subst (λ (k : Key). number_at c.args.self.now k ≡ Some c.args.number) (sym c.in-Marker.ensures) c.requires)

pub message_at-change-requires : goal.message_at-change-requires
message_at-change-requires c = (c.args.number, subst (λ (k : Key). number_at c.args.self.now k ≡ Some c.args.number) (sym c.in-Message.ensures) c.requires)
