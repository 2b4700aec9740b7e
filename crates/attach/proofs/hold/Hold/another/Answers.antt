use Rattle.std.proofs.Common.{rules}
use Rattle.attach.proofs.StepLemmas.{splits}
use Rattle.attach.proofs.hold.Hold.another.Goals as goal

pub split_seat-seat-requires : goal.split_seat-seat-requires
split_seat-seat-requires c = (search rules, search rules, splits _ _ c.self.inside.seat.me.0)
