use Rattle.std.proofs.Common.{◌≡◌, sym, ap, subst, not, nat_le, nat_lt, List}
use Rattle.std.specs.Ordering.{flip_args}
use Rattle.chat_change.specs.Record.{Record}
use Rattle.chat_history.specs.Cut.{is_after}
use Rattle.chat_history.specs.Visible.{by_spot}
use Rattle.chat_history.specs.declared.cut.Cut.{Cut}
use Rattle.chat_buffers.specs.Messages.{Messages}
use Rattle.chat_buffers.specs.Kept.{AreKept}
use Rattle.chat_buffers.proofs.KeptRecordLemmas.{kept_alike, none_kept, from_next}
use Rattle.chat_buffers.proofs.messages.Messages.down.Goals as goal

at_cut : (ms : Messages) (rs : List Record) (k c : Cut) → c ≡ k → AreKept (flip_args by_spot) (λ r. not (is_after k r)) ms rs → AreKept (flip_args by_spot) (λ r. not (is_after c r)) ms rs
at_cut ms rs k c e kept = subst (λ (x : Cut). AreKept (flip_args by_spot) (λ r. not (is_after x r)) ms rs) (sym e) kept

pub returns-in-Bottom : goal.returns-in-Bottom
returns-in-Bottom c =
    none_kept (flip_args by_spot) (λ r. not (is_after c.args.cut.now r)) c.args.self.now c.empty.result c.empty.ensures
    (λ r _. ap (λ (k : Cut). not (is_after k r)) c.in-Bottom.is)

pub returns-in-UnderTime : goal.returns-in-UnderTime
returns-in-UnderTime c = at_cut c.args.self.now c.down_from_moment.result _ c.args.cut.now c.in-UnderTime.is c.down_from_moment.ensures

pub returns-in-Some : goal.returns-in-Some
returns-in-Some c =
    at_cut c.args.self.now c.down_from_moment-in-Some.result _ c.args.cut.now c.in-OverTime.is
    (kept_alike (flip_args by_spot) (λ r. not (nat_le c.in-Some.next r.at)) c.args.self.now c.down_from_moment-in-Some.result (λ r. not (nat_lt c.in-OverTime.at r.at))
    (λ r _. ap not (from_next c.in-OverTime.at r.at c.in-Some.next c.in-Some.ensures)) c.down_from_moment-in-Some.ensures)

pub returns-in-None : goal.returns-in-None
returns-in-None c = at_cut c.args.self.now c.down_from_the_greatest.result _ c.args.cut.now c.in-OverTime.is c.down_from_the_greatest.ensures

pub returns-in-UnderMsg : goal.returns-in-UnderMsg
returns-in-UnderMsg c = at_cut c.args.self.now c.down_from.result _ c.args.cut.now c.in-UnderMsg.is c.down_from.ensures

pub returns-in-OverMsg : goal.returns-in-OverMsg
returns-in-OverMsg c = at_cut c.args.self.now c.down_from-in-OverMsg.result _ c.args.cut.now c.in-OverMsg.is c.down_from-in-OverMsg.ensures

pub returns-in-Top : goal.returns-in-Top
returns-in-Top c = at_cut c.args.self.now c.down_from-in-Top.result _ c.args.cut.now c.in-Top.is c.down_from-in-Top.ensures
