use Rattle.std.proofs.Common.{◌≡◌, sym, ap, subst, nat_le, nat_lt, List}
use Rattle.chat_change.specs.Record.{Record}
use Rattle.chat_history.specs.Cut.{is_after}
use Rattle.chat_history.specs.Visible.{by_spot}
use Rattle.chat_history.specs.declared.cut.Cut.{Cut}
use Rattle.chat_buffers.specs.Messages.{Messages}
use Rattle.chat_buffers.specs.Kept.{AreKept}
use Rattle.chat_buffers.proofs.KeptRecordLemmas.{kept_alike, none_kept, from_next}
use Rattle.chat_buffers.proofs.messages.Messages.up.Goals as goal

at_cut : (ms : Messages) (rs : List Record) (k c : Cut) → c ≡ k → AreKept by_spot (is_after k) ms rs → AreKept by_spot (is_after c) ms rs
at_cut ms rs k c e kept = subst (λ (x : Cut). AreKept by_spot (is_after x) ms rs) (sym e) kept

pub returns-in-Bottom : goal.returns-in-Bottom
returns-in-Bottom c = at_cut c.args.self.now c.up_from.result _ c.args.cut.now c.in-Bottom.is c.up_from.ensures

pub returns-in-UnderTime : goal.returns-in-UnderTime
returns-in-UnderTime c = at_cut c.args.self.now c.up_from_moment.result _ c.args.cut.now c.in-UnderTime.is c.up_from_moment.ensures

pub returns-in-Some : goal.returns-in-Some
returns-in-Some c =
    at_cut c.args.self.now c.up_from_moment-in-Some.result _ c.args.cut.now c.in-OverTime.is
    (kept_alike by_spot (λ r. nat_le c.in-Some.next r.at) c.args.self.now c.up_from_moment-in-Some.result (λ r. nat_lt c.in-OverTime.at r.at)
    (λ r _. from_next c.in-OverTime.at r.at c.in-Some.next c.in-Some.ensures) c.up_from_moment-in-Some.ensures)

pub returns-in-None : goal.returns-in-None
returns-in-None c = at_cut c.args.self.now c.past_the_greatest.result _ c.args.cut.now c.in-OverTime.is c.past_the_greatest.ensures

pub returns-in-UnderMsg : goal.returns-in-UnderMsg
returns-in-UnderMsg c = at_cut c.args.self.now c.up_from-in-UnderMsg.result _ c.args.cut.now c.in-UnderMsg.is c.up_from-in-UnderMsg.ensures

pub returns-in-OverMsg : goal.returns-in-OverMsg
returns-in-OverMsg c = at_cut c.args.self.now c.up_from-in-OverMsg.result _ c.args.cut.now c.in-OverMsg.is c.up_from-in-OverMsg.ensures

pub returns-in-Top : goal.returns-in-Top
returns-in-Top c = none_kept by_spot (is_after c.args.cut.now) c.args.self.now c.empty.result c.empty.ensures (λ r _. ap (λ (k : Cut). is_after k r) c.in-Top.is)
