use Rattle.history_file.proofs.Moments.{leaves_too}
use Rattle.history_file.proofs.history_file.resume.Goals as goal

pub repair-requires-clause-read : goal.repair-requires-clause-read
repair-requires-clause-read g c = (c.requires.read.1.payloads, c.requires.read.1.read)

pub returns-in-Ok-clause-kept : goal.returns-in-Ok-clause-kept
returns-in-Ok-clause-kept g c = λ past has. record {
  payloads = has.payloads;
  settled = record { file = c.in-Ok.ensures.at_rest has.payloads has.read; sizes = has.read.stands.sizes; end = has.read.ends; durable = c.in-Ok.ensures.durable };
  spelled = has.spelled;
}

pub returns-in-Ok-clause-any_moment : goal.returns-in-Ok-clause-any_moment
returns-in-Ok-clause-any_moment g c = λ past has.
    leaves_too g.D.Device.moment g.D.Device.left_since c.args.device c.repair.new.device _ _
    (λ f st. record { payloads = has.payloads; stands = st; spelled = has.spelled })
    (c.repair.ensures.any_moment has.payloads has.stands)

pub returns-in-Err-clause-any_moment_err : goal.returns-in-Err-clause-any_moment_err
returns-in-Err-clause-any_moment_err g c = λ past has.
    leaves_too g.D.Device.moment g.D.Device.left_since c.args.device c.repair.new.device _ _
    (λ f st. record { payloads = has.payloads; stands = st; spelled = has.spelled })
    (c.repair.ensures.any_moment has.payloads has.stands)

pub repair-requires-clause-torn : goal.repair-requires-clause-torn
repair-requires-clause-torn g c = c.requires.read.1.torn
