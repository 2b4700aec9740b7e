use Rattle.std.specs.Prelude.{◌≡◌}
use Rattle.std.proofs.Common.{refl, arith}
use Rattle.node_events.specs.ClockWatch as watch
use Rattle.node_events.proofs.laws.a_leap_is_what_the_clock_was_set_by.Goals as goal

pub returns-clause-ahead : goal.returns-clause-ahead
returns-clause-ahead c = λ clocks time by.
    let then = watch.set_ahead by (watch.after time clocks) in
    let ahead : watch.ahead clocks then ≡ by = omega arith in
    let behind : watch.behind clocks then ≡ 0 = omega arith in
    rw (ahead, behind) refl

pub returns-clause-back : goal.returns-clause-back
returns-clause-back c = λ clocks time by fits.
    let then = watch.set_back by (watch.after time clocks) in
    let ahead : watch.ahead clocks then ≡ 0 = omega arith in
    let behind : watch.behind clocks then ≡ by = omega arith in
    rw (ahead, behind) refl
