use Rattle.std.proofs.Common.{ap, sym, ◌∙◌}
use Rattle.std.specs.Option.{option_copied}
use Rattle.hosted_network.proofs.StandingLemmas.{already_at, some_at, stands_at}
use Rattle.hosted_network.proofs.standing.refresh.Goals as goal

pub returns-then-is_entry-clause-so : goal.returns-then-is_entry-clause-so
returns-then-is_entry-clause-so c = λ accounts entry has alike.
    let here = c.is_entry.ensures c.if-is_entry.true in
    already_at accounts c.args.config.now entry c.in-Some.entry.now c.args.directory.now
    c.as_bytes-account.ensures c.as_bytes-network.ensures
    has (sym c.entry.ensures ∙ ap (λ o. option_copied o) c.in-Some.is)
    (here.is_up ∙ sym alike.is_up) (here.is_nick ∙ sym alike.is_nick) (here.is_redact ∙ sym alike.is_redact)

pub returns-clause-so : goal.returns-clause-so
returns-clause-so c = λ accounts entry has alike.
    let here = c.in_ok-entry.ensures in
    stands_at accounts c.args.config.now entry c.in_ok-entry.entry c.args.directory.now c.set_entry.new.self
    c.as_bytes-account.ensures c.as_bytes-network.ensures has
    (here.is_up ∙ sym alike.is_up) (here.is_nick ∙ sym alike.is_nick) (here.is_redact ∙ sym alike.is_redact)
    c.set_entry.ensures

pub returns-clause-some : goal.returns-clause-some
returns-clause-some c = λ accounts has.
    some_at accounts c.args.config.now c.in_ok-entry.entry c.args.directory.now c.set_entry.new.self
    c.as_bytes-account.ensures c.as_bytes-network.ensures has c.set_entry.ensures
