use Rattle.std.proofs.Common.{◌≡◌, ◌++◌, drop}
use Rattle.client_session.specs.Registration.{greeting, channels_lines}
use Rattle.client_session.proofs.registration.greeting.Given as goal

abbrev pub invariant-loop-channel : goal.invariant-loop-channel
invariant-loop-channel l =
    l.list.items ++ channels_lines l.facts.nick l.facts.caps (drop l.channel-index l.channels)
    ≡ greeting l.facts l.channels
