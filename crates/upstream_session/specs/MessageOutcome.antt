-- How a session goes on after a message.
use Rattle.std.specs.Prelude.{true}
use Rattle.upstream_session.specs.declared.connection.ServerSession.{ServerSession}
use Rattle.upstream_session.specs.declared.connection.MessageOutcome.{MessageOutcome}
use Rattle.upstream_session.specs.declared.connection.MessageOutcome.TheVariants.{Stays, Counts, Closes}

abbrev pub after : MessageOutcome → ServerSession → ServerSession
after Stays u = u
after (Counts next) u = record u { serial = next }
after Closes u = record u { is_closed = true }
