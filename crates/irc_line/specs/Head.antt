-- The bytes behind a `LineHead`.
use Rattle.std.specs.Option.{option_copied}
use Rattle.irc_line.specs.Faults.{Head as Parts}
use Rattle.irc_line.specs.declared.line.LineHead.{LineHead}

abbrev pub value_of : LineHead → Parts
value_of f = record {
  bytes = f.bytes.now;
  tags = option_copied f.tags;
  after_tags = f.after_tags.now;
  source = option_copied f.source;
  command = f.command.now;
}
