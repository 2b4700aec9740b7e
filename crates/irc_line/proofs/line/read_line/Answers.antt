use Rattle.std.proofs.Common.{ap, sym, ◌∙◌, Ok, Err}
use Rattle.std.specs.Option.{option_copied}
use Rattle.irc_line.specs.Line.{HasHead}
use Rattle.irc_line.proofs.LineLemmas.{spelled_once}
use Rattle.irc_line.proofs.FaultsLemmas.{refused, sound}
use Rattle.irc_line.proofs.ReadLemmas.{is_the_read}
use Rattle.irc_line.proofs.line.read_line.Goals as goal

pub returns-in-Some-clause-refused : goal.returns-in-Some-clause-refused
returns-in-Some-clause-refused c =
    let head : HasHead c.args.bytes.now (option_copied c.split_tags.result.0) (option_copied c.split_source.result.0) c.split_word.result.0.now = record {
      after_tags = c.split_tags.result.1.now;
      after_source = c.split_source.result.1.now;
      after_command = c.split_word.result.1.now;
      tags_split = c.split_tags.ensures;
      source_split = c.split_source.ensures;
      command_split = c.split_word.ensures;
    } in
    refused c.args.limit c.args.bytes.now _ _ _ head c.in-Some.fault (sym c.first_fault.ensures ∙ c.in-Some.is)

pub returns-in-Some-clause-read : goal.returns-in-Some-clause-read
returns-in-Some-clause-read c = is_the_read c.args.limit c.args.bytes.now (Err c.in-Some.fault) tt (returns-in-Some-clause-refused c)

pub returns-in-Some-clause-only : goal.returns-in-Some-clause-only
returns-in-Some-clause-only c = λ line reads. absurd (reads.sound c.in-Some.fault (returns-in-Some-clause-refused c).has)

pub returns-clause-line : goal.returns-clause-line
returns-clause-line c =
    let head : HasHead c.args.bytes.now (option_copied c.split_tags.result.0) (option_copied c.split_source.result.0) c.split_word.result.0.now = record {
      after_tags = c.split_tags.result.1.now;
      after_source = c.split_source.result.1.now;
      after_command = c.split_word.result.1.now;
      tags_split = c.split_tags.ensures;
      source_split = c.split_source.ensures;
      command_split = c.split_word.ensures;
    } in
    record {
      parts = record { head = head; parameters = c.read_parameters-count.ensures.parameters };
      sound = sound c.args.limit c.args.bytes.now _ _ _ head (sym c.first_fault.ensures ∙ c.in_default.is);
    }

pub returns-clause-read : goal.returns-clause-read
returns-clause-read c = is_the_read c.args.limit c.args.bytes.now (Ok _) (returns-clause-line c) tt

pub returns-clause-only : goal.returns-clause-only
returns-clause-only c = λ line reads. ap Ok (spelled_once c.args.bytes.now _ line (returns-clause-line c).parts reads.parts)
