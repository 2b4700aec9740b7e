use Rattle.std.proofs.Common.{◌++◌, ap, ◌∙◌}
use Rattle.std.specs.Option.{option_copied}
use Rattle.irc_reply.specs.Tagged.{kept_text, tag_part}
use Rattle.irc_reply.proofs.TaggedLemmas.{kept_text_read}
use Rattle.irc_reply.proofs.text.put_line_tags.Goals as goal

pub returns : goal.returns
returns c =
    c.in_ok-put_client_tags.ensures
    ∙ ap (λ text. c.args.line.now.items ++ tag_part text) (ap kept_text c.in_ok-read.ensures ∙ kept_text_read (option_copied c.args.tags))
