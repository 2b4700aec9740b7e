use Rattle.std.proofs.Common.{◌≡◌, ◌≤◌, filter, length, take}
use Rattle.std.specs.Io.KnownBytes.{Appends}
use Rattle.irc_tags.specs.Standing.{is_client_only}
use Rattle.irc_tags.specs.Text.{tags_text}
use Rattle.irc_tags.proofs.client_only.write_client_only.Given as goal

abbrev pub invariant-loop-index : goal.invariant-loop-index
invariant-loop-index g l =
    Appends (g.W.Write.contents l.fn.writer) (g.W.Write.contents l.writer) (tags_text (filter (λ tag. is_client_only tag.0) (take l.index l.tags)))
    × (length (filter (λ tag. is_client_only tag.0) (take l.index l.tags)) ≡ l.count) × (l.count ≤ l.index)
