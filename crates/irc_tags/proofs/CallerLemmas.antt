-- What the crates above may name of these proofs.
pub use Rattle.irc_tags.proofs.ReadBackLemmas.{value_in_line, tag_list-tags_text}
pub use Rattle.irc_tags.proofs.LengthLemmas.{length-value_text}
-- the client-only tags of tag data
pub use Rattle.irc_tags.proofs.ClientTextLemmas.{kept_as_written, is_client_only_text-client_only_text, client_only_text-same, kept_text, kept_keys, client_only_text-in_line, client_only_text-no_longer, client_only_text_is}
-- a list of tags that is made tag by tag, and written so
pub use Rattle.irc_tags.proofs.StandingLemmas.{CanStand-tag_list, CanStand-filter}
pub use Rattle.irc_tags.proofs.MergingLemmas.{with_tags-all, with_tags-part, with_tags-end}
pub use Rattle.irc_tags.proofs.TextLemmas.{Appends-more, prefix_of_separator, prefix_of_tag}
