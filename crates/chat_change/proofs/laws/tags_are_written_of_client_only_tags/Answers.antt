use Rattle.chat_change.proofs.TagsLemmas.{tags-spell, spelled-tags}
use Rattle.chat_change.proofs.laws.tags_are_written_of_client_only_tags.Goals as goal

pub returns : goal.returns
returns c = record { spell = tags-spell; all = spelled-tags }
