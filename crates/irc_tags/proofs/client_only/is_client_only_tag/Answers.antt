use Rattle.std.proofs.Common.{◌≡◌, true, false, ◌&&◌, length, sym, ap, ◌∙◌}
use Rattle.std.specs.Prelude.{◌==◌}
use Rattle.std.specs.List.{before_first, after_first}
use Rattle.std.proofs.lemmas.Bool.{eq-eqb, and_from}
use Rattle.std.proofs.lemmas.Slice.Eq.{bytes_eq-Decides}
use Rattle.irc_tags.specs.Standing.{is_client_only}
use Rattle.irc_tags.specs.TagList.{tag_of, same_bytes, is_equals}
use Rattle.irc_tags.specs.Text.{tag_text}
use Rattle.irc_tags.specs.Value.{value_in}
use Rattle.irc_tags.proofs.ClientTextLemmas.{bare_tag, valued_tag}
use Rattle.irc_tags.proofs.RewriteLemmas.{stands}
use Rattle.irc_tags.proofs.client_only.is_client_only_tag.Goals as goal

pub returns-then-key-tag : goal.returns-then-key-tag
returns-then-key-tag c =
    let tag = c.args.tag.now in
    let client : is_client_only (before_first is_equals tag) ≡ true = sym (ap is_client_only c.cut_tag.ensures.key) ∙ sym c.is_client_only.ensures ∙ c.if-is_client_only.true in
    let bare = bare_tag tag (sym (ap length c.cut_tag.ensures.key) ∙ c.if-key-tag.true) in
    eq-eqb _ _ c.if-key-tag.true ∙ sym (and_from _ _ client ((bytes_eq-Decides (tag_text (tag_of tag)) tag).1 bare))

pub returns-then-not-is_value_empty : goal.returns-then-not-is_value_empty
returns-then-not-is_value_empty c =
    let tag = c.args.tag.now in
    let value = c.cut_tag.ensures.value in
    let client : is_client_only (before_first is_equals tag) ≡ true = sym (ap is_client_only c.cut_tag.ensures.key) ∙ sym c.is_client_only.ensures ∙ c.if-is_client_only.true in
    let some : (length (value_in (after_first is_equals tag)) == 0) ≡ false = sym (ap (λ v. length (value_in v) == 0) value) ∙ sym c.is_value_empty.ensures ∙ c.if-not-is_value_empty.true in
    let valued : length (before_first is_equals tag) ≡ length tag → ⊥ = λ bare. c.if-key-tag.false (ap length c.cut_tag.ensures.key ∙ bare) in
    c.is_value_as_written.ensures
    ∙ ap stands value
    ∙ sym (valued_tag tag valued some)
    ∙ sym (ap (λ b. b && same_bytes (tag_text (tag_of tag)) tag) client)
