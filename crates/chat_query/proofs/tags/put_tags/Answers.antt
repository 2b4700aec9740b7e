use Rattle.std.proofs.Common.{refl, ap, ◌∙◌}
use Rattle.irc_time.specs.Text.{time_text}
use Rattle.byte_text.proofs.CallerLemmas.{prefix_of_first, prefix_of_second, writes_second, writes_failed, writes_same, prefix_same}
use Rattle.chat_query.proofs.TagLemmas.{tags_same}
use Rattle.chat_query.proofs.tags.put_tags.Goals as goal

pub returns-in_err-tag : goal.returns-in_err-tag
returns-in_err-tag g c = writes_failed _ _ _ _ c.from_residual.result c.from_residual.ensures.1
    (prefix_same _ _ _ _ (tags_same c.args.caps c.args.reference.now c.args.message.now _ _ _ _ _ _ _ _ refl refl refl refl refl refl refl refl)
    (prefix_of_first _ _ _ _ c.in_err-tag.ensures.text))

pub returns-in_err-id_tag : goal.returns-in_err-id_tag
returns-in_err-id_tag g c = writes_failed _ _ _ _ c.from_residual-in_err-id_tag.result c.from_residual-in_err-id_tag.ensures.1
    (prefix_same _ _ _ _ (tags_same c.args.caps c.args.reference.now c.args.message.now _ _ _ _ _ _ _ _ c.in_ok-tag.ensures.begun refl refl refl (c.as_bytes-id.ensures.value ∙ c.id.ensures) refl refl refl)
    (prefix_of_second _ _ _ _ _ c.in_ok-tag.ensures.text (prefix_of_first _ _ _ _ c.in_err-id_tag.ensures.text)))

pub returns-in_err-tag-2 : goal.returns-in_err-tag-2
returns-in_err-tag-2 g c = writes_failed _ _ _ _ c.from_residual-in_err-tag-2.result c.from_residual-in_err-tag-2.ensures.1
    (prefix_same _ _ _ _ (tags_same c.args.caps c.args.reference.now c.args.message.now _ _ _ _ _ _ _ _ c.in_ok-tag.ensures.begun c.in_ok-id_tag.ensures.begun refl refl
    (c.as_bytes-id.ensures.value ∙ c.id.ensures) (c.as_slice.ensures ∙ c.write_time-time.ensures.text ∙ ap time_text c.at.ensures) refl refl)
    (prefix_of_second _ _ _ _ _ c.in_ok-tag.ensures.text (prefix_of_second _ _ _ _ _ c.in_ok-id_tag.ensures.text (prefix_of_first _ _ _ _ c.in_err-tag-2.ensures.text))))

pub returns-in_err-written_tags : goal.returns-in_err-written_tags
returns-in_err-written_tags g c = writes_failed _ _ _ _ c.from_residual-in_err-written_tags.result c.from_residual-in_err-written_tags.ensures.1
    (prefix_same _ _ _ _ (tags_same c.args.caps c.args.reference.now c.args.message.now _ _ _ _ _ _ _ _ c.in_ok-tag.ensures.begun c.in_ok-id_tag.ensures.begun c.in_ok-tag-2.ensures.begun refl
    (c.as_bytes-id.ensures.value ∙ c.id.ensures) (c.as_slice.ensures ∙ c.write_time-time.ensures.text ∙ ap time_text c.at.ensures) c.has_own_tags.ensures c.tags.ensures.value)
    (prefix_of_second _ _ _ _ _ c.in_ok-tag.ensures.text (prefix_of_second _ _ _ _ _ c.in_ok-id_tag.ensures.text
    (prefix_of_second _ _ _ _ _ c.in_ok-tag-2.ensures.text (prefix_of_first _ _ _ _ c.in_err-written_tags.ensures.text)))))

pub returns : goal.returns
returns g c = writes_same _ _ _ _ c.end.result
    (tags_same c.args.caps c.args.reference.now c.args.message.now _ _ _ _ _ _ _ _ c.in_ok-tag.ensures.begun c.in_ok-id_tag.ensures.begun c.in_ok-tag-2.ensures.begun c.in_ok-written_tags.ensures.begun
    (c.as_bytes-id.ensures.value ∙ c.id.ensures) (c.as_slice.ensures ∙ c.write_time-time.ensures.text ∙ ap time_text c.at.ensures) c.has_own_tags.ensures c.tags.ensures.value)
    (writes_second _ _ _ _ _ c.end.result c.in_ok-tag.ensures.text (writes_second _ _ _ _ _ c.end.result c.in_ok-id_tag.ensures.text
    (writes_second _ _ _ _ _ c.end.result c.in_ok-tag-2.ensures.text (writes_second _ _ _ _ _ c.end.result c.in_ok-written_tags.ensures.text c.end.ensures))))
