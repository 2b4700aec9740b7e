use Rattle.std.proofs.Common.{◌≡◌, ℕ, List, ◌++◌, ◌∷◌, sym, ap, ◌∙◌, append_assoc}
use Rattle.byte_text.specs.Bytes.{line_ending}
use Rattle.byte_text.proofs.CallerLemmas.{prefix_of_first, prefix_of_second, prefix_same, writes_second, writes_failed, writes_same}
use Rattle.chat_change.specs.Record.{Record}
use Rattle.chat_change.specs.declared.change.Change.TheVariants.{Post}
use Rattle.change_lines.specs.Words.{words_text}
use Rattle.change_lines.specs.PostLine.{front_words, tags_words, back_words, post_word}
use Rattle.change_lines.specs.ChangeText.{buffer_words, line_of}
use Rattle.change_lines.proofs.WordsLemmas.{words_more}
use Rattle.change_lines.proofs.post_line.put_post.Goals as goal

joined : (front tags back : List (List ℕ)) (last end : List ℕ) → words_text front ++ (words_text tags ++ ((words_text back ++ last) ++ end)) ≡ (words_text (front ++ (tags ++ back)) ++ last) ++ end
joined front tags back last end =
    ap (λ l. words_text front ++ (words_text tags ++ l)) (append_assoc (words_text back) last end)
    ∙ ap (λ l. words_text front ++ l) (words_more tags back (last ++ end))
    ∙ words_more front (tags ++ back) (last ++ end)
    ∙ sym (append_assoc (words_text (front ++ (tags ++ back))) last end)

-- the three texts are the line and its end
whole : (r : Record) (tags : List ℕ) → tags ≡ r.tags
    → words_text (buffer_words (post_word r.tags) r.buffer (front_words r)) ++ (words_text (tags_words tags) ++ ((words_text (back_words r) ++ (58 ∷ r.message.body)) ++ line_ending)) ≡ line_of (Post r) ++ line_ending
whole r tags same =
    let front = buffer_words (post_word r.tags) r.buffer (front_words r) in
    let back = (words_text (back_words r) ++ (58 ∷ r.message.body)) ++ line_ending in
    ap (λ t. words_text front ++ (words_text (tags_words t) ++ back)) same ∙ joined front (tags_words r.tags) (back_words r) (58 ∷ r.message.body) line_ending

pub returns-in_err-put_front-clause-text : goal.returns-in_err-put_front-clause-text
returns-in_err-put_front-clause-text g c =
    writes_failed _ _ _ _ c.from_residual.result c.from_residual.ensures.1
    (prefix_same _ _ _ _ (whole c.args.post.now c.args.post.now.tags (λ i. c.args.post.now.tags)) (prefix_of_first _ _ _ _ c.in_err-put_front.ensures.text))

pub returns-in_err-put_tags-clause-text : goal.returns-in_err-put_tags-clause-text
returns-in_err-put_tags-clause-text g c =
    writes_failed _ _ _ _ c.from_residual-in_err-put_tags.result c.from_residual-in_err-put_tags.ensures.1
    (prefix_same _ _ _ _ (whole c.args.post.now c.tags.result.now c.tags.ensures.value)
    (prefix_of_second _ _ _ _ _ c.in_ok-put_front.ensures.text (prefix_of_first _ _ _ _ c.in_err-put_tags.ensures)))

pub returns-clause-text : goal.returns-clause-text
returns-clause-text g c =
    writes_same _ _ _ _ c.put_back.result (whole c.args.post.now c.tags.result.now c.tags.ensures.value)
    (writes_second _ _ _ _ _ c.put_back.result c.in_ok-put_front.ensures.text
    (writes_second _ _ _ _ _ c.put_back.result c.in_ok-put_tags.ensures c.put_back.ensures))
