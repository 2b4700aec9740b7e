use Rattle.std.proofs.Common.{◌≡◌, ℕ, ◌+◌, ◌<◌, List, get_or, length, map, take, drop, ◌++◌, ◌∷◌, [], codes, sym, ap, ◌∙◌, append_assoc, append-nil, Bor, subst}
use Rattle.std.specs.Io.KnownBytes.{Appends}
use Rattle.std.proofs.KnownBytes.{Appends-trans}
use Rattle.std.proofs.lemmas.List.{take_more, map-append, take-append-drop}
use Rattle.std.proofs.lemmas.List.Concat.{flat_map-append}
use Rattle.byte_text.proofs.CallerLemmas.{prefix_of_first, prefix_of_second, writes_failed, prefix_same}
use Rattle.change_lines.specs.Words.{words_text}
use Rattle.change_lines.proofs.words.put_words.Goals as goal

abbrev text_of : List (Bor (List ℕ)) → List ℕ
text_of ws = words_text (map (λ w. w.now) ws)

text_of-append : (xs ys : List (Bor (List ℕ))) → text_of (xs ++ ys) ≡ text_of xs ++ text_of ys
text_of-append xs ys = ap words_text (map-append (λ w. w.now) xs ys) ∙ flat_map-append (λ w. w ++ codes " ") (map (λ w. w.now) xs) (map (λ w. w.now) ys)

text_more : (ws : List (Bor (List ℕ))) (i : ℕ) (d : Bor (List ℕ)) → i < length ws → text_of (take (i + 1) ws) ≡ text_of (take i ws) ++ ((get_or ws i d).now ++ codes " ")
text_more ws i d h =
    ap text_of (take_more ws i d h) ∙ text_of-append (take i ws) (get_or ws i d ∷ [])
    ∙ ap (λ l. text_of (take i ws) ++ l) (append-nil ((get_or ws i d).now ++ codes " "))

text_split : (ws : List (Bor (List ℕ))) (i : ℕ) (d : Bor (List ℕ)) → i < length ws
    → text_of (take i ws) ++ (((get_or ws i d).now ++ codes " ") ++ text_of (drop (i + 1) ws)) ≡ text_of ws
text_split ws i d h =
    sym (append_assoc (text_of (take i ws)) ((get_or ws i d).now ++ codes " ") (text_of (drop (i + 1) ws)))
    ∙ ap (λ l. l ++ text_of (drop (i + 1) ws)) (sym (text_more ws i d h))
    ∙ sym (text_of-append (take (i + 1) ws) (drop (i + 1) ws)) ∙ ap text_of (take-append-drop (i + 1) ws)

pub returns-in_err-put_word : goal.returns-in_err-put_word
returns-in_err-put_word g c =
    writes_failed _ _ _ _ c.from_residual.result c.from_residual.ensures.1
    (prefix_same _ _ _ _ (text_split c.args.words.now c.loop-word.word-index record { ref_ptr = (0, 0); now = [] } c.loop-word-test.true)
    (prefix_of_second _ _ _ _ _ c.loop-word.invariant (prefix_of_first _ _ _ _ c.in_err-put_word.ensures)))

pub loop-word-preserved : goal.loop-word-preserved
loop-word-preserved g c =
    subst (λ l. Appends (g.W.Write.contents c.args.writer.now) (g.W.Write.contents c.put_word.new.writer) l)
    (sym (text_more c.args.words.now c.loop-word.word-index record { ref_ptr = (0, 0); now = [] } c.loop-word-test.true))
    (Appends-trans _ _ _ _ _ c.loop-word.invariant c.in_ok-put_word.ensures)
