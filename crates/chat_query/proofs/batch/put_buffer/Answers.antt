use Rattle.std.proofs.Common.{◌≡◌, ℕ, List, [], ◌∷◌, ◌++◌, Bool, true, false, cond, codes, None, refl, ap, ◌∙◌}
use Rattle.byte_text.proofs.CallerLemmas.{prefix_of_first, prefix_same, writes_second, writes_failed, writes_same}
use Rattle.irc_caps.specs.declared.CapSet.{CapSet}
use Rattle.irc_time.specs.Text.{time_text}
use Rattle.irc_reply.specs.Reply.{reply}
use Rattle.irc_caps.specs.Words.{only_if}
use Rattle.chat_query.specs.Tags.{tag_part, batch_tags}
use Rattle.chat_query.specs.Batch.{buffer_text}
use Rattle.chat_query.proofs.batch.put_buffer.Goals as goal

one_tag : (b : Bool) (reference : List ℕ) → cond b (codes "@batch=" ++ (reference ++ codes " ")) [] ≡ tag_part (only_if b (codes "batch=" ++ reference))
one_tag true reference = refl
one_tag false reference = refl

line : (caps : CapSet) (cluster reference folded time : List ℕ) (buffer : ℕ × List ℕ) → folded ≡ buffer.1 → time ≡ time_text buffer.0
    → cond caps.batch (codes "@batch=" ++ (reference ++ codes " ")) [] ++ reply cluster (codes "CHATHISTORY") (codes "TARGETS" ∷ folded ∷ time ∷ []) None
    ≡ buffer_text caps cluster reference buffer
line caps cluster reference folded time buffer d e =
    ap (λ l. l ++ reply cluster (codes "CHATHISTORY") (codes "TARGETS" ∷ folded ∷ time ∷ []) None) (one_tag caps.batch reference)
    ∙ (λ i. tag_part (batch_tags caps reference) ++ reply cluster (codes "CHATHISTORY") (codes "TARGETS" ∷ d i ∷ e i ∷ []) None)

pub returns-in_err-put_batch_tag : goal.returns-in_err-put_batch_tag
returns-in_err-put_batch_tag g c =
    writes_failed _ _ _ _ c.from_residual.result c.from_residual.ensures.1
    (prefix_same _ _ _ _ (line c.args.caps c.args.cluster.now c.args.reference.now c.args.buffer.now.1 (time_text c.args.buffer.now.0) c.args.buffer.now refl refl)
    (prefix_of_first _ _ _ _ c.in_err-put_batch_tag.ensures))

pub returns : goal.returns
returns g c =
    writes_same _ _ _ _ c.write_reply.result
    (line c.args.caps c.args.cluster.now c.args.reference.now c.target.result.now c.write_time-at.result c.args.buffer.now c.target.ensures (c.write_time-at.ensures.text ∙ ap time_text c.at.ensures))
    (writes_second _ _ _ _ _ c.write_reply.result c.in_ok-put_batch_tag.ensures c.write_reply.ensures)
