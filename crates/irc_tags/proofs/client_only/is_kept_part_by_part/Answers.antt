use Rattle.std.proofs.Common.{◌≡◌, ◌+◌, ◌≤◌, ◌&&◌, true, false, length, take, drop, None, Some, position, sym, ap, ◌∙◌, subst, arith, length-drop}
use Rattle.std.specs.List.{slice_split}
use Rattle.std.proofs.lemmas.List.{take_rest}
use Rattle.irc_tags.specs.TagList.{is_semicolon}
use Rattle.irc_tags.specs.Kept.{is_kept}
use Rattle.irc_tags.specs.ClientOnly.{is_client_only_text}
use Rattle.irc_tags.proofs.ClientTextLemmas.{all_kept, all_kept-next, all_kept-last, all_kept-is_client_only_text, is_client_only_text-nil, no_bytes, some_bytes}
use Rattle.irc_tags.proofs.client_only.is_kept_part_by_part.Goals as goal

pub returns-then-is_empty : goal.returns-then-is_empty
returns-then-is_empty c = sym (ap is_client_only_text (no_bytes c.args.bytes.now (sym c.is_empty.ensures ∙ c.if-is_empty.true)) ∙ is_client_only_text-nil)

pub returns-then-not-is_kept : goal.returns-then-not-is_kept
returns-then-not-is_kept c =
    let bytes = c.args.bytes.now in
    let rest = c.loop-at.rest.now in
    let at = c.in-Some.at in
    let place : position is_semicolon rest ≡ Some at = sym c.find_byte.ensures.place ∙ c.in-Some.is in
    let lost : is_kept (take at rest) (drop (at + 1) rest) ≡ false =
    ap (is_kept (take at rest)) (sym (take_rest rest (at + 1))) ∙ sym c.is_kept.ensures ∙ c.if-not-is_kept.true in
    sym (sym (all_kept-is_client_only_text bytes (some_bytes bytes (sym c.is_empty.ensures ∙ c.if-is_empty.false)))
    ∙ sym c.loop-at.invariant.1
    ∙ all_kept-next rest at place
    ∙ ap (λ b. b && all_kept (slice_split is_semicolon (drop (at + 1) rest))) lost)

pub loop-at-preserved : goal.loop-at-preserved
loop-at-preserved c =
    let bytes = c.args.bytes.now in
    let rest = c.loop-at.rest.now in
    let at = c.in-Some.at in
    let place : position is_semicolon rest ≡ Some at = sym c.find_byte.ensures.place ∙ c.in-Some.is in
    let kept : is_kept (take at rest) (drop (at + 1) rest) ≡ true =
    ap (is_kept (take at rest)) (sym (take_rest rest (at + 1))) ∙ sym c.is_kept.ensures ∙ c.if-not-is_kept.false in
    let shorter = length-drop (at + 1) rest in
    let bound = c.loop-at.invariant.0 in
    subst (λ l. (length l ≤ length bytes) × (all_kept (slice_split is_semicolon l) ≡ all_kept (slice_split is_semicolon bytes))) (sym (take_rest rest (at + 1))) (
      omega arith,
      sym (all_kept-next rest at place ∙ ap (λ b. b && all_kept (slice_split is_semicolon (drop (at + 1) rest))) kept) ∙ c.loop-at.invariant.1,
    )

pub returns : goal.returns
returns c =
    let bytes = c.args.bytes.now in
    let rest = c.loop-at.rest.now in
    let none : position is_semicolon rest ≡ None = sym c.find_byte.ensures.place ∙ c.in_default.is in
    c.is_client_only_tag.ensures
    ∙ sym (all_kept-last rest none)
    ∙ c.loop-at.invariant.1
    ∙ all_kept-is_client_only_text bytes (some_bytes bytes (sym c.is_empty.ensures ∙ c.if-is_empty.false))
