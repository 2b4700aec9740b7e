-- The tags of a record are what is written of client-only tags.
use Rattle.std.proofs.Common.{◌≡◌, ◌≤◌, ◌<◌, ℕ, Bool, true, false, not, ◌&&◌, nat_lt, nat_le, List, length, arith}
use Rattle.std.proofs.lemmas.Bool.Decides.{nat_tests}
use Rattle.std.specs.List.{list_any}
use Rattle.irc_tags.specs.TagList.{Tag, tag_list}
use Rattle.irc_tags.specs.Text.{tags_text}
use Rattle.irc_tags.specs.ClientOnly.{is_client_only_text}
use Rattle.irc_tags.proofs.CallerLemmas.{kept_as_written, kept_text, kept_keys, CanStand-tag_list}
use Rattle.byte_text.specs.Words.{has_length_to, ends_word}
use Rattle.chat_change.specs.Words.{is_tags}
use Rattle.chat_change.specs.Tags.{Spells}
use Rattle.chat_change.specs.declared.words.TheConstants.{TAGS_LIMIT}

last_true : (a b c : Bool) → (a && b && c) ≡ true → c ≡ true
last_true true true c e = e
last_true true false c e = cc
last_true false b c e = cc

pub tags-spell : (text : List ℕ) → is_tags text ≡ true → (tags : List Tag) × Spells text tags
tags-spell text e =
    let kept = last_true (has_length_to TAGS_LIMIT text) (not (list_any ends_word text)) (is_client_only_text text) e in
    (tag_list text, record { written = kept_text text kept; stand = CanStand-tag_list text; client_only = kept_keys text kept })

within : (n : ℕ) → 0 < n → n ≤ TAGS_LIMIT → nat_lt 0 n && nat_le n TAGS_LIMIT ≡ true
within n some most = grind (arith, nat_tests)

pub spelled-tags : (tags : List Tag) → Spells (tags_text tags) tags
    → 0 < length (tags_text tags) → length (tags_text tags) ≤ TAGS_LIMIT
    → list_any ends_word (tags_text tags) ≡ false → is_tags (tags_text tags) ≡ true
spelled-tags tags spells some most plain =
    let long = within (length (tags_text tags)) some most in
    let kept = kept_as_written tags spells.stand spells.client_only in
    λ i. long i && not (plain i) && kept i
