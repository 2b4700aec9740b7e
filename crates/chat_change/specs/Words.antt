-- The words that changes are made of: names of accounts and networks, targets, message ids, sources and bodies
-- (RFC 1459 and RFC 2812, section 2.3; IRCv3 message-ids), and how letters are folded.
use Rattle.std.specs.Prelude.{ℕ, ◌≡◌, ◌⊎◌, Bool, true, not, ◌&&◌, ◌||◌, ◌==◌, nat_le, List, [], length, map}
use Rattle.std.specs.List.{list_any, list_all}
use Rattle.std.specs.Char.{to_ascii_lowercase}
use Rattle.byte_text.specs.Bytes.{begins_with, ends_line}
use Rattle.byte_text.specs.Words.{has_length_to, ends_word}
use Rattle.irc_tags.specs.ClientOnly.{is_client_only_text}
use Rattle.chat_change.specs.declared.words.TheConstants.{NAME_LIMIT, TARGET_LIMIT, ID_LIMIT, TAGS_LIMIT}

abbrev pub begins_with_colon : List ℕ → Bool
begins_with_colon = begins_with 58

-- a comma stands in no target either, since targets are listed with commas between them
abbrev pub ends_target : ℕ → Bool
ends_target b = ends_word b || (b == 44)

-- `a` to `z`, `0` to `9`, `-` and `_`
abbrev pub is_name_byte : ℕ → Bool
is_name_byte b =
    (nat_le 97 b && nat_le b 122) || (nat_le 48 b && nat_le b 57) || (b == 45) || (b == 95)

-- the name of an account or of a network
abbrev pub is_name : List ℕ → Bool
is_name text = has_length_to NAME_LIMIT text && list_all is_name_byte text

-- the text is `*`
abbrev pub is_star : List ℕ → Bool
is_star text = (length text == 1) && begins_with 42 text

-- a channel or a nick
abbrev pub is_target : List ℕ → Bool
is_target text =
    has_length_to TARGET_LIMIT text && not (list_any ends_target text)
    && not (begins_with_colon text) && not (is_star text)

-- a message id
abbrev pub is_id : List ℕ → Bool
is_id text =
    has_length_to ID_LIMIT text && not (list_any ends_word text) && not (begins_with_colon text)

-- who sent a message: the rule of an id
abbrev pub is_source : List ℕ → Bool
is_source = is_id

-- what a message says, which may be nothing
abbrev pub is_body : List ℕ → Bool
is_body text = not (list_any ends_line text)

-- the tags of a message: client-only tags as they are written, at least one, which may stand in a client's line
-- (IRCv3 message-tags, "Client-only tags" and "Size limit")
abbrev pub is_tags : List ℕ → Bool
is_tags text =
    has_length_to TAGS_LIMIT text && not (list_any ends_word text) && is_client_only_text text

-- what a record has for tags: none, or such
abbrev pub MayBeTags : List ℕ → Type 0
MayBeTags text = (text ≡ []) ⊎ (is_tags text ≡ true)

-- ---- folding

-- the text with its ASCII letters in lower case: `A` to `Z` become `a` to `z`, and nothing else changes
abbrev pub lower_case_of : List ℕ → List ℕ
lower_case_of text = map to_ascii_lowercase text
