-- Which tags may stand as tag data, and which as tag data in a line.
use Rattle.std.specs.Prelude.{◌≡◌, ℕ, ◌<◌, Bool, false, ◌||◌, List, [], ◌∷◌, length, map, ◌==◌}
use Rattle.std.specs.List.{All, IsDistinct}
use Rattle.byte_text.specs.Bytes.{cr, lf, space}
use Rattle.irc_tags.specs.TagList.{Tag, is_semicolon, is_equals, same_bytes}

-- a byte that ends a key
abbrev pub ends_key : ℕ → Bool
ends_key b = is_semicolon b || is_equals b

-- bytes that may stand as a key: some, and neither `;` nor `=` among them
abbrev pub IsKey : List ℕ → Type 0
IsKey key = (0 < length key) × All (λ b. ends_key b ≡ false) key

-- tags that may stand as tag data: each key may, and no two are equal. A value may have any bytes.
abbrev pub CanStand : List Tag → Type 0
CanStand tags = IsDistinct same_bytes (map (λ tag. tag.0) tags) × All (λ tag. IsKey tag.0) tags

abbrev pub plus_sign : ℕ
plus_sign = 43

-- a key of a client-only tag begins with `+` (IRCv3 message-tags, "Client-only tags")
abbrev pub is_client_only : List ℕ → Bool
is_client_only [] = false
is_client_only (b ∷ key) = b == plus_sign

abbrev pub is_nul : ℕ → Bool
is_nul b = b == 0

-- a byte that can't stand in the tag data of a line (RFC 2812, section 2.3.1; IRCv3 message-tags): NUL, CR, LF and
-- the space behind which the rest of the line begins
abbrev pub ends_tag_data : ℕ → Bool
ends_tag_data b = is_nul b || (b == cr || (b == lf || b == space))

-- bytes that may be the tag data of a line
abbrev pub HasNoEnd : List ℕ → Type 0
HasNoEnd bytes = All (λ b. ends_tag_data b ≡ false) bytes

-- tags that may stand in a line: no key has such a byte, and no value has a NUL, which no escape spells
abbrev pub CanStandInLine : List Tag → Type 0
CanStandInLine tags = All (λ tag. HasNoEnd tag.0 × All (λ b. is_nul b ≡ false) tag.1) tags
