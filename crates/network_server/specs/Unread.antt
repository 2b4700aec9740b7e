-- What of a stream is unread.
use Rattle.std.specs.Prelude.{ℕ, ◌≡◌, List, ◌++◌, drop}
use Rattle.irc_line.specs.Stream.{Held, items, items_from}

-- So many of the first items of what was received were heard: whatever follows, the others are those of what is held and of the
-- rest.
abbrev pub IsUnread : List ℕ → ℕ → Held → Type 0
IsUnread received heard held = (rest : List ℕ)
    → drop heard (items (received ++ rest)) ≡ items_from held rest
