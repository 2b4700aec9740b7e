-- Reading a buffer page by page, forward by AFTER and backward by LATEST and BEFORE (IRCv3 draft/chathistory).
use Rattle.std.specs.Prelude.{ℕ, ◌≡◌, None, Some, List, [], ◌∷◌, ◌++◌}
use Rattle.chat_change.specs.Record.{Record}
use Rattle.chat_change.specs.declared.change.Change.{Change}
use Rattle.chat_query.specs.Scope.{Scope}
use Rattle.chat_query.specs.declared.query.Selector.TheVariants.{Message}
use Rattle.chat_query.specs.declared.query.Query.{Query}
use Rattle.chat_query.specs.declared.query.Query.TheVariants.{Latest, Before, After}
use Rattle.chat_query.specs.Page.{of_records, page}

-- the query is answered by a page of these records
abbrev pub Answers : List Change → Scope → Query → List Record → Type 0
Answers changes scope query records = page changes scope query ≡ Some (of_records records)

-- The pages that follow a message: each is asked for by AFTER the last message of the page before, until a page is empty.
abbrev pub FollowPages : List Change → Scope → List ℕ → ℕ → List ℕ → List (List Record) → Type 0
FollowPages changes scope target limit id [] =
    Answers changes scope (After target (Message id) limit) []
FollowPages changes scope target limit id (records ∷ pages) =
    (front : List Record) × (end : Record) × (records ≡ front ++ end ∷ [])
    × Answers changes scope (After target (Message id) limit) records
    × FollowPages changes scope target limit end.id pages

-- The pages that precede a message: each is asked for by BEFORE the first message of the page before, until a page is
-- empty.
abbrev pub PrecedePages : List Change → Scope → List ℕ → ℕ → List ℕ → List (List Record) → Type 0
PrecedePages changes scope target limit id [] =
    Answers changes scope (Before target (Message id) limit) []
PrecedePages changes scope target limit id (records ∷ pages) =
    (start : Record) × (rest : List Record) × (records ≡ start ∷ rest)
    × Answers changes scope (Before target (Message id) limit) records
    × PrecedePages changes scope target limit start.id pages

-- The page of LATEST, and those that precede its first message.
abbrev pub LatestPages : List Change → Scope → List ℕ → ℕ → List (List Record) → Type 0
LatestPages changes scope target limit [] = Answers changes scope (Latest target None limit) []
LatestPages changes scope target limit (records ∷ pages) =
    (start : Record) × (rest : List Record) × (records ≡ start ∷ rest)
    × Answers changes scope (Latest target None limit) records
    × PrecedePages changes scope target limit start.id pages
