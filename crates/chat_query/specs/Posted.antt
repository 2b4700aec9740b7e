-- What a page may have: records that were posted in the buffer that is asked for, and buffers in which some was.
use Rattle.std.specs.Prelude.{ℕ, ◌≡◌, Contains, List, Option, Some, None}
use Rattle.chat_change.specs.Buffer.{Buffer}
use Rattle.chat_change.specs.Record.{Record}
use Rattle.chat_change.specs.declared.change.Change.{Change}
use Rattle.chat_change.specs.declared.change.Change.TheVariants.{Post}
use Rattle.chat_query.specs.Scope.{Scope}
use Rattle.chat_query.specs.declared.query.Query.{Query}
use Rattle.chat_query.specs.declared.query.Query.TheVariants.{Latest, Before, After, Around, Between, Targets}
use Rattle.chat_query.specs.Page.{Page, of_records, of_buffers, buffer_of}

-- the record was posted in the buffer
abbrev pub IsPostedIn : List Change → Buffer → Record → Type 0
IsPostedIn changes b r = Contains changes (Post r) × (r.buffer ≡ b)

-- a buffer of the scope's account and network is listed by a record that was posted in it
abbrev pub IsListed : List Change → Scope → ℕ × List ℕ → Type 0
IsListed changes scope e =
    (r : Record) × IsPostedIn changes (buffer_of scope e.1) r × (r.at ≡ e.0)

-- the folded target that a query names; TARGETS names none
abbrev pub named_target : Query → Option (List ℕ)
named_target (Latest target after limit) = Some target
named_target (Before target s limit) = Some target
named_target (After target s limit) = Some target
named_target (Around target s limit) = Some target
named_target (Between target s u limit) = Some target
named_target (Targets t u limit) = None

-- of a target the page has records, each posted in its buffer; of none it lists buffers
abbrev pub IsOfTarget : List Change → Scope → Option (List ℕ) → Page → Type 0
IsOfTarget changes scope (Some target) (of_records records) =
    (r : Record) → Contains records r → IsPostedIn changes (buffer_of scope target) r
IsOfTarget changes scope None (of_buffers buffers) =
    (e : ℕ × List ℕ) → Contains buffers e → IsListed changes scope e
IsOfTarget changes scope target page = ⊥

-- The page has only records that were posted in the buffer that the query names, or lists only buffers of the scope's
-- account and network, each by a record that was posted in it.
abbrev pub IsOfPosts : List Change → Scope → Query → Page → Type 0
IsOfPosts changes scope query page = IsOfTarget changes scope (named_target query) page
