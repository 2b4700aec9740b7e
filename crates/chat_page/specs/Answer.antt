-- Whether a page, or a refusal, is the answer of the definition.
use Rattle.std.specs.Prelude.{◌≡◌, ⊤, ℕ, Option, Some, None, IsSome, List, map, filter, take, Result, Ok, Err}
use Rattle.std.specs.Option.{option_map, option_and_then}
use Rattle.chat_change.specs.Record.{Record}
use Rattle.chat_query.specs.Page as spec
use Rattle.chat_change.specs.Buffer.{Buffer}
use Rattle.chat_history.specs.History.{History}
use Rattle.chat_history.specs.Visible.{records_in}
use Rattle.chat_query.specs.declared.query.Selector.{Selector}
use Rattle.chat_page.specs.declared.pager.SelectorSide.{SelectorSide}
use Rattle.chat_page.specs.declared.pager.SelectorSide.TheVariants.{LatestAfter, Before, After, Around}
use Rattle.chat_page.specs.declared.pages.Page.{Page}
use Rattle.chat_page.specs.declared.pages.Page.TheVariants.{Records, Buffers}
use Rattle.chat_page.specs.declared.pages.PageFault.{PageFault}
use Rattle.chat_page.specs.declared.pages.PageFault.TheVariants.{UnknownMessage, NoMemory}

abbrev pub value_of : Page → spec.Page
value_of (Records records) = spec.of_records (map (λ r. r.now) records.items)
value_of (Buffers buffers) = spec.of_buffers buffers.items

-- a message is unknown exactly where no page is wanted, and only a page that is wanted finds no memory
abbrev pub IsRefusal : Option spec.Page → PageFault → Type 0
IsRefusal wanted UnknownMessage = wanted ≡ None
IsRefusal wanted NoMemory = IsSome wanted

-- the page is the one that is wanted, or the refusal is right
abbrev pub IsAnswer : Option spec.Page → Result Page PageFault → Type 0
IsAnswer wanted (Ok page) = wanted ≡ Some (value_of page)
IsAnswer wanted (Err fault) = IsRefusal wanted fault

-- where there is memory, the page is the one that is wanted, and a message is unknown only where none is
abbrev pub IsAnswerIfMemory : Option spec.Page → Result Page PageFault → Type 0
IsAnswerIfMemory wanted (Ok page) = wanted ≡ Some (value_of page)
IsAnswerIfMemory wanted (Err UnknownMessage) = wanted ≡ None
IsAnswerIfMemory wanted (Err NoMemory) = ⊤

-- the records on a side of a point
abbrev pub side_cut : SelectorSide → ℕ → List Record → spec.Point → List Record
side_cut LatestAfter n records p = spec.last n (filter (spec.is_after p) records)
side_cut Before n records p = spec.last n (filter (spec.is_before p) records)
side_cut After n records p = take n (filter (spec.is_after p) records)
side_cut Around n records p = spec.around_cut n records p

-- the records on a side of a selector, if that has a point
abbrev pub side_of : History → Buffer → Selector → SelectorSide → ℕ → Option (List Record)
side_of history b s side n =
    option_map (λ p. side_cut side n (records_in history b) p) (spec.point_of history b s)

-- the records between two selectors, if both have a point
abbrev pub between_of : History → Buffer → Selector → Selector → ℕ → Option (List Record)
between_of history b s u n =
    option_and_then (λ p.
    option_map (λ q. spec.between_cut n (records_in history b) p q) (spec.point_of history b u))
    (spec.point_of history b s)
