-- The page that answers a query (IRCv3 draft/chathistory, "Subcommands"): the visible records of a buffer, sorted, filtered
-- and cut.
use Rattle.std.specs.Prelude.{ℕ, ◌-◌, ◌/◌, Bool, not, ◌&&◌, ◌==◌, nat_lt, min, max, Option, None, Some, List, ◌++◌, length, take, drop, filter, map, if◌then◌else◌}
use Rattle.std.specs.Ordering.{is_lt}
use Rattle.std.specs.Option.{option_map, option_and_then}
use Rattle.std.specs.FinMap.{from_entries, keys}
use Rattle.chat_change.specs.Buffer.{Buffer}
use Rattle.chat_change.specs.Record.{Record}
use Rattle.chat_change.specs.declared.change.Change.{Change}
use Rattle.chat_history.specs.History.{History, norm}
use Rattle.chat_history.specs.Latest.{latest_in}
use Rattle.chat_history.specs.Lookups.{position_in}
use Rattle.chat_history.specs.Visible.{records_in, spot_cmp}
use Rattle.chat_query.specs.Scope.{Scope}
use Rattle.chat_query.specs.declared.query.Selector.{Selector}
use Rattle.chat_query.specs.declared.query.Selector.TheVariants.{Timestamp, Message}
use Rattle.chat_query.specs.declared.query.Query.{Query}
use Rattle.chat_query.specs.declared.query.Query.TheVariants.{Latest, Before, After, Around, Between, Targets}

-- ---- before and after

-- where a selector stands among records: at a moment, or at the position of a message
pub data Point : Type 0 where
  moment : ℕ → Point
  spot : ℕ → List ℕ → Point

-- none where the buffer has no position for the message
abbrev pub point_of : History → Buffer → Selector → Option Point
point_of history b (Timestamp t) = Some (moment t)
point_of history b (Message m) = option_map (λ (t : ℕ). spot t m) (position_in history b m)

-- by the moment alone at a timestamp, by (moment, id) at a message
abbrev pub is_before : Point → Record → Bool
is_before (moment t) r = nat_lt r.at t
is_before (spot t m) r = is_lt (spot_cmp (r.at, r.id) (t, m))

abbrev pub is_after : Point → Record → Bool
is_after (moment t) r = nat_lt t r.at
is_after (spot t m) r = is_lt (spot_cmp (t, m) (r.at, r.id))

-- ---- cuts

-- the last n, in their order
abbrev pub last : {A : Type 0} → ℕ → List A → List A
last n xs = drop (length xs - n) xs

-- at most half from before, and the others from the selector on
abbrev pub around_cut : ℕ → List Record → Point → List Record
around_cut n records s =
    last (n / 2) (filter (is_before s) records)
    ++ take (n - n / 2) (filter (λ r. not (is_before s r)) records)

-- the first of those that come after the one and before the other, and where there are none the last of those that lie
-- the other way round
abbrev pub between_cut : ℕ → List Record → Point → Point → List Record
between_cut n records s u =
    let rising = filter (λ r. is_after s r && is_before u r) records in
    if length rising == 0 then last n (filter (λ r. is_after u r && is_before s r) records)
    else take n rising

-- ---- buffers

abbrev pub buffer_of : Scope → List ℕ → Buffer
buffer_of scope target = record {
  account = scope.account;
  network = scope.network;
  target = target;
}

-- buffers with their latest moments, as they are listed
abbrev pub listed : List (Buffer × ℕ) → List (ℕ × List ℕ)
listed buffers = map (λ (p : Buffer × ℕ). (p.1, p.0.target)) buffers

-- (moment, folded target) of each buffer that has a visible record, the moment being that of the latest one, in that order
abbrev pub buffers_in : History → Scope → List (ℕ × List ℕ)
buffers_in history scope =
    keys (from_entries {R = spot_cmp}
    (map (λ (e : ℕ × List ℕ). (e, e)) (listed (latest_in history scope.account scope.network))))

-- whether a buffer's moment lies strictly between two others
abbrev pub lies_between : ℕ → ℕ → ℕ × List ℕ → Bool
lies_between t u e = nat_lt (min t u) e.0 && nat_lt e.0 (max t u)

-- those that lie strictly between two moments, cut at the end of the second
abbrev pub targets_cut : ℕ → ℕ → ℕ → List (ℕ × List ℕ) → List (ℕ × List ℕ)
targets_cut n t u buffers =
    let found = filter (lies_between t u) buffers in
    if nat_lt t u then take n found else last n found

-- ---- pages

-- what a page has: records, or buffers with their latest moments
pub data Page : Type 0 where
  of_records : (records : List Record) → Page
  of_buffers : (buffers : List (ℕ × List ℕ)) → Page

-- The page of a query, of a history in normal form. None where a selector names an unknown message.
unfoldable pub page_in : History → Scope → Query → Option Page
page_in history scope (Latest target None limit) =
    Some (of_records (last (min limit scope.maximum) (records_in history (buffer_of scope target))))
page_in history scope (Latest target (Some s) limit) =
    let records = records_in history (buffer_of scope target) in
    option_map (λ (p : Point).
    of_records (last (min limit scope.maximum) (filter (is_after p) records)))
    (point_of history (buffer_of scope target) s)
page_in history scope (Before target s limit) =
    let records = records_in history (buffer_of scope target) in
    option_map (λ (p : Point).
    of_records (last (min limit scope.maximum) (filter (is_before p) records)))
    (point_of history (buffer_of scope target) s)
page_in history scope (After target s limit) =
    let records = records_in history (buffer_of scope target) in
    option_map (λ (p : Point).
    of_records (take (min limit scope.maximum) (filter (is_after p) records)))
    (point_of history (buffer_of scope target) s)
page_in history scope (Around target s limit) =
    let records = records_in history (buffer_of scope target) in
    option_map (λ (p : Point).
    of_records (around_cut (min limit scope.maximum) records p))
    (point_of history (buffer_of scope target) s)
page_in history scope (Between target s u limit) =
    let b = buffer_of scope target in
    option_and_then (λ (p : Point). option_map (λ (q : Point).
    of_records (between_cut (min limit scope.maximum) (records_in history b) p q))
    (point_of history b u)) (point_of history b s)
page_in history scope (Targets t u limit) =
    Some (of_buffers (targets_cut (min limit scope.maximum) t u (buffers_in history scope)))

-- the page of a query, of a set of changes: it depends on their normal form alone
abbrev pub page : List Change → Scope → Query → Option Page
page changes scope query = page_in (norm changes) scope query
