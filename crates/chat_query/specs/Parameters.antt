-- What the parameters of CHATHISTORY ask for (IRCv3 draft/chathistory, "CHATHISTORY").
use Rattle.std.specs.Prelude.{ℕ, Bool, ◌&&◌, ◌||◌, nat_eq, List, [], ◌∷◌, drop, codes, Option, None, Some, Result, Ok, Err, if◌then◌else◌}
use Rattle.std.specs.Option.{option_map}
use Rattle.std.specs.List.{starts_with}
use Rattle.std.specs.Str.{str_eq_ignore_ascii_case}
use Rattle.irc_time.specs.Reading.{time_of}
use Rattle.chat_change.specs.Words.{is_id, is_star, is_target, lower_case_of}
use Rattle.chat_query.specs.Limit.{limit_of}
use Rattle.chat_query.specs.declared.query.Query.{Query}
use Rattle.chat_query.specs.declared.query.Query.TheVariants.{Latest, Before, After, Around, Between, Targets}
use Rattle.chat_query.specs.declared.query.Selector.{Selector}
use Rattle.chat_query.specs.declared.query.Selector.TheVariants.{Timestamp, Message}
use Rattle.chat_query.specs.declared.parameters.Selected.{Selected}
use Rattle.chat_query.specs.declared.parameters.QueryFault.{QueryFault}
use Rattle.chat_query.specs.declared.parameters.QueryFault.TheVariants.{NeedMoreParams, UnknownCommand, InvalidTarget, InvalidMsgRef, InvalidParams}

-- ---- words

abbrev pub target_of : List ℕ → Option (List ℕ)
target_of word = if is_target word then Some (lower_case_of word) else None

-- the keys of selectors are compared as they are
abbrev pub has_timestamp_key : List ℕ → Bool
has_timestamp_key word = starts_with nat_eq word (codes "timestamp=")

abbrev pub has_msgid_key : List ℕ → Bool
has_msgid_key word = starts_with nat_eq word (codes "msgid=")

abbrev pub has_key : List ℕ → Bool
has_key word = has_timestamp_key word || has_msgid_key word

-- the moment behind the key `timestamp=`
abbrev pub timestamp_of : List ℕ → Option ℕ
timestamp_of word = time_of (drop 10 word)

-- the moment of a word that is `timestamp=` and a time
abbrev pub moment_of : List ℕ → Option ℕ
moment_of word = if has_timestamp_key word then timestamp_of word else None

-- the id behind the key `msgid=`
abbrev pub id_of : List ℕ → Option (List ℕ)
id_of word = if is_id (drop 6 word) then Some (drop 6 word) else None

-- the selector that a word with a key spells
abbrev pub selector_of : List ℕ → Option Selector
selector_of word =
    if has_timestamp_key word then option_map Timestamp (timestamp_of word)
    else option_map Message (id_of word)

-- a selector, or `*` for none
abbrev pub selector_or_none_of : List ℕ → Option (Option Selector)
selector_or_none_of word = if is_star word then Some None else option_map Some (selector_of word)

-- ---- checks, of which the first that fails counts

abbrev pub checked : {A B : Type 0} → Option A → QueryFault → (A → Result B QueryFault)
    → Result B QueryFault
checked None fault more = Err fault
checked (Some x) fault more = more x

abbrev pub unless : {B : Type 0} → Bool → QueryFault → Result B QueryFault → Result B QueryFault
unless passed fault more = if passed then more else Err fault

abbrev pub mapped : {A B : Type 0} → (A → B) → Result A QueryFault → Result B QueryFault
mapped f (Ok x) = Ok (f x)
mapped f (Err fault) = Err fault

-- ---- the parameters behind each subcommand; those past them are ignored

abbrev pub latest_of : List (List ℕ) → Result Query QueryFault
latest_of (target ∷ selector ∷ limit ∷ more) =
    checked (target_of target) InvalidTarget (λ t.
    unless (is_star selector || has_key selector) InvalidMsgRef (
    checked (selector_or_none_of selector) InvalidParams (λ s.
    checked (limit_of limit) InvalidParams (λ n. Ok (Latest t s n)))))
latest_of _ = Err NeedMoreParams

-- a target, a selector and a limit
abbrev pub selected_of : List (List ℕ) → Result Selected QueryFault
selected_of (target ∷ selector ∷ limit ∷ more) =
    checked (target_of target) InvalidTarget (λ t.
    unless (has_key selector) InvalidMsgRef (
    checked (selector_of selector) InvalidParams (λ s.
    checked (limit_of limit) InvalidParams
    (λ n. Ok (record { target = t; selector = s; limit = n })))))
selected_of _ = Err NeedMoreParams

abbrev pub before_of : List (List ℕ) → Result Query QueryFault
before_of parameters = mapped (λ p. Before p.target p.selector p.limit) (selected_of parameters)

abbrev pub after_of : List (List ℕ) → Result Query QueryFault
after_of parameters = mapped (λ p. After p.target p.selector p.limit) (selected_of parameters)

abbrev pub around_of : List (List ℕ) → Result Query QueryFault
around_of parameters = mapped (λ p. Around p.target p.selector p.limit) (selected_of parameters)

abbrev pub between_of : List (List ℕ) → Result Query QueryFault
between_of (target ∷ one ∷ other ∷ limit ∷ more) =
    checked (target_of target) InvalidTarget (λ t.
    unless (has_key one && has_key other) InvalidMsgRef (
    checked (selector_of one) InvalidParams (λ s.
    checked (selector_of other) InvalidParams (λ u.
    checked (limit_of limit) InvalidParams (λ n. Ok (Between t s u n))))))
between_of _ = Err NeedMoreParams

abbrev pub targets_of : List (List ℕ) → Result Query QueryFault
targets_of (one ∷ other ∷ limit ∷ more) =
    unless (has_timestamp_key one && has_timestamp_key other) InvalidMsgRef (
    checked (timestamp_of one) InvalidParams (λ t.
    checked (timestamp_of other) InvalidParams (λ u.
    checked (limit_of limit) InvalidParams (λ n. Ok (Targets t u n)))))
targets_of _ = Err NeedMoreParams

-- subcommands are compared without regard to case
abbrev pub is_word : List ℕ → List ℕ → Bool
is_word name word = str_eq_ignore_ascii_case word name

-- the query of the parameters behind a subcommand, or the first fault
abbrev pub read_behind : List ℕ → List (List ℕ) → Result Query QueryFault
read_behind word parameters =
    if is_word (codes "LATEST") word then latest_of parameters
    else if is_word (codes "BEFORE") word then before_of parameters
    else if is_word (codes "AFTER") word then after_of parameters
    else if is_word (codes "AROUND") word then around_of parameters
    else if is_word (codes "BETWEEN") word then between_of parameters
    else if is_word (codes "TARGETS") word then targets_of parameters
    else Err UnknownCommand

-- the first of the parameters, where there is one
abbrev pub first_of : List (List ℕ) → Option (List ℕ)
first_of [] = None
first_of (word ∷ more) = Some word

-- the query of a line's parameters, or the first fault
abbrev pub read_query : List (List ℕ) → Result Query QueryFault
read_query [] = Err NeedMoreParams
read_query (word ∷ parameters) = read_behind word parameters
