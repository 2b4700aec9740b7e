-- The steps that seats make on the words of the places.
use Rattle.std.specs.Prelude.{◌≡◌, ◌≢◌, ℕ, ◌<◌, ◌==◌, List, [], ◌∷◌, ◌++◌, replicate, slice_index, slice_set, Option, Some, None}
use mathlib.Core.Option.{some}
use lib.ListN.{get_elem?}
use prog.Atomic.{either}
use Rattle.atomic_table.specs.Table.{State, Me, Step, keeps, opening, stepped}

-- a word for each place, and a view for each seat, which is the place that it holds
abbrev pub PlaceState : Type 0
PlaceState = State (Unit {0}) (Option ℕ)

-- a step on the word of a place, with its operands
abbrev pub PlaceStep : Type 0
PlaceStep = Step (Unit {0})

-- the view of a seat, and its slots, of which there are none
abbrev pub SeatState : Type 0
SeatState = Me (Unit {0}) (Option ℕ)

-- the word of a place that no seat holds
abbrev pub free_word : ℕ
free_word = 0

-- the word of a place that a seat holds
abbrev pub taken_word : ℕ
taken_word = 1

-- the seat of this number has this view
abbrev pub Sees : List (Option ℕ) → ℕ → Option ℕ → Type 0
Sees views seat view = get_elem? views seat ≡ some view

-- the seat of this number holds this place
abbrev pub Holds : List (Option ℕ) → ℕ → ℕ → Type 0
Holds views seat place = Sees views seat (Some place)

-- a seat with this view, and with no slot
abbrev pub seat_with : Option ℕ → SeatState
seat_with view = (view, [])

-- the view of the first seat at a new table
abbrev pub first_view : Option ℕ
first_view = None

-- a seat that another one is split off keeps its view
abbrev pub kept_view : Option ℕ → Option ℕ
kept_view view = view

-- the seat that is split off holds no place
abbrev pub newcomers_view : Option ℕ → Option ℕ
newcomers_view _ = None

-- A claim puts the taken word where it finds the free one. The seat held no place before. Where it
-- found the word free, it holds the place of the word, and else none
pub record IsClaim (st : PlaceStep) (me : SeatState) (found : ℕ) (me' : SeatState) : Type 0 where
  pub expects : st.first ≡ free_word
  pub puts : st.second ≡ taken_word
  pub before : me ≡ seat_with None
  pub won : found ≡ free_word → me' ≡ seat_with (Some st.word)
  pub lost : found ≢ free_word → me' ≡ seat_with None

-- A release puts the free word, whatever it finds. The seat held the place of the word before, and
-- holds none after
pub record IsRelease (st : PlaceStep) (me me' : SeatState) : Type 0 where
  pub puts : st.first ≡ free_word
  pub before : me ≡ seat_with (Some st.word)
  pub after : me' ≡ seat_with None

-- a release that found its place taken
abbrev pub IsReleaseOfTaken : PlaceStep → SeatState → ℕ → SeatState → Type 0
IsReleaseOfTaken st me found me' = (found ≡ taken_word) × IsRelease st me me'

-- the table once a seat is split off this one, with the views of both
abbrev pub after_split : PlaceState → ℕ → Option ℕ → Option ℕ → PlaceState
after_split s seat kept new = record {
  words = s.words;
  homes = s.homes;
  views = slice_set s.views seat kept ++ new ∷ [];
}

-- the table once this word and this seat's view are so
abbrev pub after_step : PlaceState → ℕ → ℕ → ℕ → Option ℕ → PlaceState
after_step s place word seat view = stepped s place word seat [] view keeps

-- the word of this number
abbrev pub word_at : PlaceState → ℕ → ℕ
word_at s place = slice_index s.words place

-- what a compare-and-exchange leaves of the word that it finds
abbrev pub exchanged_word : PlaceStep → ℕ → ℕ
exchanged_word st found = either (found == st.first) st.second found

-- What so many places and their seats can reach
pub data Reached (count : ℕ) : State (Unit {0}) (Option ℕ) → Type 0 where
  -- the table is made, with each word free, and one seat
  made : Reached count (opening (replicate count free_word) [] first_view)
  -- a seat is split off another
  split_off : (s : PlaceState) (seat : ℕ) (view : Option ℕ) → Reached count s
      → Sees s.views seat view
      → Reached count (after_split s seat (kept_view view) (newcomers_view view))
  -- a seat tries to claim a place, and finds it free or taken
  claims : (s : PlaceState) (seat : ℕ) (view view' : Option ℕ) (st : PlaceStep) → Reached count s
      → Sees s.views seat view → st.word < count
      → IsClaim st (seat_with view) (word_at s st.word) (seat_with view')
      → Reached count (after_step s st.word (exchanged_word st (word_at s st.word)) seat view')
  -- a seat releases its place
  releases : (s : PlaceState) (seat : ℕ) (view view' : Option ℕ) (st : PlaceStep) → Reached count s
      → Sees s.views seat view → IsRelease st (seat_with view) (seat_with view')
      → Reached count (after_step s st.word st.first seat view')
  -- a seat that holds no place is dropped, and its view stays
  drops : (s : PlaceState) (seat : ℕ) → Reached count s → Sees s.views seat None → Reached count s
