-- One step, for every kind of change: the new piece of each key from its present piece, the new floor and the new changes of that key.
use Rattle.std.proofs.Common.{◌≡◌, ℕ, true, false, cond, Option, Some, None, List, [], ◌∷◌, ◌++◌, refl, ◌∙◌, ap}
use Rattle.std.specs.List.{filter_map, list_any}
use Rattle.std.specs.Option.{option_map, option_to_list, unwrap_or}
use Rattle.std.specs.Prelude.{nat_le}
use Rattle.std.specs.FinMap.{get}
use Rattle.chat_change.specs.Buffer.{Buffer}
use Rattle.chat_change.specs.Record.{Record}
use Rattle.chat_change.specs.declared.change.Change.{Change}
use Rattle.chat_change.specs.declared.change.Change.TheVariants.{Post, Redact, Mark}
use Rattle.chat_history.specs.Choice.{greatest}
use Rattle.chat_change.specs.Key.{Key, FloorOf, MarkerOf, MessageOf, bearers_of}
use Rattle.chat_history.specs.History.{floor, floor_around, is_gone, floor_moment, marker_moment, is_redaction, piece, History, norm, changes_of, IsKeyed}
use Rattle.chat_history.proofs.ChoiceLemmas.{keep}
use Rattle.chat_history.proofs.PieceLemmas.{floor_piece, bearers_of-append, bearers_of-changes_of, get-norm}
use Rattle.chat_history.proofs.NormLemmas.{best, top, at_least, stays, kept-best, position-top}

-- the greatest floor that changes set, or 0
abbrev pub greatest_floor : List Change → ℕ
greatest_floor cs = unwrap_or (greatest (filter_map floor_moment cs)) 0

-- the floor on which the piece of a key depends, besides the changes that bear the key; 0 where it depends on none
abbrev pub floor_under : List Change → Key → ℕ
floor_under cs (FloorOf e) = floor_around cs e
floor_under cs (MarkerOf b) = 0
floor_under cs (MessageOf b m) = floor cs b

-- the piece that the changes of one key make at that floor
abbrev pub settle : Key → ℕ → List Change → Option Change
settle (FloorOf e) f cs = floor_piece e f (greatest_floor cs)
settle (MarkerOf b) f cs = option_map (Mark b) (greatest (filter_map marker_moment cs))
settle (MessageOf b m) f cs = cond (list_any is_redaction cs) (Some (Redact b m (keep (at_least f) (top cs)))) (option_map Post (keep (stays f) (best cs)))

pub piece-settle : (cs : List Change) (k : Key) → piece cs k ≡ settle k (floor_under cs k) (bearers_of k cs)
piece-settle cs (FloorOf e) = refl
piece-settle cs (MarkerOf b) = refl
piece-settle cs (MessageOf b m) = λ i. cond (is_gone cs b m) (Some (Redact b m (position-top cs b m i))) (option_map Post (kept-best cs b m i))

-- the floor that a piece sets
abbrev pub floor_set : Option Change → ℕ
floor_set o = greatest_floor (option_to_list o)

module _ (h : History) (keyed : IsKeyed h) (more : List Change) where
  -- what further changes leave at a key
  pub get_step : (k : Key) → get (norm (changes_of h ++ more)) k ≡ settle k (floor_under (changes_of h ++ more) k) (option_to_list (get h k) ++ bearers_of k more)
  get_step k =
      get-norm (changes_of h ++ more) k ∙ piece-settle (changes_of h ++ more) k
      ∙ ap (settle k (floor_under (changes_of h ++ more) k)) (bearers_of-append k (changes_of h) more ∙ ap (λ cs. cs ++ bearers_of k more) (bearers_of-changes_of h keyed k))

-- ---- a floor that rises, at a message that it finds held

pub settle-post : (b : Buffer) (m : List ℕ) (f : ℕ) (r : Record) → settle (MessageOf b m) f (Post r ∷ []) ≡ cond (nat_le f r.at) (Some (Post r)) None
settle-post b m f r = elim (nat_le f r.at) as (λ t. option_map Post (cond t (Some r) None) ≡ cond t (Some (Post r)) None) [ true ↦ refl | false ↦ refl ]

pub settle-redaction : (b d : Buffer) (m n : List ℕ) (f : ℕ) (t : Option ℕ) → settle (MessageOf b m) f (Redact d n t ∷ []) ≡ Some (Redact b m (keep (at_least f) t))
settle-redaction b d m n f None = refl
settle-redaction b d m n f (Some t) = refl
