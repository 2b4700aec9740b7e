-- Lists that are read item by item: those so far are what the first items say.
use Rattle.std.proofs.Common.{◌≡◌, ℕ, ◌+◌, ◌<◌, List, [], ◌∷◌, ◌++◌, map, take, length, get_or, refl, sym, subst, ap, ◌∙◌}
use Rattle.std.specs.List.{AllZip}
use Rattle.std.proofs.lemmas.List.{map-append, take_more}
use Rattle.toml.specs.Data.{Members, string, table}
use Rattle.toml.specs.View.{view, items_of, items_view}
use Rattle.toml.specs.declared.value.Value.{Value}
use Rattle.node_config.specs.Values.{HasItems, HasEntries}

-- one more text, which the next item is
pub texts-push : (texts : List (List ℕ)) (text : List ℕ) (vs : List Value) (i : ℕ) (d : Value) → map string texts ≡ map view (take i vs)
    → i < length vs → view (get_or vs i d) ≡ string text → map string (texts ++ text ∷ []) ≡ map view (take (i + 1) vs)
texts-push texts text vs i d so_far within is =
    map-append string texts (text ∷ []) ∙ (λ j. so_far j ++ sym is j ∷ []) ∙ sym (map-append view (take i vs) (get_or vs i d ∷ []))
    ∙ ap (map view) (sym (take_more vs i d within))

AllZip-last : {A B : Type 0} (R : A → B → Type 0) (xs : List A) (ys : List B) (x : A) (y : B) → AllZip R xs ys → R x y
    → AllZip R (xs ++ x ∷ []) (ys ++ y ∷ [])
AllZip-last R [] [] x y all last = (last, tt)
AllZip-last R [] (b ∷ ys) x y all last = absurd all
AllZip-last R (a ∷ xs) [] x y all last = absurd all
AllZip-last R (a ∷ xs) (b ∷ ys) x y all last = (all.0, AllZip-last R xs ys x y all.1 last)

-- the items are tables, and the values are what they say
pub record AreRead {X : Type 0} (Says : Members → X → Type 0) (items : List Value) (values : List X) : Type 0 where
  pub tables : List Members
  pub are : map table tables ≡ map view items
  pub each : AllZip Says tables values

module _ {X : Type 0} (Says : Members → X → Type 0) where
  pub none_read : AreRead Says [] []
  none_read = record { tables = []; are = refl; each = tt }

  pub more_read : (vs : List Value) (values : List X) (i : ℕ) (d : Value) (t : Members) (value : X) → AreRead Says (take i vs) values
      → i < length vs → view (get_or vs i d) ≡ table t → Says t value → AreRead Says (take (i + 1) vs) (values ++ value ∷ [])
  more_read vs values i d t value so_far within is says = record {
    tables = so_far.tables ++ t ∷ [];
    are =
        map-append table so_far.tables (t ∷ []) ∙ (λ j. so_far.are j ++ sym is j ∷ []) ∙ sym (map-append view (take i vs) (get_or vs i d ∷ []))
        ∙ ap (map view) (sym (take_more vs i d within));
    each = AllZip-last Says so_far.tables values t value so_far.each says;
  }

  pub has_entries : (t : Members) (key : List ℕ) (vs : List Value) (values : List X) → HasItems t key (items_view vs) → AreRead Says vs values
      → HasEntries Says t key values
  has_entries t key vs values has read =
      (read.tables, subst (λ ds. HasItems t key (items_of ds)) (sym read.are) has, read.each)
