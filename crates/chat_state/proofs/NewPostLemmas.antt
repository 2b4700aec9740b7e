-- A post of whose message nothing is held, and that doesn't stand below the floor in force.
use Rattle.std.proofs.Common.{◌≡◌, ◌∙◌, refl, ap, ℕ, ◌≤◌, true, cond, Option, Some, None, nat_le, arith}
use Rattle.std.proofs.lemmas.Bool.Decides.{nat_tests}
use Rattle.std.specs.Ordering.{eq_by_cmp}
use Rattle.std.specs.Option.{option_map}
use Rattle.chat_change.specs.Extent.{OfBuffer}
use Rattle.chat_change.specs.Record.{Record}
use Rattle.chat_change.specs.Key.{key_of}
use Rattle.chat_change.specs.declared.change.Change.TheVariants.{Post}
use Rattle.chat_history.specs.Form.{form_at}
use Rattle.ordered_maps.specs.MapView.{get, IsWith, IsWithout}
use Rattle.chat_buffers.specs.Store.{Store, Numbered, change_at, floor_in, IsFresh}
use Rattle.chat_buffers.specs.Entering.{IsEntered}
use Rattle.chat_state.specs.Form.{form}
use Rattle.chat_state.specs.Index.{ByNumber, IsIndexed}
use Rattle.chat_state.specs.Number.{number_cmp}
use Rattle.chat_state.specs.PieceName.{PieceName, name_of}
use Rattle.chat_state.proofs.IndexLemmas.{indexed_after, indexed_alike, index_restored, unlisted_number}

no_number : (o : Option Numbered) → option_map (λ (p : Numbered). p.change) o ≡ None → option_map (λ (p : Numbered). p.number) o ≡ None
no_number None e = refl
no_number (Some p) e = cc e

module _ (s : Store) (r : Record) (none : change_at s (key_of (Post r)) ≡ None) where
  -- it counts as it is
  pub new_form : floor_in s (OfBuffer r.buffer) ≤ r.at → form s (Post r) ≡ Some (Post r)
  new_form above =
      let e : nat_le (floor_in s (OfBuffer r.buffer)) r.at ≡ true = grind (arith, nat_tests) in
      ap (λ o. form_at (floor_in s (OfBuffer r.buffer)) o (Post r)) none
      ∙ ap (λ b. cond b (Some (Post r)) None) e

  -- its number is one more in the index
  pub new_indexed : (n : ℕ) (new : Store) → IsEntered s n (Post r) new → IsFresh s n
      → (index put : ByNumber) (name : PieceName) → IsIndexed s index → name ≡ name_of (Post r) → IsWith number_cmp index n name put → IsIndexed new put
  new_indexed n new entered fresh index put name was is up =
      indexed_after s new n (Post r) entered fresh index was put None (no_number _ none)
      (λ q. up q ∙ ap (λ p. cond (eq_by_cmp number_cmp n q) (Some p) (get number_cmp index q)) is)

-- where it doesn't enter, its number is taken back
pub taken_back : (s : Store) (n : ℕ) → IsFresh s n → (index put out : ByNumber) (name : PieceName) → IsIndexed s index → IsWith number_cmp index n name put → IsWithout number_cmp put n out → IsIndexed s out
taken_back s n fresh index put out name was up down =
    indexed_alike s index out was (index_restored index put out n name (unlisted_number s n fresh index was) up down)
