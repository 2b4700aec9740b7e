-- What stands before and after the point of a selector.
use Rattle.std.proofs.Common.{◌≡◌, ℕ, not, List, Option, None, Some, refl, sym, ◌∙◌, ap}
use Rattle.std.specs.declared.cmp.Ordering.{Ordering}
use Rattle.std.specs.declared.cmp.Ordering.TheVariants.{Less, Equal, Greater}
use Rattle.std.specs.Ordering.{is_lt, is_le, ordering_reverse}
use Rattle.std.specs.Option.{option_map}
use Rattle.chat_change.specs.Buffer.{Buffer}
use Rattle.chat_change.specs.Record.{Record}
use Rattle.chat_change.specs.declared.change.Change.{Change}
use Rattle.chat_history.specs.History.{norm, position_of}
use Rattle.chat_history.specs.Visible.{spot_cmp}
use Rattle.chat_history.specs.Cut.{cut_cmp, of_record}
use Rattle.chat_history.specs.declared.cut.Spot.{Spot}
use Rattle.chat_history.proofs.CallerLemmas.{spot_total, position_in-norm}
use Rattle.chat_query.specs.Page.{Point, spot, point_of, is_before}
use Rattle.chat_query.specs.declared.query.Selector.{Selector}
use Rattle.chat_query.specs.declared.query.Selector.TheVariants.{Message}

turned : (o : Ordering) → not (is_le o) ≡ is_lt (ordering_reverse o)
turned Less = refl
turned Equal = refl
turned Greater = refl

-- below the spot of a message stands what is before the message
pub below_message : (s : Spot) (o : Option (List ℕ)) → s.id ≡ o → (p : Point) → option_map (spot s.at) o ≡ Some p → (r : Record)
    → not (is_le (cut_cmp (record { at = s.at; id = o }) (of_record r))) ≡ is_before p r
below_message s None i p e r = absurd (cc)
below_message s (Some m) i p e r =
    let q : spot s.at m ≡ p = cc in
    turned (spot_cmp (s.at, m) (r.at, r.id)) ∙ ap is_lt (sym (spot_total.antisymm (r.at, r.id) (s.at, m))) ∙ ap (λ w. is_before w r) q

-- the point of a message, by what a state answers of its position
pub point_found : (changes : List Change) (b : Buffer) (s : Selector) (m n : List ℕ) (t : Option ℕ) → s ≡ Message m → n ≡ m → t ≡ position_of changes b n
    → point_of (norm changes) b s ≡ option_map (λ (at : ℕ). spot at n) t
point_found changes b s m n t e f g =
    ap (point_of (norm changes) b) (e ∙ ap Message (sym f)) ∙ ap (option_map (λ (at : ℕ). spot at n)) (position_in-norm changes b n ∙ sym g)
