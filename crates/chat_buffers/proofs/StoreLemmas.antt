-- A store as a finite map: its history, its numbers, and what stands where a piece was placed.
use Rattle.std.proofs.Common.{◌≡◌, ℕ, true, false, cond, Some, List, [], ◌∷◌, map, refl, sym, ◌∙◌, ap, subst, inl, inr}
use Rattle.std.specs.Option.{IfSome, option_map}
use Rattle.std.specs.Cmp.{IsTotalOrder}
use Rattle.std.proofs.lemmas.Cmp.{on_total, nat_cmp_total}
use Rattle.std.specs.FinMap as finite
use Rattle.chat_change.specs.declared.change.Change.{Change}
use Rattle.chat_change.specs.declared.change.Change.TheVariants.{Post, Redact, Mark, Floor, AccountFloor}
use Rattle.chat_change.specs.Key.{Key, key_cmp, key_of, same_key}
use Rattle.chat_history.specs.History.{IsKeyedEntry, IsKeyed}
use Rattle.std.specs.List.{AllByRecursion}
use Rattle.chat_history.specs.Choice.{Among}
use Rattle.chat_buffers.specs.Store.{Store, Numbered, map_values, history_in, numbers_in, change_at, piece_after, by_number}
use Rattle.chat_history.specs.Form.{IsNoFloor}
use Rattle.chat_change.proofs.CallerLemmas.{key_total, key_exact}
use Rattle.chat_history.proofs.CallerLemmas.{from_entries_keyed, get_entry}

module _ {V W : Type 0} (f : V → W) where
  find_map : (k : Key) (es : List (Key × V)) → finite.find key_cmp k (map (λ (e : Key × V). (e.0, f e.1)) es) ≡ option_map f (finite.find key_cmp k es)
  find_map k [] = refl
  find_map k (e ∷ es) =
      elim (same_key k e.0) as (λ b. cond b (Some (f e.1)) (finite.find key_cmp k (map (λ (e : Key × V). (e.0, f e.1)) es)) ≡ option_map f (cond b (Some e.1) (finite.find key_cmp k es))) [
        | true ↦ refl
        | false ↦ find_map k es
      ]

  pub get-map_values : (m : finite.FinMap key_cmp V) (k : Key) → finite.get (map_values f m) k ≡ option_map f (finite.get m k)
  get-map_values m k =
      finite.get-from_entries key_total (map (λ (e : Key × V). (e.0, f e.1)) (finite.entries m)) k
      ∙ find_map k (finite.entries m) ∙ ap (option_map f) (sym (finite.get-entries m k))

abbrev change : Numbered → Change
change p = p.change

abbrev number : Numbered → ℕ
number p = p.number

pub get-history : (s : Store) (k : Key) → finite.get (history_in s) k ≡ change_at s k
get-history s k = get-map_values change s k

pub get-numbers_in : (s : Store) (k : Key) → finite.get (numbers_in s) k ≡ option_map number (finite.get s k)
get-numbers_in s k = get-map_values number s k

-- where each piece bears its key, the history is keyed
pub history_keyed : (s : Store) → ((k : Key) → IfSome (finite.get s k) (λ p. key_of p.change ≡ k)) → IsKeyed (history_in s)
history_keyed s h =
    from_entries_keyed (map (λ (e : Key × Numbered). (e.0, e.1.change)) (finite.entries s)) (keyed_pairs (finite.entries s) (λ e m.
    subst (λ o. IfSome o (λ p. key_of p.change ≡ e.0)) (get_entry key_total key_exact s e.0 e.1 m) (h e.0)))
  where
    keyed_pairs : (es : List (Key × Numbered)) → ((e : Key × Numbered) → Among e es → key_of e.1.change ≡ e.0) → AllByRecursion IsKeyedEntry (map (λ (e : Key × Numbered). (e.0, e.1.change)) es)
    keyed_pairs [] h = tt
    keyed_pairs (e ∷ es) h = (h e (inl refl), keyed_pairs es (λ f m. h f (inr m)))

pub placed-plain : (s : Store) (n : ℕ) (d : Change) → IsNoFloor d → (k : Key) → piece_after s n d k ≡ cond (same_key k (key_of d)) (Some (record { number = n; change = d })) (finite.get s k)
placed-plain s n (Post r) p k = refl
placed-plain s n (Redact b m t) p k = refl
placed-plain s n (Mark b t) p k = refl
placed-plain s n (Floor b t) p k = absurd p
placed-plain s n (AccountFloor a t) p k = absurd p

pub by_number_total : IsTotalOrder by_number
by_number_total = on_total (λ (p : Numbered). p.number) nat_cmp_total
