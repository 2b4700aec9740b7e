-- What a cursor over the kept records of a buffer gives is what the store's history has of it.
use Rattle.std.proofs.Common.{◌≡◌, refl, sym, ◌∙◌, ap, Bool, true, not, List, [], ◌∷◌, reverse, Some, None, inl}
use Rattle.std.proofs.lemmas.Cmp.{back_total}
use Rattle.std.proofs.lemmas.List.Kept.{IsStrictlySortedBy-filter}
use Rattle.std.specs.Prelude.{◌↔◌}
use Rattle.std.specs.Ordering.{flip_args}
use Rattle.std.specs.List.{filter}
use Rattle.std.specs.List.Sorted.{IsStrictlySortedBy}
use Rattle.std.specs.BTreeMap as tree
use Rattle.std.specs.FinMap as finite
use Rattle.chat_change.specs.Buffer.{Buffer}
use Rattle.chat_change.specs.Record.{Record}
use Rattle.chat_change.specs.Order.{buffer_cmp}
use Rattle.chat_change.specs.declared.change.Change.TheVariants.{Post}
use Rattle.chat_change.specs.Key.{MessageOf}
use Rattle.chat_history.specs.Choice.{Among}
use Rattle.chat_history.specs.Cut.{is_after, after, before}
use Rattle.chat_history.specs.History.{History, IsKeyed, changes_of}
use Rattle.chat_history.specs.Visible.{by_spot, records_in}
use Rattle.chat_history.specs.declared.cut.Cut.{Cut}
use Rattle.chat_history.proofs.CallerLemmas.{among-filter, among_passing, sorted_alike, sorted_reverse, among-reverse, reverse_among}
use Rattle.chat_history.proofs.CallerLemmas.{change_held, held_change, record_of, of_record, records_sorted, rising_total}
use Rattle.chat_buffers.specs.Kept.{IsKept, AreKept}
use Rattle.chat_buffers.specs.Messages.{Messages}
use Rattle.chat_buffers.specs.Store.{IsKeyedStore, history_in}
use Rattle.chat_buffers.specs.declared.held.Held.{Held}
use Rattle.chat_buffers.proofs.SettleLemmas.{Accounts, Tree, seen}
use Rattle.chat_buffers.proofs.KeptLemmas.{keyed_history, none_posted, posted_kept, kept_posted}

no_members : {A : Type 0} (xs : List A) → ((x : A) → Among x xs → ⊥) → xs ≡ []
no_members [] h = refl
no_members (x ∷ xs) h = absurd (h x (inl refl))

pub filter_all : {A : Type 0} (xs : List A) → filter (λ x. true) xs ≡ xs
filter_all [] = refl
filter_all (x ∷ xs) = ap (λ ys. x ∷ ys) (filter_all xs)

module _ (history : History) (keyed : IsKeyed history) (b : Buffer) where
  abbrev records : List Record
  records = records_in history b

  posted : (r : Record) → Among r records → (r.buffer ≡ b) × Among (Post r) (changes_of history)
  posted r m =
      let is = record_of history keyed b r m in
      (is.0, held_change history keyed (Post r) (ap (λ d. finite.get history (MessageOf d r.id)) is.0 ∙ is.1))

  module _ (ms : Messages) (kept_posted : (r : Record) → IsKept ms r → (r.buffer ≡ b) × Among (Post r) (changes_of history)) (posted_kept : (r : Record) → r.buffer ≡ b → Among (Post r) (changes_of history) → IsKept ms r) where
    pub record_kept : (r : Record) → Among r records → IsKept ms r
    record_kept r m = let is = posted r m in posted_kept r is.0 is.1

    pub kept_record : (r : Record) → IsKept ms r → Among r records
    kept_record r kept =
        let is = kept_posted r kept in
        of_record history keyed b r
        (is.0, ap (λ d. finite.get history (MessageOf d r.id)) (sym is.0) ∙ change_held history keyed (Post r) is.1)

    module _ (p : Record → Bool) where
      record_passes : (r : Record) → Among r (filter p records) ↔ (IsKept ms r × (p r ≡ true))
      record_passes r = (
        λ m. let both = among-filter p records r m in (record_kept r both.0, both.1),
        λ m. among_passing p records r (kept_record r m.0) m.1,
      )

      passing_sorted : IsStrictlySortedBy by_spot (filter p records)
      passing_sorted = IsStrictlySortedBy-filter by_spot p records (records_sorted history b)

      rising_is : (rs : List Record) → AreKept by_spot p ms rs → rs ≡ filter p records
      rising_is rs kept =
          sorted_alike rising_total rs (filter p records) kept.sorted passing_sorted
          (λ r. (λ m. (record_passes r).1 ((kept.all r).0 m), λ m. (kept.all r).1 ((record_passes r).0 m)))

      falling_is : (rs : List Record) → AreKept (flip_args by_spot) p ms rs → rs ≡ reverse (filter p records)
      falling_is rs kept =
          sorted_alike (back_total rising_total) rs (reverse (filter p records)) kept.sorted (sorted_reverse by_spot (filter p records) passing_sorted)
          (λ r. (
            λ m. reverse_among (filter p records) r ((record_passes r).1 ((kept.all r).0 m)),
            λ m. (kept.all r).1 ((record_passes r).0 (among-reverse (filter p records) r m)),
          ))

    pub up_of : (c : Cut) (rs : List Record) → AreKept by_spot (is_after c) ms rs → rs ≡ after c records
    up_of c rs kept = rising_is (is_after c) rs kept

    pub down_of : (c : Cut) (rs : List Record) → AreKept (flip_args by_spot) (λ r. not (is_after c r)) ms rs → rs ≡ reverse (before c records)
    down_of c rs kept = falling_is (λ r. not (is_after c r)) rs kept

module _ (ac : Accounts) (bs : Tree) (keyed : IsKeyedStore (seen ac bs)) (b : Buffer) where
  abbrev of_store : History
  of_store = history_in (seen ac bs)

  -- of a buffer of which nothing is held there are none
  pub records_absent : tree.get buffer_cmp bs b ≡ None → records_in of_store b ≡ []
  records_absent none = no_members (records_in of_store b) (λ r m.
      let is = posted of_store (keyed_history ac bs keyed) b r m in
      none_posted ac bs keyed r (ap (tree.get buffer_cmp bs) is.0 ∙ none) is.1)

  module _ (h : Held) (has : tree.get buffer_cmp bs b ≡ Some h) where
    pub up_is : (c : Cut) (rs : List Record) → AreKept by_spot (is_after c) h.messages rs → rs ≡ after c (records_in of_store b)
    up_is = up_of of_store (keyed_history ac bs keyed) b h.messages (kept_posted ac bs keyed b h has) (posted_kept ac bs keyed b h has)

    pub down_is : (c : Cut) (rs : List Record) → AreKept (flip_args by_spot) (λ r. not (is_after c r)) h.messages rs → rs ≡ reverse (before c (records_in of_store b))
    down_is = down_of of_store (keyed_history ac bs keyed) b h.messages (kept_posted ac bs keyed b h has) (posted_kept ac bs keyed b h has)
