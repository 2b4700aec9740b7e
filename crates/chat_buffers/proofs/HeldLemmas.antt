-- The store of many buffers and of their accounts has under each key the piece of its extent.
use Rattle.std.proofs.Common.{◌≡◌, refl, sym, ◌∙◌, ap, subst, ℕ, max, List, [], ◌∷◌, ◌++◌, map, Bool, true, false, cond, ◌||◌, Option, Some, None, is_some}
use Rattle.std.proofs.lemmas.Bool.{false≢true}
use Rattle.std.specs.Cmp.{Equal-is}
use Rattle.std.specs.Ordering.{eq_by_cmp}
use Rattle.std.proofs.lemmas.List.Folds.{list_any-append}
use Rattle.std.specs.List.{filter_map, flat_map, list_any, cons_option}
use Rattle.std.specs.Option.{option_map}
use Rattle.std.specs.FinMap as finite
use Rattle.chat_change.specs.Buffer.{Buffer}
use Rattle.chat_change.specs.Extent.{OfAccount, OfBuffer}
use Rattle.byte_text.specs.Order.{text_cmp}
use Rattle.chat_change.specs.Order.{buffer_cmp, id_cmp}
use Rattle.chat_change.specs.Key.{Key, FloorOf, MarkerOf, MessageOf, key_cmp, key_extent, same_key}
use Rattle.chat_history.specs.Retention.{same_account, same_buffer}
use Rattle.chat_buffers.specs.Store.{Numbered}
use Rattle.byte_text.proofs.CallerLemmas.{text_exact}
use Rattle.chat_change.proofs.CallerLemmas.{key_total, same_key_itself, same_key_is, buffer_exact, id_exact}
use Rattle.chat_buffers.specs.declared.held.Held.{Held}
use Rattle.chat_buffers.specs.Stamps.{floor_moment}
use Rattle.chat_buffers.specs.Held.{ByAccount, ByBuffer, held_piece, account_piece, piece_in, held_floor, numbered, tabulated, account_key, keys_of, store_in}

abbrev pub same_id : List ℕ → List ℕ → Bool
same_id = eq_by_cmp id_cmp

pub same_id_is : (a b : List ℕ) → same_id a b ≡ true → a ≡ b
same_id_is a b e = id_exact a b ((Equal-is (id_cmp a b)).0 e)

pub same_buffer_is : (b d : Buffer) → same_buffer b d ≡ true → b ≡ d
same_buffer_is b d e = buffer_exact b d ((Equal-is (buffer_cmp b d)).0 e)

pub same_account_is : (a d : List ℕ) → same_account a d ≡ true → a ≡ d
same_account_is a d e = text_exact a d ((Equal-is (text_cmp a d)).0 e)

pub one_buffer : (b d : Buffer) → OfBuffer b ≡ OfBuffer d → b ≡ d
one_buffer b d e = cc e

-- ---- a store that is tabulated

abbrev entry : (Key → Option Numbered) → Key → Option (Key × Numbered)
entry f k = option_map (λ (p : Numbered). (k, p)) (f k)

abbrev listed : Key → List Key → Bool
listed k keys = list_any (same_key k) keys

find_hit : (k l : Key) (o : Option Numbered) (rest : List (Key × Numbered)) (b : Bool) → same_key k l ≡ true → finite.find key_cmp k rest ≡ cond b o None → finite.find key_cmp k (cons_option (option_map (λ (p : Numbered). (l, p)) o) rest) ≡ o
find_hit k l None rest b e h = h ∙ elim b as (λ b. cond {A = Option Numbered} b None None ≡ None) [ true ↦ refl | false ↦ refl ]
find_hit k l (Some p) rest b e h = ap (λ t. cond t (Some p) (finite.find key_cmp k rest)) e

find_miss : (k l : Key) (o : Option Numbered) (rest : List (Key × Numbered)) → same_key k l ≡ false → finite.find key_cmp k (cons_option (option_map (λ (p : Numbered). (l, p)) o) rest) ≡ finite.find key_cmp k rest
find_miss k l None rest e = refl
find_miss k l (Some p) rest e = ap (λ t. cond t (Some p) (finite.find key_cmp k rest)) e

find_tabulated : (f : Key → Option Numbered) (k : Key) (keys : List Key) → finite.find key_cmp k (filter_map (entry f) keys) ≡ cond (listed k keys) (f k) None
find_tabulated f k [] = refl
find_tabulated f k (l ∷ keys) =
    let rest = filter_map (entry f) keys in
    elim (same_key k l) as (λ b. same_key k l ≡ b → finite.find key_cmp k (cons_option (entry f l) rest) ≡ cond (b || listed k keys) (f k) None) [
      | true ↦ λ e.
          let here = ap f (same_key_is k l e) in
          find_hit k l (f l) rest (listed k keys) e (find_tabulated f k keys ∙ ap (λ o. cond (listed k keys) o None) here) ∙ sym here
      | false ↦ λ e. find_miss k l (f l) rest e ∙ find_tabulated f k keys
    ] refl

pub get-tabulated : (f : Key → Option Numbered) (keys : List Key) (k : Key) → (listed k keys ≡ false → f k ≡ None) → finite.get (tabulated f keys) k ≡ f k
get-tabulated f keys k none =
    finite.get-from_entries key_total (filter_map (entry f) keys) k ∙ find_tabulated f k keys
    ∙ elim (listed k keys) as (λ b. listed k keys ≡ b → cond b (f k) None ≡ f k) [ true ↦ λ _. refl | false ↦ λ e. sym (none e) ] refl

-- ---- every piece has its key listed

neither : (a b : Bool) → (a || b) ≡ false → (a ≡ false) × (b ≡ false)
neither true b e = absurd (false≢true (sym e))
neither false b e = (refl, e)

message_listed : (b : Buffer) (m : List ℕ) (ids : List (List ℕ)) → list_any (same_key (MessageOf b m)) (map (MessageOf b) ids) ≡ false → list_any (same_id m) ids ≡ false
message_listed b m [] e = refl
message_listed b m (i ∷ ids) e =
    let both = neither (same_key (MessageOf b m) (MessageOf b i)) (list_any (same_key (MessageOf b m)) (map (MessageOf b) ids)) e in
    elim (same_id m i) as (λ t. same_id m i ≡ t → (t || list_any (same_id m) ids) ≡ false) [
      | true ↦ λ t. absurd (false≢true (sym both.0 ∙ subst (λ j. same_key (MessageOf b m) (MessageOf b j) ≡ true) (same_id_is m i t) (same_key_itself (MessageOf b m))))
      | false ↦ λ _. message_listed b m ids both.1
    ] refl

nothing_of : {V : Type 0} (o : Option V) → is_some o ≡ false → o ≡ None
nothing_of None e = refl
nothing_of (Some v) e = absurd (false≢true (sym e))

account_listed : (a : List ℕ) (names : List (List ℕ)) → list_any (same_key (account_key a)) (map account_key names) ≡ false → list_any (same_account a) names ≡ false
account_listed a [] e = refl
account_listed a (i ∷ names) e =
    let both = neither (same_key (account_key a) (account_key i)) (list_any (same_key (account_key a)) (map account_key names)) e in
    elim (same_account a i) as (λ t. same_account a i ≡ t → (t || list_any (same_account a) names) ≡ false) [
      | true ↦ λ t. absurd (false≢true (sym both.0 ∙ subst (λ j. same_key (account_key a) (account_key j) ≡ true) (same_account_is a i t) (same_key_itself (account_key a))))
      | false ↦ λ _. account_listed a names both.1
    ] refl

-- of a buffer whose keys don't list it a key has no piece
unlisted_here : (f : ℕ) (h : Held) (b : Buffer) (k : Key) → key_extent k ≡ OfBuffer b → listed k (keys_of (b, h)) ≡ false → held_piece f (Some h) k ≡ None
unlisted_here f h b (FloorOf (OfAccount a)) is e = refl
unlisted_here f h b (FloorOf (OfBuffer d)) is e =
    let hit = ap (λ x. same_key (FloorOf (OfBuffer d)) (FloorOf x)) (sym is) ∙ same_key_itself (FloorOf (OfBuffer d)) in
    absurd (false≢true (sym (neither (same_key (FloorOf (OfBuffer d)) (FloorOf (OfBuffer b))) _ e).0 ∙ hit))
unlisted_here f h b (MarkerOf d) is e =
    let hit = ap (λ x. same_key (MarkerOf d) (MarkerOf x)) (sym (one_buffer d b is)) ∙ same_key_itself (MarkerOf d) in
    absurd (false≢true (sym (neither (same_key (MarkerOf d) (MarkerOf b)) _ (neither (same_key (MarkerOf d) (FloorOf (OfBuffer b))) _ e).1).0 ∙ hit))
unlisted_here f h b (MessageOf d m) is e =
    let rest = (neither (same_key (MessageOf d m) (MarkerOf b)) _ (neither (same_key (MessageOf d m) (FloorOf (OfBuffer b))) _ e).1).1 in
    let here = subst (λ x. list_any (same_key (MessageOf x m)) (map (MessageOf b) (finite.keys h.messages)) ≡ false) (one_buffer d b is) rest in
    let none = nothing_of (finite.get h.messages m) (finite.contains_key-keys h.messages m ∙ message_listed b m (finite.keys h.messages) here) in
    ap (option_map (numbered d m (max f (held_floor h)))) none

unlisted : (f : ℕ) (b : Buffer) (k : Key) → key_extent k ≡ OfBuffer b → (es : List (Buffer × Held)) → listed k (flat_map keys_of es) ≡ false → held_piece f (finite.find buffer_cmp b es) k ≡ None
unlisted f b k is [] e = refl
unlisted f b k is (x ∷ es) e =
    let both = neither (listed k (keys_of x)) (listed k (flat_map keys_of es)) (sym (list_any-append (same_key k) (keys_of x) (flat_map keys_of es)) ∙ e) in
    elim (same_buffer b x.0) as (λ t. same_buffer b x.0 ≡ t → held_piece f (cond t (Some x.1) (finite.find buffer_cmp b es)) k ≡ None) [
      | true ↦ λ t. unlisted_here f x.1 b k is (subst (λ d. listed k (keys_of (d, x.1)) ≡ false) (sym (same_buffer_is b x.0 t)) both.0)
      | false ↦ λ _. unlisted f b k is es both.1
    ] refl

module _ (accounts : ByAccount) (buffers : ByBuffer) where
  abbrev account_keys : List Key
  account_keys = map account_key (finite.keys accounts)

  abbrev buffer_keys : List Key
  buffer_keys = flat_map keys_of (finite.entries buffers)

  of_account : (a : List ℕ) → listed (account_key a) account_keys ≡ false → account_piece a (finite.get accounts a) ≡ None
  of_account a e = ap (account_piece a) (nothing_of (finite.get accounts a) (finite.contains_key-keys accounts a ∙ account_listed a (finite.keys accounts) e))

  of_buffer : (b : Buffer) (k : Key) → key_extent k ≡ OfBuffer b → listed k buffer_keys ≡ false → held_piece (floor_moment (finite.get accounts b.account)) (finite.get buffers b) k ≡ None
  of_buffer b k is e =
      let f = floor_moment (finite.get accounts b.account) in
      ap (λ o. held_piece f o k) (finite.get-entries buffers b) ∙ unlisted f b k is (finite.entries buffers) e

  in_neither : (k : Key) → (listed k account_keys ≡ false) × (listed k buffer_keys ≡ false) → piece_in accounts buffers k ≡ None
  in_neither (FloorOf (OfAccount a)) e = of_account a e.0
  in_neither (FloorOf (OfBuffer b)) e = of_buffer b (FloorOf (OfBuffer b)) refl e.1
  in_neither (MarkerOf b) e = of_buffer b (MarkerOf b) refl e.1
  in_neither (MessageOf b m) e = of_buffer b (MessageOf b m) refl e.1

  -- the store of many buffers and of their accounts, at each key
  pub get-store_in : (k : Key) → finite.get (store_in accounts buffers) k ≡ piece_in accounts buffers k
  get-store_in k =
      get-tabulated (piece_in accounts buffers) (account_keys ++ buffer_keys) k
      (λ e. in_neither k (neither (listed k account_keys) (listed k buffer_keys) (sym (list_any-append (same_key k) account_keys buffer_keys) ∙ e)))
