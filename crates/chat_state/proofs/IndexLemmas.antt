-- The index by number after a piece came to its key, and after one went.
use Rattle.std.proofs.Common.{◌≡◌, refl, sym, ◌∙◌, ap, subst, ℕ, ◌<◌, Bool, true, false, cond, Option, Some, None, arith}
use Rattle.std.proofs.lemmas.Bool.{false≢true}
use Rattle.std.proofs.lemmas.Cmp.{tied_itself}
use Rattle.std.proofs.lemmas.Option.{same_Some}
use Rattle.std.specs.Cmp.{Equal-is, nat_cmp_total}
use Rattle.std.specs.Ordering.{eq_by_cmp, is_eq}
use Rattle.std.specs.Option.{option_map}
use Rattle.std.specs.FinMap as finite
use Rattle.chat_change.specs.Extent.{Extent, OfAccount, OfBuffer}
use Rattle.chat_change.specs.declared.change.Change.{Change}
use Rattle.chat_change.specs.declared.change.Change.TheVariants.{Post, Redact, Mark, Floor, AccountFloor}
use Rattle.chat_change.specs.Record.{Record}
use Rattle.chat_change.specs.Key.{Key, MessageOf, key_of, same_key}
use Rattle.chat_change.proofs.CallerLemmas.{key_total, same_key_is, same_key_itself}
use Rattle.ordered_maps.specs.MapView.{get, IsWith, IsWithout}
use Rattle.chat_history.specs.Retention.{remainder}
use Rattle.chat_buffers.specs.Store.{Store, Numbered, number_at, change_at, IsFresh, IsKeyedStore}
use Rattle.chat_buffers.specs.Entering.{with_remainder, beside, IsEntered}
use Rattle.chat_buffers.proofs.CallerLemmas.{get-numbers_in}
use Rattle.chat_state.specs.Number.{number_cmp}
use Rattle.chat_state.specs.PieceName.{PieceName, name_of}
use Rattle.chat_state.specs.Index.{ByNumber, IsIndexed, HoldsNoRedacted}

abbrev pub same : ℕ → ℕ → Bool
same = eq_by_cmp number_cmp

same_is : (a b : ℕ) → same a b ≡ true → a ≡ b
same_is a b e = sym (finite.nat_cmp-IsAntisymmetric b a ((Equal-is (number_cmp a b)).0 e))

same_itself : (a : ℕ) → same a a ≡ true
same_itself a = ap is_eq (tied_itself nat_cmp_total a)

not_same : (a b : ℕ) → (a ≡ b → ⊥) → same a b ≡ false
not_same a b h = elim (same a b) as (λ t. same a b ≡ t → t ≡ false) [ true ↦ λ e. absurd (h (same_is a b e)) | false ↦ λ _. refl ] refl

pub indexed_alike : (s : Store) (index new : ByNumber) → IsIndexed s index → ((q : ℕ) → get number_cmp new q ≡ get number_cmp index q) → IsIndexed s new
indexed_alike s index new was alike = record {
  once = was.once;
  listed = λ k p e. alike p.number ∙ was.listed k p e;
  right = λ n q e. was.right n q (sym (alike n) ∙ e);
}

number_cond : (a : Bool) (q : Numbered) (o : Option Numbered) → option_map (λ (p : Numbered). p.number) (cond a (Some q) o) ≡ cond a (Some q.number) (option_map (λ (p : Numbered). p.number) o)
number_cond true q o = refl
number_cond false q o = refl

none_cond : (a : Bool) (o : Option Numbered) → option_map (λ (p : Numbered). p.number) (cond a None o) ≡ cond a None (option_map (λ (p : Numbered). p.number) o)
none_cond true o = refl
none_cond false o = refl

left_number : (e : Extent) (t : ℕ) (o : Option Numbered) → option_map (λ (p : Numbered). p.number) (option_map (with_remainder e t) o) ≡ option_map (λ (p : Numbered). p.number) o
left_number e t None = refl
left_number e t (Some p) = refl

-- a change keeps the numbers of the other pieces
beside_number : (c : Change) (o : Option Numbered) → option_map (λ (p : Numbered). p.number) (beside c o) ≡ option_map (λ (p : Numbered). p.number) o
beside_number (Post r) o = refl
beside_number (Redact b m t) o = refl
beside_number (Mark b t) o = refl
beside_number (Floor b t) o = left_number (OfBuffer b) t o
beside_number (AccountFloor a t) o = left_number (OfAccount a) t o

numbered : (o : Option Numbered) (p : Numbered) → o ≡ Some p → option_map (λ (p : Numbered). p.number) o ≡ Some p.number
numbered o p e = ap (option_map (λ (p : Numbered). p.number)) e

-- a change keeps what the other pieces are known by
pub record IsAlike (p q : Numbered) : Type 0 where
  pub number : p.number ≡ q.number
  pub name : name_of p.change ≡ name_of q.change

remainder_name : (e : Extent) (t : ℕ) (c : Change) → name_of (remainder e t c) ≡ name_of c
remainder_name e t (Post r) = refl
remainder_name e t (Redact d m u) = refl
remainder_name e t (Mark d u) = refl
remainder_name e t (Floor d u) = refl
remainder_name e t (AccountFloor a u) = refl

left_some : (e : Extent) (t : ℕ) (q : Numbered) → (p : Numbered) × (option_map (with_remainder e t) (Some q) ≡ Some p) × IsAlike p q
left_some e t q = (with_remainder e t q, refl, record { number = refl; name = remainder_name e t q.change })

beside_some : (c : Change) (q : Numbered) → (p : Numbered) × (beside c (Some q) ≡ Some p) × IsAlike p q
beside_some (Post r) q = (q, refl, record { number = refl; name = refl })
beside_some (Redact b m t) q = (q, refl, record { number = refl; name = refl })
beside_some (Mark b t) q = (q, refl, record { number = refl; name = refl })
beside_some (Floor b t) q = left_some (OfBuffer b) t q
beside_some (AccountFloor a t) q = left_some (OfAccount a) t q

beside_was : (c : Change) (o : Option Numbered) (p : Numbered) → beside c o ≡ Some p → (q : Numbered) × (o ≡ Some q) × IsAlike p q
beside_was c None p e = absurd (none c e)
  where
    none : (c : Change) → beside c None ≡ Some p → ⊥
    none (Post r) e = cc e
    none (Redact b m t) e = cc e
    none (Mark b t) e = cc e
    none (Floor b t) e = cc e
    none (AccountFloor a t) e = cc e
beside_was c (Some q) p e =
    let x = beside_some c q in
    let same : x.0 ≡ p = same_Some x.0 p (sym x.1 ∙ e) in
    (q, refl, subst (λ y. IsAlike y q) same x.2)

abbrev pub is_at : Option ℕ → ℕ → Bool
is_at None x = false
is_at (Some b) x = same b x

-- a number above all others isn't in the index
pub unlisted_number : (s : Store) (n : ℕ) → IsFresh s n → (index : ByNumber) → IsIndexed s index → get number_cmp index n ≡ None
unlisted_number s n fresh index was = nothing (get number_cmp index n) refl
  where
    nothing : (o : Option PieceName) → get number_cmp index n ≡ o → o ≡ None
    nothing None e = refl
    nothing (Some q) e =
        let w = was.right n q e in
        let l = fresh w.0 w.1.number (get-numbers_in s w.0 ∙ numbered (finite.get s w.0) w.1 w.2) in
        let is = w.3 in
        absurd (omega (arith, l, is))

-- an entry that was taken back
pub index_restored : (index put out : ByNumber) (n : ℕ) (p : PieceName) → get number_cmp index n ≡ None → IsWith number_cmp index n p put → IsWithout number_cmp put n out → (q : ℕ) → get number_cmp out q ≡ get number_cmp index q
index_restored index put out n p none up down q =
    down q ∙ ap (cond (same n q) None) (up q)
    ∙ elim (same n q) as (λ b. same n q ≡ b → cond b None (cond b (Some p) (get number_cmp index q)) ≡ get number_cmp index q) [
      | true ↦ λ e. sym none ∙ ap (get number_cmp index) (same_is n q e)
      | false ↦ λ _. refl
    ] refl

module _ (s new : Store) (n : ℕ) (c : Change) (entered : IsEntered s n c new) (fresh : IsFresh s n) (index : ByNumber) (was : IsIndexed s index) where
  abbrev k : Key
  k = key_of c

  new_number : (j : Key) → number_at new j ≡ cond (same_key j k) (Some n) (number_at s j)
  new_number j =
      ap (option_map (λ (p : Numbered). p.number)) (entered j) ∙ number_cond (same_key j k) (record { number = n; change = c }) (beside c (finite.get s j))
      ∙ ap (cond (same_key j k) (Some n)) (beside_number c (finite.get s j))

  below : (j : Key) (m : ℕ) → number_at s j ≡ Some m → m < n
  below j m e = fresh j m (get-numbers_in s j ∙ e)

  -- of two keys with one number after the change, each had it before or is the new one
  once_in : (j l : Key) (m : ℕ) (a b : Bool) → same_key j k ≡ a → same_key l k ≡ b → cond a (Some n) (number_at s j) ≡ Some m → cond b (Some n) (number_at s l) ≡ Some m → j ≡ l
  once_in j l m true true e f g h = same_key_is j k e ∙ sym (same_key_is l k f)
  once_in j l m true false e f g h = let is : n ≡ m = same_Some n m g in let less = below l m h in absurd (omega (arith, is, less))
  once_in j l m false true e f g h = let is : n ≡ m = same_Some n m h in let less = below j m g in absurd (omega (arith, is, less))
  once_in j l m false false e f g h = was.once j l m g h

  abbrev mine : Numbered
  mine = record { number = n; change = c }

  module _ (after : ByNumber) (before : Option ℕ) (had : number_at s k ≡ before) (keys : (x : ℕ) → get number_cmp after x ≡ cond (is_at before x) None (cond (same n x) (Some (name_of c)) (get number_cmp index x))) where
    before_not : (o : Option ℕ) → (m : ℕ) → (o ≡ Some m → ⊥) → is_at o m ≡ false
    before_not None m h = refl
    before_not (Some b) m h = not_same b m (λ is. h (ap Some is))

    at_new : is_at before n ≡ false
    at_new = before_not before n (λ is. let l = below k n (had ∙ is) in omega (arith, l))

    listed_in : (j : Key) (p : Numbered) (a : Bool) → same_key j k ≡ a → cond a (Some mine) (beside c (finite.get s j)) ≡ Some p → get number_cmp after p.number ≡ Some (name_of p.change)
    listed_in j p true t e =
        subst (λ (x : Numbered). get number_cmp after x.number ≡ Some (name_of x.change)) (same_Some mine p e)
        (keys n ∙ ap (λ b. cond b None (cond (same n n) (Some (name_of c)) (get number_cmp index n))) at_new ∙ ap (λ b. cond b (Some (name_of c)) (get number_cmp index n)) (same_itself n))
    listed_in j p false t e =
        let w = beside_was c (finite.get s j) p e in
        let m = w.0.number in
        let there : number_at s j ≡ Some m = numbered (finite.get s j) w.0 w.1 in
        let other : is_at before m ≡ false = before_not before m (λ is.
        let one : k ≡ j = was.once k j m (had ∙ is) there in
        false≢true (sym t ∙ ap (same_key j) one ∙ same_key_itself j)) in
        let older : same n m ≡ false = not_same n m (λ is. let l = below j m there in omega (arith, is, l)) in
        ap (get number_cmp after) w.2.number
        ∙ keys m ∙ ap (λ b. cond b None (cond (same n m) (Some (name_of c)) (get number_cmp index m))) other ∙ ap (λ b. cond b (Some (name_of c)) (get number_cmp index m)) older ∙ was.listed j w.0 w.1
        ∙ ap Some (sym w.2.name)

    right_in : (m : ℕ) (q : PieceName) (a b : Bool) → is_at before m ≡ a → same n m ≡ b → cond a None (cond b (Some (name_of c)) (get number_cmp index m)) ≡ Some q → (j : Key) × (p : Numbered) × (finite.get new j ≡ Some p) × (p.number ≡ m) × (name_of p.change ≡ q)
    right_in m q true b f t e = cc e
    right_in m q false true f t e =
        (k, mine, entered k ∙ ap (λ a. cond a (Some mine) (beside c (finite.get s k))) (same_key_itself k), same_is n m t, same_Some (name_of c) q e)
    right_in m q false false f t e =
        let w = was.right m q e in
        let stays = beside_some c w.1 in (
          w.0,
          stays.0,
          entered w.0
              ∙ elim (same_key w.0 k) as (λ a. same_key w.0 k ≡ a → cond a (Some mine) (beside c (finite.get s w.0)) ≡ Some stays.0) [
                | true ↦ λ g.
                    let at : before ≡ Some m = sym had ∙ ap (number_at s) (sym (same_key_is w.0 k g)) ∙ numbered (finite.get s w.0) w.1 w.2 ∙ ap Some w.3 in
                    absurd (false≢true (sym f ∙ ap (λ o. is_at o m) at ∙ same_itself m))
                | false ↦ λ _. ap (beside c) w.2 ∙ stays.1
              ] refl,
          stays.2.number ∙ w.3,
          stays.2.name ∙ w.4,
        )

    pub indexed_after : IsIndexed new after
    indexed_after = record {
      once = λ j l m e f. once_in j l m (same_key j k) (same_key l k) refl refl (sym (new_number j) ∙ e) (sym (new_number l) ∙ f);
      listed = λ j p e. listed_in j p (same_key j k) refl (sym (entered j) ∙ e);
      right = λ m q e. right_in m q (is_at before m) (same n m) refl refl (sym (keys m) ∙ e);
    }

-- ---- a piece goes, with its number

module _ (s : Store) (index : ByNumber) (was : IsIndexed s index) (k : Key) (p : Numbered) (here : finite.get s k ≡ Some p) (out : ByNumber) (without : IsWithout number_cmp index p.number out) where
  abbrev left : Store
  left = finite.remove s k

  had : number_at s k ≡ Some p.number
  had = ap (option_map (λ (q : Numbered). q.number)) here

  left_numbers : (j : Key) → number_at left j ≡ cond (same_key j k) None (number_at s j)
  left_numbers j = ap (option_map (λ (q : Numbered). q.number)) (finite.get-remove key_total s k j) ∙ none_cond (same_key j k) (finite.get s j)

  stayed : (j : Key) (m : ℕ) (a : Bool) → cond a None (number_at s j) ≡ Some m → number_at s j ≡ Some m
  stayed j m true e = cc e
  stayed j m false e = e

  not_gone : (j : Key) (m : ℕ) (a : Bool) → same_key j k ≡ a → cond a None (number_at s j) ≡ Some m → same p.number m ≡ false
  not_gone j m true t e = cc e
  not_gone j m false t e = not_same p.number m (λ is. false≢true (sym t ∙ ap (same_key j) (was.once k j m (had ∙ ap Some is) e) ∙ same_key_itself j))

  left_pieces : (j : Key) → finite.get left j ≡ cond (same_key j k) None (finite.get s j)
  left_pieces j = finite.get-remove key_total s k j

  piece_stayed : (j : Key) (q : Numbered) (a : Bool) → cond a None (finite.get s j) ≡ Some q → finite.get s j ≡ Some q
  piece_stayed j q true e = cc e
  piece_stayed j q false e = e

  right_left : (m : ℕ) (q : PieceName) (a : Bool) → same p.number m ≡ a → cond a None (get number_cmp index m) ≡ Some q → (j : Key) × (x : Numbered) × (finite.get left j ≡ Some x) × (x.number ≡ m) × (name_of x.change ≡ q)
  right_left m q true t e = cc e
  right_left m q false t e =
      let w = was.right m q e in (
        w.0,
        w.1,
        left_pieces w.0
            ∙ elim (same_key w.0 k) as (λ a. same_key w.0 k ≡ a → cond a None (finite.get s w.0) ≡ Some w.1) [
              | true ↦ λ g.
                  let mine : p.number ≡ m = same_Some p.number m (sym had ∙ ap (number_at s) (sym (same_key_is w.0 k g)) ∙ numbered (finite.get s w.0) w.1 w.2 ∙ ap Some w.3) in
                  absurd (false≢true (sym t ∙ ap (same p.number) (sym mine) ∙ same_itself p.number))
              | false ↦ λ _. w.2
            ] refl,
        w.3,
        w.4,
      )

  pub indexed_left : IsIndexed left out
  indexed_left = record {
    once = λ j l m e f. was.once j l m (stayed j m (same_key j k) (sym (left_numbers j) ∙ e)) (stayed l m (same_key l k) (sym (left_numbers l) ∙ f));
    listed = λ j q e.
        let was_there = sym (left_pieces j) ∙ e in
        let here = piece_stayed j q (same_key j k) was_there in
        let number : cond (same_key j k) None (number_at s j) ≡ Some q.number = sym (left_numbers j) ∙ numbered (finite.get left j) q e in
        without q.number ∙ ap (λ b. cond b None (get number_cmp index q.number)) (not_gone j q.number (same_key j k) refl number) ∙ was.listed j q here;
    right = λ m q e. right_left m q (same p.number m) refl (sym (without m) ∙ e);
  }

-- ---- an index holds no redacted record

post_of : (c : Change) (r : Record) → (name_of c).post ≡ Some r → c ≡ Post r
post_of (Post q) r e = ap Post (same_Some q r e)
post_of (Redact b m t) r e = cc e
post_of (Mark b t) r e = cc e
post_of (Floor b t) r e = cc e
post_of (AccountFloor a t) r e = cc e

pub no_redacted : (s : Store) (index : ByNumber) → IsKeyedStore s → IsIndexed s index → HoldsNoRedacted s index
no_redacted s index keyed was b m t gone n q r e post same =
    let w = was.right n q e in
    let is : w.1.change ≡ Post r = post_of w.1.change r (ap (λ (x : PieceName). x.post) w.4 ∙ post) in
    let under : MessageOf r.buffer r.id ≡ w.0 = ap key_of (sym is) ∙ keyed w.0 w.1 w.2 in
    let there : change_at s (MessageOf b m) ≡ Some (Post r) = ap (change_at s) (sym same ∙ under) ∙ ap (option_map (λ (x : Numbered). x.change)) w.2 ∙ ap Some is in
    apart (same_Some _ _ (sym there ∙ gone))
  where
    apart : ◌≡◌ {A = Change} (Post r) (Redact b m t) → ⊥
    apart e = cc e
