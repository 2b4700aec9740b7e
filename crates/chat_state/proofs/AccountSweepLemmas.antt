-- What lies below the floor of an account goes, buffer by buffer.
use Rattle.std.proofs.Common.{◌≡◌, refl, sym, ◌∙◌, ap, subst, ℕ, ◌+◌, ◌<◌, ◌≤◌, Bool, true, false, cond, ◌&&◌, nat_lt, nat_le, Option, Some, None, ◌⊎◌, ⊎_elim, inl, inr, List, length, get_or, arith}
use Rattle.std.proofs.lemmas.List.{get_or_default}
use Rattle.std.proofs.lemmas.Option.{same_Some}
use Rattle.std.specs.Option.{option_map, option_and_then, unwrap_or}
use Rattle.std.specs.FinMap as finite
use Rattle.chat_change.specs.Buffer.{Buffer}
use Rattle.chat_change.specs.Extent.{Extent, OfAccount, OfBuffer}
use Rattle.chat_change.specs.Record.{Record}
use Rattle.chat_change.specs.declared.change.Change.{Change}
use Rattle.chat_change.specs.declared.change.Change.TheVariants.{Post, Redact, Mark, Floor, AccountFloor}
use Rattle.chat_change.specs.Key.{Key, FloorOf, key_extent, key_of, same_key}
use Rattle.chat_change.proofs.CallerLemmas.{key_total, same_key_is, same_key_itself}
use Rattle.chat_history.specs.History.{floor_moment}
use Rattle.chat_history.specs.Retention.{same_account, same_buffer}
use Rattle.chat_buffers.specs.Store.{Store, Numbered, IsKeyedStore, own_floor_in}
use Rattle.chat_buffers.specs.Entering.{with_remainder, is_below, IsSweptOf, TakesFloor, HasNoFloorTo, AreBuffersOf, unless_below, IsSwept}
use Rattle.chat_state.specs.Sweeping.{IsFloorSwept}
use Rattle.chat_state.proofs.SweepLemmas.{same_buffer_itself, same_buffer_is, same_account_itself, same_account_is, IsFloorEntered}

-- what is left lies at or above the floor, and was there
pub unless_some : (e : Extent) (f : ℕ) (o : Option Numbered) (p : Numbered) → unless_below e f o ≡ Some p → (o ≡ Some p) × (is_below e f p.change ≡ false)
unless_some e f None p h = cc h
unless_some e f (Some q) p h =
    elim (is_below e f q.change) as (λ b. is_below e f q.change ≡ b → cond b None (Some q) ≡ Some p → (Some q ≡ Some p) × (is_below e f p.change ≡ false)) [
      | true ↦ λ _ g. cc g
      | false ↦ λ t g. let is : q ≡ p = same_Some q p g in (g, ap (λ (x : Numbered). is_below e f x.change) (sym is) ∙ t)
    ] refl h

twice : (e : Extent) (f : ℕ) (o : Option Numbered) → unless_below e f (unless_below e f o) ≡ unless_below e f o
twice e f None = refl
twice e f (Some q) =
    elim (is_below e f q.change) as (λ b. is_below e f q.change ≡ b → unless_below e f (cond b None (Some q)) ≡ cond b None (Some q)) [
      | true ↦ λ _. refl
      | false ↦ λ t. ap (λ b. cond b None (Some q)) t
    ] refl

-- ---- pieces below the floor of an account go, and no others

abbrev pub IsThinned : List ℕ → ℕ → Store → Store → Type 0
IsThinned a f old now = (k : Key) → (finite.get now k ≡ finite.get old k) ⊎ (finite.get now k ≡ unless_below (OfAccount a) f (finite.get old k))

pub thinned_on : (a : List ℕ) (f : ℕ) (old mid new : Store) → IsThinned a f old mid → IsThinned a f mid new → IsThinned a f old new
thinned_on a f old mid new one two k =
    ⊎_elim
    (λ g. ⊎_elim (λ h. inl (g ∙ h)) (λ h. inr (g ∙ h)) (one k))
    (λ g. inr (g ∙ ⊎_elim (λ h. ap (unless_below (OfAccount a) f) h) (λ h. ap (unless_below (OfAccount a) f) h ∙ twice (OfAccount a) f (finite.get old k)) (one k)))
    (two k)

was_there : (a : List ℕ) (f : ℕ) (old now : Store) → IsThinned a f old now → (k : Key) (p : Numbered) → finite.get now k ≡ Some p → finite.get old k ≡ Some p
was_there a f old now thinned k p e = ⊎_elim (λ g. sym g ∙ e) (λ g. (unless_some (OfAccount a) f (finite.get old k) p (sym g ∙ e)).0) (thinned k)

module _ (b : Buffer) (f : ℕ) (old new : Store) where
  -- the records of a buffer of the account
  pub records_thinned : IsSwept (OfBuffer b) f old new → IsThinned b.account f old new
  records_thinned swept k = ⊎_elim (λ g. inl (swept k ∙ g)) (λ g. inr (swept k ∙ g)) (piece (finite.get old k))
    where
      post : (p : Numbered) (r : Record) → (cond (same_buffer b r.buffer && nat_lt r.at f) None (Some p) ≡ Some p) ⊎ (cond (same_buffer b r.buffer && nat_lt r.at f) None (Some p) ≡ cond (same_account b.account r.buffer.account && nat_lt r.at f) None (Some p))
      post p r =
          elim (same_buffer b r.buffer) as (λ x. same_buffer b r.buffer ≡ x → (cond (x && nat_lt r.at f) None (Some p) ≡ Some p) ⊎ (cond (x && nat_lt r.at f) None (Some p) ≡ cond (same_account b.account r.buffer.account && nat_lt r.at f) None (Some p))) [
            | true ↦ λ t.
                let same : same_account b.account r.buffer.account ≡ true = ap (λ (d : Buffer). same_account b.account d.account) (sym (same_buffer_is b r.buffer t)) ∙ same_account_itself b.account in
                inr (ap (λ x. cond (x && nat_lt r.at f) None (Some p)) (sym same))
            | false ↦ λ _. inl refl
          ] refl

      each : (p : Numbered) (c : Change) → (cond (is_below (OfBuffer b) f c) None (Some p) ≡ Some p) ⊎ (cond (is_below (OfBuffer b) f c) None (Some p) ≡ cond (is_below (OfAccount b.account) f c) None (Some p))
      each p (Post r) = post p r
      each p (Redact d m t) = inl refl
      each p (Mark d t) = inl refl
      each p (Floor d t) = inl refl
      each p (AccountFloor a t) = inl refl

      piece : (o : Option Numbered) → (unless_below (OfBuffer b) f o ≡ o) ⊎ (unless_below (OfBuffer b) f o ≡ unless_below (OfAccount b.account) f o)
      piece None = inl refl
      piece (Some p) = each p p.change

  pub no_record : IsSwept (OfBuffer b) f old new → IsSweptOf b f new
  no_record swept k r n here e =
      let high = (unless_some (OfBuffer b) f (finite.get old k) (record { number = n; change = Post r }) (sym (swept k) ∙ e)).1 in
      from r.at f (ap (λ x. x && nat_lt r.at f) (sym (ap (same_buffer b) here ∙ same_buffer_itself b)) ∙ high)
    where
      from : (x f : ℕ) → nat_lt x f ≡ false → f ≤ x
      from x f e = grind (arith, e)

  -- the own floor of a buffer of the account
  pub floor_thinned : IsFloorSwept b f old new → IsThinned b.account f old new
  floor_thinned swept k = ⊎_elim (λ g. inl (swept k ∙ g)) (λ g. inr (swept k ∙ g)) (piece (same_key k (FloorOf (OfBuffer b))))
    where
      piece : (x : Bool) → (cond x (unless_below (OfAccount b.account) f (finite.get old k)) (finite.get old k) ≡ finite.get old k) ⊎ (cond x (unless_below (OfAccount b.account) f (finite.get old k)) (finite.get old k) ≡ unless_below (OfAccount b.account) f (finite.get old k))
      piece true = inr refl
      piece false = inl refl

  pub no_floor : IsFloorSwept b f old new → HasNoFloorTo b f new
  no_floor swept n u e =
      let k = FloorOf (OfBuffer b) in
      let here : finite.get new k ≡ unless_below (OfAccount b.account) f (finite.get old k) = swept k ∙ ap (λ x. cond x (unless_below (OfAccount b.account) f (finite.get old k)) (finite.get old k)) (same_key_itself k) in
      let high = (unless_some (OfAccount b.account) f (finite.get old k) (record { number = n; change = Floor b u }) (sym here ∙ e)).1 in
      above u f (ap (λ x. x && nat_le u f) (sym (same_account_itself b.account)) ∙ high)
    where
      above : (u f : ℕ) → nat_le u f ≡ false → f < u
      above u f e = grind (arith, e)

-- an own floor that the account's reaches was taken out
pub floor_taken : (b : Buffer) (f n : ℕ) (old new : Store) → TakesFloor old b f n new → IsFloorSwept b f old new
floor_taken b f n old new takes k =
    let l = FloorOf (OfBuffer b) in
    let reached : nat_le takes.at f ≡ true = to takes.at f takes.reached in
    let gone : unless_below (OfAccount b.account) f (finite.get old l) ≡ None =
    ap (unless_below (OfAccount b.account) f) takes.was
    ∙ ap (λ x. cond (x && nat_le takes.at f) None (Some (record { number = n; change = Floor b takes.at }))) (same_account_itself b.account)
    ∙ ap (λ x. cond x None (Some (record { number = n; change = Floor b takes.at }))) reached in
    ap (λ (s : Store). finite.get s k) takes.left ∙ finite.get-remove key_total old l k
    ∙ elim (same_key k l) as (λ x. same_key k l ≡ x → cond x None (finite.get old k) ≡ cond x (unless_below (OfAccount b.account) f (finite.get old k)) (finite.get old k)) [
      | true ↦ λ e. sym (ap (λ j. unless_below (OfAccount b.account) f (finite.get old j)) (same_key_is k l e) ∙ gone)
      | false ↦ λ _. refl
    ] refl
  where
    to : (u f : ℕ) → u ≤ f → nat_le u f ≡ true
    to u f l = grind (arith, l)

-- where the own floor is higher, nothing has to go
pub floor_above : (b : Buffer) (f : ℕ) (s : Store) → IsKeyedStore s → HasNoFloorTo b f s → IsFloorSwept b f s s
floor_above b f s keyed none k =
    elim (same_key k (FloorOf (OfBuffer b))) as (λ x. same_key k (FloorOf (OfBuffer b)) ≡ x → finite.get s k ≡ cond x (unless_below (OfAccount b.account) f (finite.get s k)) (finite.get s k)) [
      | true ↦ λ e. sym (subst (λ j. unless_below (OfAccount b.account) f (finite.get s j) ≡ finite.get s j) (sym (same_key_is k (FloorOf (OfBuffer b)) e)) (stays (finite.get s (FloorOf (OfBuffer b))) refl))
      | false ↦ λ _. refl
    ] refl
  where
    higher : (u f : ℕ) → f < u → nat_le u f ≡ false
    higher u f l = grind (arith, l)

    and_false : (x y : Bool) → y ≡ false → (x && y) ≡ false
    and_false true y e = e
    and_false false y e = refl

    each : (p : Numbered) → finite.get s (FloorOf (OfBuffer b)) ≡ Some p → (c : Change) → p.change ≡ c → key_of c ≡ FloorOf (OfBuffer b) → cond (is_below (OfAccount b.account) f c) None (Some p) ≡ Some p
    each p here (Post r) is e = cc e
    each p here (Redact d m t) is e = refl
    each p here (Mark d t) is e = refl
    each p here (Floor d u) is e =
        let one : d ≡ b = cc e in
        let high = higher u f (none p.number u (here ∙ (λ i. Some (record { number = p.number; change = is i })) ∙ ap (λ x. Some (record { number = p.number; change = Floor x u })) one)) in
        ap (λ x. cond x None (Some p)) (and_false (same_account b.account d.account) (nat_le u f) high)
    each p here (AccountFloor a t) is e = refl

    stays : (o : Option Numbered) → finite.get s (FloorOf (OfBuffer b)) ≡ o → unless_below (OfAccount b.account) f o ≡ o
    stays None here = refl
    stays (Some p) here = each p here p.change refl (keyed (FloorOf (OfBuffer b)) p here)

-- the floor of the account stands
pub floor_stands : (a : List ℕ) (f : ℕ) (old now : Store) → IsKeyedStore old → IsThinned a f old now → own_floor_in now (OfAccount a) ≡ own_floor_in old (OfAccount a)
floor_stands a f old now keyed thinned =
    ap (λ o. unwrap_or (option_and_then floor_moment (option_map (λ (p : Numbered). p.change) o)) 0)
    (⊎_elim (λ g. g) (λ g. g ∙ stays (finite.get old (FloorOf (OfAccount a))) (keyed (FloorOf (OfAccount a)))) (thinned (FloorOf (OfAccount a))))
  where
    each : (p : Numbered) (c : Change) → key_of c ≡ FloorOf (OfAccount a) → cond (is_below (OfAccount a) f c) None (Some p) ≡ Some p
    each p (Post r) e = cc e
    each p (Redact d m t) e = refl
    each p (Mark d t) e = refl
    each p (Floor d t) e = cc e
    each p (AccountFloor d t) e = refl

    stays : (o : Option Numbered) → ((p : Numbered) → o ≡ Some p → key_of p.change ≡ FloorOf (OfAccount a)) → unless_below (OfAccount a) f o ≡ o
    stays None h = refl
    stays (Some p) h = each p p.change (h p refl)

-- ---- the buffers that are listed, one by one

-- nothing of a buffer lies below the floor
abbrev pub HasNothingBelow : Buffer → ℕ → Store → Type 0
HasNothingBelow b f s = IsSweptOf b f s × HasNoFloorTo b f s

-- nor of the first buffers of a list, as far as they are the account's
abbrev pub AreSwept : List ℕ → ℕ → Store → List Buffer → ℕ → Type 0
AreSwept a f s buffers count = (i : ℕ) → i < count → (b : Buffer) → get_or buffers i b ≡ b → b.account ≡ a → HasNothingBelow b f s

module _ (a : List ℕ) (f : ℕ) (old new : Store) (thinned : IsThinned a f old new) where
  pub still_nothing : (b : Buffer) → HasNothingBelow b f old → HasNothingBelow b f new
  still_nothing b none = (
    λ k r n here e. none.0 k r n here (was_there a f old new thinned k (record { number = n; change = Post r }) e),
    λ n u e. none.1 n u (was_there a f old new thinned (FloorOf (OfBuffer b)) (record { number = n; change = Floor b u }) e),
  )

  pub one_more : (buffers : List Buffer) (i : ℕ) (d : Buffer) → AreSwept a f old buffers i → i < length buffers → get_or buffers i d ≡ d → (d.account ≡ a → HasNothingBelow d f new) → AreSwept a f new buffers (i + 1)
  one_more buffers i d swept within at none j less b is of =
      ⊎_elim (λ before. still_nothing b (swept j before b is of))
      (λ same.
      let one : d ≡ b = sym at ∙ get_or_default buffers i d b within ∙ ap (λ x. get_or buffers x b) (sym same) ∙ is in
      subst (λ x. HasNothingBelow x f new) one (none (ap (λ (x : Buffer). x.account) one ∙ of)))
      (before_or_at j i less)
    where
      before_or_at : (j i : ℕ) → j < i + 1 → (j < i) ⊎ (j ≡ i)
      before_or_at j i l = elim (nat_lt j i) as (λ b. nat_lt j i ≡ b → (j < i) ⊎ (j ≡ i)) [ true ↦ λ e. inl (grind (arith, e)) | false ↦ λ e. inr (grind (arith, e, l)) ] refl

-- where nothing is left below the floor in any buffer of the account
module _ (a : List ℕ) (f : ℕ) (buffers : List Buffer) (old now : Store) (keyed : IsKeyedStore old) (are : AreBuffersOf old a buffers) (thinned : IsThinned a f old now) (swept : AreSwept a f now buffers (length buffers)) where
  module _ (k : Key) (p : Numbered) (here : finite.get old k ≡ Some p) (same : finite.get now k ≡ finite.get old k) where
    -- nothing is left of the buffer that the key is in
    none_left : (b : Buffer) → key_extent k ≡ OfBuffer b → b.account ≡ a → HasNothingBelow b f now
    none_left b at of = let listed = are k p b here at of in swept listed.0 listed.1 b listed.2 of

    there : (c : Change) → p.change ≡ c → finite.get now k ≡ Some (record { number = p.number; change = c })
    there c is = same ∙ here ∙ (λ i. Some (record { number = p.number; change = is i }))

    under : (c : Change) → p.change ≡ c → k ≡ key_of c
    under c is = sym (keyed k p here) ∙ ap key_of is

    high : (x f : ℕ) → f ≤ x → nat_lt x f ≡ false
    high x f l = grind (arith, l)

    higher : (u f : ℕ) → f < u → nat_le u f ≡ false
    higher u f l = grind (arith, l)

    not_below : (c : Change) → p.change ≡ c → cond (is_below (OfAccount a) f c) None (Some p) ≡ Some p
    not_below (Post r) is =
        elim (same_account a r.buffer.account) as (λ x. same_account a r.buffer.account ≡ x → cond (x && nat_lt r.at f) None (Some p) ≡ Some p) [
          | true ↦ λ t.
              let none = none_left r.buffer (ap key_extent (under (Post r) is)) (sym (same_account_is a r.buffer.account t)) in
              ap (λ x. cond x None (Some p)) (high r.at f (none.0 k r p.number refl (there (Post r) is)))
          | false ↦ λ _. refl
        ] refl
    not_below (Redact d m t) is = refl
    not_below (Mark d t) is = refl
    not_below (Floor d u) is =
        elim (same_account a d.account) as (λ x. same_account a d.account ≡ x → cond (x && nat_le u f) None (Some p) ≡ Some p) [
          | true ↦ λ t.
              let none = none_left d (ap key_extent (under (Floor d u) is)) (sym (same_account_is a d.account t)) in
              ap (λ x. cond x None (Some p)) (higher u f (none.1 p.number u (ap (finite.get now) (sym (under (Floor d u) is)) ∙ there (Floor d u) is)))
          | false ↦ λ _. refl
        ] refl
    not_below (AccountFloor d t) is = refl

  stays : (k : Key) (o : Option Numbered) → finite.get old k ≡ o → finite.get now k ≡ finite.get old k → unless_below (OfAccount a) f o ≡ o
  stays k None e same = refl
  stays k (Some p) e same = not_below k p e same p.change refl

  pub account_swept : IsSwept (OfAccount a) f old now
  account_swept k = ⊎_elim (λ g. g ∙ sym (stays k (finite.get old k) refl g)) (λ g. g) (thinned k)

-- ---- the walk over the buffers

-- how far it has come
abbrev pub IsUpTo : List ℕ → ℕ → Store → Store → List Buffer → ℕ → Type 0
IsUpTo a f old now buffers count = IsThinned a f old now × AreSwept a f now buffers count

module _ (a : List ℕ) (f : ℕ) (old now : Store) (buffers : List Buffer) (i : ℕ) (d : Buffer) (within : i < length buffers) (at : get_or buffers i d ≡ d) (upto : IsUpTo a f old now buffers i) where
  its_thinned : (mid : Store) → d.account ≡ a → IsSwept (OfBuffer d) f now mid → IsThinned a f now mid
  its_thinned mid its swept = subst (λ x. IsThinned x f now mid) its (records_thinned d f now mid swept)

  pub stands_after : (mid : Store) → d.account ≡ a → IsSwept (OfBuffer d) f now mid → IsKeyedStore old → f ≤ own_floor_in old (OfAccount a) → f ≤ own_floor_in mid (OfAccount d.account)
  stands_after mid its swept keyed stands =
      subst (λ x. f ≤ own_floor_in mid (OfAccount x)) (sym its)
      (subst (λ x. f ≤ x) (sym (floor_stands a f old mid keyed (thinned_on a f old now mid upto.0 (its_thinned mid its swept)))) stands)

  pub handled : (mid new : Store) → d.account ≡ a → IsSwept (OfBuffer d) f now mid → IsFloorSwept d f mid new → IsUpTo a f old new buffers (i + 1)
  handled mid new its swept floor =
      let second = subst (λ x. IsThinned x f mid new) its (floor_thinned d f mid new floor) in
      let both = thinned_on a f now mid new (its_thinned mid its swept) second in
      let records : IsSweptOf d f new = λ k r n here e. no_record d f now mid swept k r n here (was_there a f mid new second k (record { number = n; change = Post r }) e) in (
        thinned_on a f old now new upto.0 both,
        one_more a f now new both buffers i d upto.1 within at (λ _. (records, no_floor d f mid new floor)),
      )

  pub passed : (d.account ≡ a → ⊥) → IsUpTo a f old now buffers (i + 1)
  passed other = (upto.0, one_more a f now now (λ k. inl refl) buffers i d upto.1 within at (λ its. absurd (other its)))

-- ---- the account's floor entered

module _ (a : List ℕ) (t n : ℕ) (old mid : Store) (entered : IsFloorEntered old n (OfAccount a) t mid) where
  pub entered_stands : own_floor_in mid (OfAccount a) ≡ t
  entered_stands =
      ap (λ o. unwrap_or (option_and_then floor_moment (option_map (λ (p : Numbered). p.change) o)) 0)
      (entered (FloorOf (OfAccount a)) ∙ ap (λ x. cond x (Some (record { number = n; change = AccountFloor a t })) (option_map (with_remainder (OfAccount a) t) (finite.get old (FloorOf (OfAccount a))))) (same_key_itself (FloorOf (OfAccount a))))

  -- the buffers are the same as before
  pub entered_listed : (buffers : List Buffer) → AreBuffersOf old a buffers → AreBuffersOf mid a buffers
  entered_listed buffers are k p b e at of = let q = was_held (same_key k (FloorOf (OfAccount a))) refl (sym (entered k) ∙ e) in are k q.0 b q.1 at of
    where
      some_of : (o : Option Numbered) → option_map (with_remainder (OfAccount a) t) o ≡ Some p → (q : Numbered) × (o ≡ Some q)
      some_of None g = cc g
      some_of (Some q) g = (q, refl)

      apart : ◌≡◌ {A = Extent} (OfBuffer b) (OfAccount a) → ⊥
      apart g = cc g

      was_held : (x : Bool) → same_key k (FloorOf (OfAccount a)) ≡ x → cond x (Some (record { number = n; change = AccountFloor a t })) (option_map (with_remainder (OfAccount a) t) (finite.get old k)) ≡ Some p → (q : Numbered) × (finite.get old k ≡ Some q)
      was_held true s g = absurd (apart (sym at ∙ ap key_extent (same_key_is k (FloorOf (OfAccount a)) s)))
      was_held false s g = some_of (finite.get old k) g
