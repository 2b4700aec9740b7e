-- What lies below a floor goes piece by piece, until all has gone.
use Rattle.std.proofs.Common.{◌≡◌, refl, sym, ◌∙◌, ap, ℕ, ◌-◌, ◌<◌, ◌≤◌, Bool, true, false, cond, not, ◌&&◌, ◌||◌, nat_lt, nat_le, is_some, Option, Some, None, List, zero, suc, arith}
use Rattle.std.proofs.lemmas.Bool.{false≢true}
use Rattle.std.proofs.lemmas.Cmp.{tied_itself}
use Rattle.std.specs.Ordering.{is_eq}
use Rattle.std.specs.Cmp.{Equal-is}
use Rattle.std.specs.Option.{option_map}
use Rattle.std.specs.FinMap as finite
use Rattle.chat_change.specs.Buffer.{Buffer}
use Rattle.chat_change.specs.Extent.{Extent, OfAccount, OfBuffer}
use Rattle.chat_change.specs.Record.{Record}
use Rattle.byte_text.specs.Order.{text_cmp}
use Rattle.chat_change.specs.Order.{buffer_cmp}
use Rattle.chat_change.specs.declared.change.Change.{Change}
use Rattle.chat_change.specs.declared.change.Change.TheVariants.{Post, Redact, Mark, Floor, AccountFloor}
use Rattle.chat_change.specs.Key.{Key, FloorOf, key_cmp, key_of, same_key, floor_change}
use Rattle.byte_text.proofs.CallerLemmas.{text_total, text_exact}
use Rattle.chat_change.proofs.CallerLemmas.{buffer_total, buffer_exact, key_total, same_key_is, same_key_itself}
use Rattle.chat_history.specs.Retention.{same_account, same_buffer, is_covered, outlasts, remainder}
use Rattle.chat_buffers.specs.Store.{Store, Numbered, IsKeyedStore, piece_left, piece_above}
use Rattle.chat_buffers.specs.Entering.{with_remainder, is_below, IsSweptOf, unless_below, IsSwept}
use Rattle.chat_state.specs.Sweeping.{TakesSome}

pub same_buffer_itself : (b : Buffer) → same_buffer b b ≡ true
same_buffer_itself b = ap is_eq (tied_itself buffer_total b)

pub same_buffer_is : (b d : Buffer) → same_buffer b d ≡ true → b ≡ d
same_buffer_is b d e = buffer_exact b d ((Equal-is (buffer_cmp b d)).0 e)

pub same_account_itself : (a : List ℕ) → same_account a a ≡ true
same_account_itself a = ap is_eq (tied_itself text_total a)

pub same_account_is : (a d : List ℕ) → same_account a d ≡ true → a ≡ d
same_account_is a d e = text_exact a d ((Equal-is (text_cmp a d)).0 e)

-- what has to stay the same while records go
abbrev pub StaysSwept : Buffer → ℕ → Store → Store → Type 0
StaysSwept b f old now = (k : Key) → unless_below (OfBuffer b) f (finite.get now k) ≡ unless_below (OfBuffer b) f (finite.get old k)

dropped : (b : Buffer) (f : ℕ) (r : Record) (n : ℕ) → r.buffer ≡ b → r.at < f → unless_below (OfBuffer b) f (Some (record { number = n; change = Post r })) ≡ None
dropped b f r n here low =
    let cover : same_buffer b r.buffer ≡ true = ap (same_buffer b) here ∙ same_buffer_itself b in
    let less : nat_lt r.at f ≡ true = grind (arith, low) in
    ap (λ x. cond (x && nat_lt r.at f) None (Some (record { number = n; change = Post r }))) cover
    ∙ ap (λ x. cond x None (Some (record { number = n; change = Post r }))) less

pub one_less : (b : Buffer) (f : ℕ) (old now : Store) → TakesSome old b f now → StaysSwept b f old now
one_less b f old now some k =
    let one = some.1 in
    let l = key_of (Post one.post) in
    ap (unless_below (OfBuffer b) f) (ap (λ (s : Store). finite.get s k) one.left ∙ finite.get-remove key_total old l k)
    ∙ elim (same_key k l) as (λ a. same_key k l ≡ a → unless_below (OfBuffer b) f (cond a None (finite.get old k)) ≡ unless_below (OfBuffer b) f (finite.get old k)) [
      | true ↦ λ e. sym (ap (unless_below (OfBuffer b) f) (ap (finite.get old) (same_key_is k l e) ∙ one.was) ∙ dropped b f one.post some.0 one.here one.low)
      | false ↦ λ _. refl
    ] refl

pub fewer : (b : Buffer) (f : ℕ) (old now : Store) → TakesSome old b f now → finite.len now < finite.len old
fewer b f old now some =
    let one = some.1 in
    let l = key_of (Post one.post) in
    let count = ap finite.len one.left ∙ finite.len-remove key_total old l ∙ ap (λ o. cond (is_some o) (finite.len old - 1) (finite.len old)) one.was in
    positive (finite.len old) refl count
  where
    positive : (x : ℕ) → finite.len old ≡ x → finite.len now ≡ x - 1 → finite.len now < x
    positive zero e c =
        let none = ap (λ (s : Store). finite.get s (key_of (Post some.1.post))) (finite.empty_of_len old e) ∙ finite.get-empty key_cmp (key_of (Post some.1.post)) in
        cc (sym some.1.was ∙ none)
    positive (suc x) e c = omega (arith, c)

-- a store of which no record of the buffer stands below the floor
swept_at : (b : Buffer) (f : ℕ) (k : Key) (o : Option Numbered) → ((r : Record) (n : ℕ) → r.buffer ≡ b → o ≡ Some (record { number = n; change = Post r }) → f ≤ r.at) → unless_below (OfBuffer b) f o ≡ o
swept_at b f k None h = refl
swept_at b f k (Some p) h = stays p.change refl
  where
    stays : (c : Change) → p.change ≡ c → cond (is_below (OfBuffer b) f c) None (Some p) ≡ Some p
    stays (Post r) e =
        elim (same_buffer b r.buffer) as (λ x. same_buffer b r.buffer ≡ x → cond (x && nat_lt r.at f) None (Some p) ≡ Some p) [
          | true ↦ λ t.
              let from = h r p.number (sym (same_buffer_is b r.buffer t)) (λ i. Some (record { number = p.number; change = e i })) in
              let high : nat_lt r.at f ≡ false = grind (arith, from) in
              ap (λ x. cond x None (Some p)) high
          | false ↦ λ _. refl
        ] refl
    stays (Redact d m t) e = refl
    stays (Mark d t) e = refl
    stays (Floor d t) e = refl
    stays (AccountFloor a t) e = refl

pub all_swept : (b : Buffer) (f : ℕ) (old now : Store) → StaysSwept b f old now → IsSweptOf b f now → IsSwept (OfBuffer b) f old now
all_swept b f old now stays swept k = sym (swept_at b f k (finite.get now k) (λ r n here e. swept k r n here e)) ∙ stays k

-- ---- a floor that entered, and below which all went, is placed

-- of two tests, one of which is the other's opposite, one passes a piece that is covered
high_or_low : (a x y : Bool) (q : Numbered) → y ≡ not x → cond (a && x) None (Some q) ≡ cond (not a || y) (Some q) None
high_or_low true true true q h = absurd (false≢true (sym h))
high_or_low true true false q h = refl
high_or_low true false true q h = refl
high_or_low true false false q h = absurd (false≢true h)
high_or_low false x y q h = refl

not_less : (x f : ℕ) → nat_le f x ≡ not (nat_lt x f)
not_less x f = grind arith

not_to : (u f : ℕ) → nat_lt f u ≡ not (nat_le u f)
not_to u f = grind arith

-- an own floor, where it isn't the one that was set
own_floor_left : (e : Extent) (t u : ℕ) (d : Buffer) (q : Numbered) → same_key (FloorOf (OfBuffer d)) (FloorOf e) ≡ false → cond (is_below e t (Floor d u)) None (Some q) ≡ cond (outlasts e t (Floor d u)) (Some q) None
own_floor_left (OfAccount a) t u d q e = high_or_low (same_account a d.account) (nat_le u t) (nat_lt t u) q (not_to u t)
own_floor_left (OfBuffer b) t u d q e =
    elim (same_buffer b d) as (λ x. same_buffer b d ≡ x → Some q ≡ cond (not x || nat_lt t u) (Some q) None) [
      | true ↦ λ s. absurd (false≢true (sym e ∙ ap (λ x. same_key (FloorOf (OfBuffer x)) (FloorOf (OfBuffer b))) (sym (same_buffer_is b d s)) ∙ same_key_itself (FloorOf (OfBuffer b))))
      | false ↦ λ _. refl
    ] refl

left_at : (e : Extent) (t : ℕ) (k : Key) (o : Option Numbered) → same_key k (FloorOf e) ≡ false → ((p : Numbered) → o ≡ Some p → key_of p.change ≡ k) → unless_below e t (option_map (with_remainder e t) o) ≡ piece_left e t o
left_at e t k None apart keyed = refl
left_at e t k (Some p) apart keyed = each p.change refl
  where
    each : (c : Change) → p.change ≡ c → cond (is_below e t (remainder e t c)) None (Some (record p { change = remainder e t c })) ≡ cond (outlasts e t c) (Some (record p { change = remainder e t c })) None
    each (Post r) f = high_or_low (is_covered e r.buffer) (nat_lt r.at t) (nat_le t r.at) (record p { change = Post r }) (not_less r.at t)
    each (Redact d m u) f = refl
    each (Mark d u) f = refl
    each (Floor d u) f =
        let key : FloorOf (OfBuffer d) ≡ k = ap key_of (sym f) ∙ keyed p refl in
        own_floor_left e t u d (record p { change = Floor d u }) (ap (λ x. same_key x (FloorOf e)) key ∙ apart)
    each (AccountFloor a u) f = refl

-- the floor that was set stays
floor_stays : (e : Extent) (t : ℕ) (n : ℕ) → unless_below e t (Some (record { number = n; change = floor_change e t })) ≡ Some (record { number = n; change = floor_change e t })
floor_stays (OfAccount a) t n = refl
floor_stays (OfBuffer b) t n = refl

-- what stands under a key once a floor entered, before what lies below it goes
abbrev pub IsFloorEntered : Store → ℕ → Extent → ℕ → Store → Type 0
IsFloorEntered old n e t mid = (k : Key) → finite.get mid k ≡ cond (same_key k (FloorOf e)) (Some (record { number = n; change = floor_change e t })) (option_map (with_remainder e t) (finite.get old k))

pub floor_placed : (e : Extent) (t n : ℕ) (old mid new : Store) → IsKeyedStore old → IsFloorEntered old n e t mid → IsSwept e t mid new → (k : Key) → finite.get new k ≡ piece_above old n e t k
floor_placed e t n old mid new keyed entered swept k =
    swept k ∙ ap (unless_below e t) (entered k)
    ∙ elim (same_key k (FloorOf e)) as (λ a. same_key k (FloorOf e) ≡ a → unless_below e t (cond a (Some (record { number = n; change = floor_change e t })) (option_map (with_remainder e t) (finite.get old k))) ≡ cond a (Some (record { number = n; change = floor_change e t })) (piece_left e t (finite.get old k))) [
      | true ↦ λ _. floor_stays e t n
      | false ↦ λ apart. left_at e t k (finite.get old k) apart (keyed k)
    ] refl
