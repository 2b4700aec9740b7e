-- The floor of an account, what it leaves in the account's buffers, and the list of these.
use Rattle.std.proofs.Common.{◌≡◌, refl, sym, ◌∙◌, ap, subst, ℕ, max, ◌≤◌, ◌<◌, List, [], ◌∷◌, ◌++◌, map, take, reverse, Bool, true, false, cond, not, ◌&&◌, Option, Some, None, ◌⊎◌, ⊎_elim, inl, inr, arith}
use Rattle.std.specs.Prelude.{Contains}
use Rattle.std.proofs.lemmas.Bool.{false≢true}
use Rattle.std.proofs.lemmas.Option.{same_Some}
use Rattle.std.proofs.lemmas.List.{map-append}
use Rattle.std.proofs.lemmas.List.Elements.{Contains-append_left, Contains-append_right}
use Rattle.std.proofs.lemmas.List.Kept.{IsStrictlySortedBy-filter}
use Rattle.std.proofs.lemmas.Cmp.{tied_itself}
use Rattle.std.specs.declared.cmp.Ordering.{Ordering}
use Rattle.std.specs.declared.cmp.Ordering.TheVariants.{Less, Equal, Greater}
use Rattle.std.specs.Ordering.{ordering_then, ordering_reverse, on, flip_args, is_eq, is_gt, is_le}
use Rattle.std.specs.Option.{option_map}
use Rattle.std.specs.List.{prefix_len, AllByRecursion}
use Rattle.std.specs.List.Sorted.{IsStrictlySortedBy}
use Rattle.std.specs.Map.{keys_of}
use Rattle.std.specs.BTreeMap as tree
use Rattle.std.specs.BTreeMap.Range.{entries_between}
use Rattle.std.specs.declared.ops.Bound.TheVariants.{Included, Excluded, Unbounded}
use Rattle.std.specs.FinMap as finite
use Rattle.chat_change.specs.Buffer.{Buffer}
use Rattle.chat_change.specs.Extent.{Extent, OfAccount, OfBuffer}
use Rattle.byte_text.specs.Order.{text_cmp}
use Rattle.chat_change.specs.Order.{buffer_cmp}
use Rattle.chat_change.specs.declared.change.Change.TheVariants.{Floor, Mark, AccountFloor}
use Rattle.chat_change.specs.Key.{Key, FloorOf, MarkerOf, MessageOf, key_extent, same_key}
use Rattle.byte_text.proofs.CallerLemmas.{text_total, text_exact}
use Rattle.chat_change.proofs.CallerLemmas.{buffer_total, buffer_exact, same_key_itself}
use Rattle.chat_history.specs.Choice.{Among}
use Rattle.chat_history.specs.Retention.{same_account, is_covered}
use Rattle.chat_history.proofs.CallerLemmas.{among, contained, image, among-filter, among_passing, among-reverse, reverse_among, sorted_reverse, got}
use Rattle.ordered_maps.specs.MapView.{held_by, IsWith}
use Rattle.ordered_maps.proofs.CallerLemmas.{get-held_by, entries-from_ordered}
use Rattle.chat_buffers.specs.Stamps.{floor_moment, IsAbove}
use Rattle.chat_buffers.specs.Store.{Numbered}
use Rattle.chat_buffers.specs.Entering.{with_remainder, IsEntered, TakesFloor, HasNoFloorTo, AreBuffersOf}
use Rattle.chat_buffers.specs.Held.{held_floor, numbered, held_piece, floor_piece, account_piece, account_key}
use Rattle.chat_buffers.specs.declared.held.Held.{Held}
use Rattle.chat_buffers.specs.declared.held.Stamp.{Stamp}
use Rattle.chat_buffers.proofs.HeldLemmas.{same_account_is, one_buffer}
use Rattle.chat_buffers.proofs.LeadingLemmas.{IsLeading, leading_sorted, leading_taken}
use Rattle.chat_buffers.proofs.SettleLemmas.{no_account, stays, gone_stays, other_extent, same_max, max_reached, message_left, stamp_left, floor_elsewhere, Accounts, Tree, seen, floor_around, tree_piece, get-tree, has_here, taken_store}
use Rattle.chat_buffers.specs.Ahead.{Entries}
use Rattle.chat_buffers.proofs.SoughtLemmas.{something}

pub same_account_itself : (a : List ℕ) → same_account a a ≡ true
same_account_itself a = ap is_eq (tied_itself text_total a)

one_account : (a d : List ℕ) → OfAccount a ≡ OfAccount d → a ≡ d
one_account a d e = cc e

account_key_is : (k : Key) (a : List ℕ) → key_extent k ≡ OfAccount a → k ≡ account_key a
account_key_is (FloorOf e) a is = ap FloorOf is
account_key_is (MarkerOf b) a is = no_account a b (sym is)
account_key_is (MessageOf b m) a is = no_account a b (sym is)

-- ---- the floor of an account rises

-- what a buffer of the account has at the new floor
around_left : (f t : ℕ) (a : List ℕ) (b : Buffer) (k : Key) (o : Option Held) → key_extent k ≡ OfBuffer b → is_covered (OfAccount a) b ≡ true → f ≤ t → held_piece t o k ≡ option_map (with_remainder (OfAccount a) t) (held_piece f o k)
around_left f t a b k None is covered l = refl
around_left f t a b (FloorOf (OfAccount d)) (Some h) is covered l = refl
around_left f t a b (FloorOf (OfBuffer d)) (Some h) is covered l = sym (stamp_left (floor_piece (OfBuffer d)) (OfAccount a) t (λ s. refl) h.floor)
around_left f t a b (MarkerOf d) (Some h) is covered l = sym (stamp_left (λ (s : Stamp). record { number = s.number; change = Mark d s.at }) (OfAccount a) t (λ s. refl) h.marker)
around_left f t a b (MessageOf d m) (Some h) is covered l =
    message_left (OfAccount a) d m (max f (held_floor h)) t (max t (held_floor h)) (finite.get h.messages m)
    (ap (is_covered (OfAccount a)) (one_buffer d b is) ∙ covered) (sym (same_max t f (held_floor h) l))

module _ (ac new : Accounts) (bs : Tree) (a : List ℕ) (t n : ℕ) (up : IsWith text_cmp ac.entries a (record { at = t; number = n }) new.entries) (low : floor_moment (tree.get text_cmp ac a) ≤ t) where
  abbrev set : Numbered
  set = record { number = n; change = AccountFloor a t }

  abbrev left : Option Numbered → Option Numbered
  left p = option_map (with_remainder (OfAccount a) t) p

  of_account : (d : List ℕ) (k : Key) → key_extent k ≡ OfAccount d → account_piece d (tree.get text_cmp new d) ≡ cond (same_key k (account_key a)) (Some set) (left (account_piece d (tree.get text_cmp ac d)))
  of_account d k is =
      ap (account_piece d) (up d)
      ∙ elim (same_account a d) as (λ x. same_account a d ≡ x → account_piece d (cond x (Some (record { at = t; number = n })) (tree.get text_cmp ac d)) ≡ cond (same_key k (account_key a)) (Some set) (left (account_piece d (tree.get text_cmp ac d)))) [
        | true ↦ λ e.
            let same = same_account_is a d e in
            let hit = ap (λ l. same_key l (account_key a)) (account_key_is k d is ∙ ap account_key (sym same)) ∙ same_key_itself (account_key a) in
            ap (λ y. Some (record { number = n; change = AccountFloor y t })) (sym same)
            ∙ ap (λ x. cond x (Some set) (left (account_piece d (tree.get text_cmp ac d)))) (sym hit)
        | false ↦ λ e.
            sym (stamp_left (floor_piece (OfAccount d)) (OfAccount a) t (λ s. refl) (tree.get text_cmp ac d))
            ∙ stays k (account_key a) set (left (account_piece d (tree.get text_cmp ac d)))
            (other_extent k (account_key a) (λ f. false≢true (sym e ∙ ap (same_account a) (one_account d a (sym is ∙ f)) ∙ same_account_itself a)))
      ] refl

  of_buffer : (b : Buffer) (k : Key) (o : Option Held) → key_extent k ≡ OfBuffer b → held_piece (floor_around new b) o k ≡ cond (same_key k (account_key a)) (Some set) (left (held_piece (floor_around ac b) o k))
  of_buffer b k o is =
      ap (λ s. held_piece (floor_moment s) o k) (up b.account)
      ∙ elim (same_account a b.account) as (λ x. same_account a b.account ≡ x → held_piece (floor_moment (cond x (Some (record { at = t; number = n })) (tree.get text_cmp ac b.account))) o k ≡ left (held_piece (floor_around ac b) o k)) [
        | true ↦ λ e. around_left (floor_around ac b) t a b k o is e (subst (λ d. floor_moment (tree.get text_cmp ac d) ≤ t) (same_account_is a b.account e) low)
        | false ↦ λ e. sym (floor_elsewhere (OfAccount a) t (floor_around ac b) b k o is e)
      ] refl
      ∙ stays k (account_key a) set (left (held_piece (floor_around ac b) o k)) (other_extent k (account_key a) (λ e. no_account a b (sym e ∙ is)))

  set_at : (e : Extent) (k : Key) → key_extent k ≡ e → tree_piece new bs e k ≡ cond (same_key k (account_key a)) (Some set) (left (tree_piece ac bs e k))
  set_at (OfAccount d) k is = of_account d k is
  set_at (OfBuffer b) k is = of_buffer b k (tree.get buffer_cmp bs b) is

  pub account_entered : IsEntered (seen ac bs) n (AccountFloor a t) (seen new bs)
  account_entered k = get-tree new bs k ∙ set_at (key_extent k) k refl ∙ ap (λ p. cond (same_key k (account_key a)) (Some set) (left p)) (sym (get-tree ac bs k))

-- ---- the own floor of a buffer leaves

-- redactions are read as before, where the account's floor has reached the own one
floor_taken : (f u n : ℕ) (h : Held) (b : Buffer) → h.floor ≡ Some (record { at = u; number = n }) → u ≤ f → (k : Key) → key_extent k ≡ OfBuffer b → held_piece f (Some (record h { floor = None })) k ≡ cond (same_key k (FloorOf (OfBuffer b))) None (held_piece f (Some h) k)
floor_taken f u n h b was l (FloorOf (OfAccount a)) is = no_account a b is
floor_taken f u n h b was l (FloorOf (OfBuffer d)) is =
    ap (λ x. cond x None (held_piece f (Some h) (FloorOf (OfBuffer d)))) (sym (ap (λ x. same_key (FloorOf x) (FloorOf (OfBuffer b))) is ∙ same_key_itself (FloorOf (OfBuffer b))))
floor_taken f u n h b was l (MarkerOf d) is = gone_stays (MarkerOf d) (FloorOf (OfBuffer b)) _ (λ is. cc is)
floor_taken f u n h b was l (MessageOf d m) is =
    let own : held_floor h ≡ u = ap floor_moment was in
    let low : 0 ≤ f = omega arith in
    let same : max f 0 ≡ max f (held_floor h) = max_reached f 0 low ∙ sym (max_reached f u l) ∙ ap (max f) (sym own) in
    ap (λ g. option_map (numbered d m g) (finite.get h.messages m)) same ∙ gone_stays (MessageOf d m) (FloorOf (OfBuffer b)) _ (λ is. cc is)

-- what is known of the floor that is taken out
pub takes_floor : (ac : Accounts) (bs : Tree) (b : Buffer) (h : Held) → tree.get buffer_cmp bs b ≡ Some h → (u n f : ℕ) → h.floor ≡ Some (record { at = u; number = n }) → u ≤ f → f ≤ floor_around ac b
    → (new : Tree) (o : Option Stamp) → o ≡ None → IsWith buffer_cmp bs.entries b (record h { floor = o }) new.entries → TakesFloor (seen ac bs) b f n (seen ac new)
takes_floor ac bs b h has u n f was low reached new o none up = record {
  at = u;
  reached = low;
  was = has_here ac bs (seen ac bs) b (Some h) refl has (FloorOf (OfBuffer b)) refl ∙ ap (option_map (floor_piece (OfBuffer b))) was;
  left = taken_store ac bs new b h (record h { floor = None }) (FloorOf (OfBuffer b)) refl has (subst (λ x. IsWith buffer_cmp bs.entries b (record h { floor = x }) new.entries) none up)
      (floor_taken (floor_around ac b) u n h b was (let l : u ≤ floor_around ac b = omega arith in l));
}

one_moment : (b : Buffer) (t u : ℕ) → Floor b t ≡ Floor b u → t ≡ u
one_moment b t u e = cc e

above_said : (b : Buffer) (f : ℕ) (o : Option Stamp) → IsAbove f o → (n u : ℕ) → option_map (floor_piece (OfBuffer b)) o ≡ Some (record { number = n; change = Floor b u }) → f < u
above_said b f None above n u e = cc e
above_said b f (Some s) above n u e =
    let is = one_moment b s.at u (ap (λ (p : Numbered). p.change) (same_Some (floor_piece (OfBuffer b) s) (record { number = n; change = Floor b u }) e)) in
    subst (λ x. f < x) is (above s refl)

pub floor_above : (ac : Accounts) (bs : Tree) (b : Buffer) (h : Held) → tree.get buffer_cmp bs b ≡ Some h → (f : ℕ) → IsAbove f h.floor → HasNoFloorTo b f (seen ac bs)
floor_above ac bs b h has f above n u e = above_said b f h.floor above n u (sym (has_here ac bs (seen ac bs) b (Some h) refl has (FloorOf (OfBuffer b)) refl) ∙ e)

pub floor_absent : (ac : Accounts) (bs : Tree) (b : Buffer) → tree.get buffer_cmp bs b ≡ None → (f : ℕ) → HasNoFloorTo b f (seen ac bs)
floor_absent ac bs b none f n u e = cc (sym (has_here ac bs (seen ac bs) b None refl none (FloorOf (OfBuffer b)) refl) ∙ e)

-- ---- the buffers of an account stand side by side

-- whether an entry is of a buffer of an account
abbrev pub is_of : List ℕ → Buffer × Held → Bool
is_of a e = same_account e.0.account a

its_account : (a : List ℕ) (e : Buffer × Held) → is_of a e ≡ true → e.0.account ≡ a
its_account a e t = same_account_is e.0.account a t

of_its_account : (a : List ℕ) (e : Buffer × Held) → e.0.account ≡ a → is_of a e ≡ true
of_its_account a e is = ap (λ d. same_account d a) is ∙ same_account_itself a

-- the account is what is compared first
account_first : (x y : Ordering) → is_gt (ordering_then x y) ≡ false → is_gt x ≡ false
account_first Less y l = refl
account_first Equal y l = refl
account_first Greater y l = l

same_from_both : (a d : List ℕ) → is_gt (text_cmp a d) ≡ false → is_gt (text_cmp d a) ≡ false → d ≡ a
same_from_both a d l m =
    elim (text_cmp d a) as (λ o. text_cmp d a ≡ o → d ≡ a) [
      | Less ↦ λ e. absurd (false≢true (sym l ∙ ap is_gt (text_total.antisymm a d ∙ ap ordering_reverse e)))
      | Equal ↦ λ e. text_exact d a e
      | Greater ↦ λ e. absurd (false≢true (sym m ∙ ap is_gt e))
    ] refl

-- what stands between two buffers of one account is of that account
between : (x y z : Buffer) → is_gt (buffer_cmp x y) ≡ false → is_gt (buffer_cmp y z) ≡ false → x.account ≡ z.account → y.account ≡ z.account
between x y z l m same =
    same_from_both x.account y.account (account_first (text_cmp x.account y.account) _ l)
    (ap (λ d. is_gt (text_cmp y.account d)) same ∙ account_first (text_cmp y.account z.account) _ m) ∙ same

abbrev by_buffer : Buffer × Held → Buffer × Held → Ordering
by_buffer = on (λ (e : Buffer × Held). e.0) buffer_cmp

less_entries : (b : Buffer) (es : Entries) → AllByRecursion (λ d. buffer_cmp b d ≡ Less) (keys_of es) → AllByRecursion (λ (e : Buffer × Held). buffer_cmp b e.0 ≡ Less) es
less_entries b [] h = tt
less_entries b (e ∷ es) h = (h.0, less_entries b es h.1)

entries_sorted : (es : Entries) → IsStrictlySortedBy buffer_cmp (keys_of es) → IsStrictlySortedBy by_buffer es
unfolding IsStrictlySortedBy
entries_sorted [] s = tt
entries_sorted (e ∷ es) s = (less_entries e.0 es s.0, entries_sorted es s.1)

-- an entry from the middle on is not below it
up_to : (o : Ordering) → (is_le o && true) ≡ true → is_gt o ≡ false
up_to Less t = refl
up_to Equal t = refl
up_to Greater t = absurd (false≢true t)

-- and one below it is not above
back_above : (o : Ordering) → not (is_le o) ≡ true → is_gt (ordering_reverse o) ≡ false
back_above Less t = absurd (false≢true t)
back_above Equal t = absurd (false≢true t)
back_above Greater t = refl

-- the entries below a buffer of the account, the nearest first, and those from it on
module _ (ac : Accounts) (bs : Tree) (ordered : tree.IsOrdered buffer_cmp bs) (a : List ℕ) (middle : Buffer) (its : middle.account ≡ a) where
  abbrev lower : Entries
  lower = entries_between buffer_cmp Unbounded (Excluded middle) bs.entries

  abbrev upper : Entries
  upper = entries_between buffer_cmp (Included middle) Unbounded bs.entries

  lower_leads : IsLeading (is_of a) (reverse lower)
  lower_leads =
      leading_sorted (flip_args by_buffer) (is_of a) (reverse lower)
      (sorted_reverse by_buffer lower (IsStrictlySortedBy-filter by_buffer _ bs.entries (entries_sorted bs.entries ordered)))
      (λ e f m less t.
      let below = (among-filter (λ (x : Buffer × Held). true && not (is_le (buffer_cmp middle x.0))) bs.entries e (among-reverse lower e m)).1 in
      of_its_account a e
      (between f.0 e.0 middle (ap is_gt less)
      (ap is_gt (buffer_total.antisymm e.0 middle) ∙ back_above (buffer_cmp middle e.0) below)
      (its_account a f t ∙ sym its) ∙ its))

  upper_leads : IsLeading (is_of a) upper
  upper_leads =
      leading_sorted by_buffer (is_of a) upper
      (IsStrictlySortedBy-filter by_buffer _ bs.entries (entries_sorted bs.entries ordered))
      (λ e f m less t.
      let from = (among-filter (λ (x : Buffer × Held). is_le (buffer_cmp middle x.0) && true) bs.entries e m).1 in
      of_its_account a e
      (between middle e.0 f.0 (up_to (buffer_cmp middle e.0) from) (ap is_gt less) (its ∙ sym (its_account a f t)) ∙ its_account a f t))

  abbrev taken_below : Entries
  taken_below = take (prefix_len (is_of a) (reverse lower)) (reverse lower)

  abbrev taken_from : Entries
  taken_from = take (prefix_len (is_of a) upper) upper

  below_or_from : (e : Buffer × Held) → Among e bs.entries → Among e lower ⊎ Among e upper
  below_or_from e m =
      elim (is_le (buffer_cmp middle e.0)) as (λ b. is_le (buffer_cmp middle e.0) ≡ b → Among e lower ⊎ Among e upper) [
        | true ↦ λ t. inr (among_passing (λ (x : Buffer × Held). is_le (buffer_cmp middle x.0) && true) bs.entries e m (ap (λ b. b && true) t))
        | false ↦ λ f. inl (among_passing (λ (x : Buffer × Held). true && not (is_le (buffer_cmp middle x.0))) bs.entries e m (ap not f))
      ] refl

  entry_taken : (e : Buffer × Held) → Among e bs.entries → is_of a e ≡ true → Contains (taken_below ++ taken_from) e
  entry_taken e m t =
      ⊎_elim
      (λ l. Contains-append_left taken_below taken_from e (contained taken_below e (leading_taken (is_of a) (reverse lower) lower_leads e (reverse_among lower e l) t)))
      (λ u. Contains-append_right taken_below taken_from e (contained taken_from e (leading_taken (is_of a) upper upper_leads e u t)))
      (below_or_from e m)

  -- a buffer in which a piece stands is held
  held_here : (k : Key) (p : Numbered) (b : Buffer) → finite.get (seen ac bs) k ≡ Some p → key_extent k ≡ OfBuffer b → (h : Held) × Among (b, h) bs.entries
  held_here k p b e is =
      let here = something (tree.get buffer_cmp bs b) (λ none. cc (sym (has_here ac bs (seen ac bs) b None refl none k is) ∙ e)) in
      (here.0, subst (Among (b, here.0)) (entries-from_ordered buffer_total bs.entries ordered) (got buffer_total buffer_exact (held_by bs.entries) b here.0 (get-held_by buffer_total bs.entries b ∙ here.1)))

  pub all_taken : (found : List Buffer) → found ≡ map (λ (e : Buffer × Held). e.0) taken_below ++ map (λ (e : Buffer × Held). e.0) taken_from → AreBuffersOf (seen ac bs) a found
  all_taken found taken k p b e is at =
      let here = held_here k p b e is in
      let all : Entries = taken_below ++ taken_from in
      subst (λ bs. Contains bs b) (map-append (λ (x : Buffer × Held). x.0) taken_below taken_from ∙ sym taken)
      (contained (map (λ (x : Buffer × Held). x.0) all) b
      (image (λ (x : Buffer × Held). x.0) all (b, here.0)
      (among all (b, here.0) (entry_taken (b, here.0) here.1 (of_its_account a (b, here.0) at)))))
