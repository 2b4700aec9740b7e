-- A walk over the buffers, to the first of which a record is sought.
use Rattle.std.proofs.Common.{◌≡◌, refl, sym, ◌∙◌, ap, subst, ℕ, ◌≤◌, Bool, true, false, cond, ◌&&◌, nat_le, List, [], ◌∷◌, map, Option, Some, None, ◌⊎◌, ⊎_elim, inl, inr}
use Rattle.std.proofs.lemmas.Bool.{false≢true, and_parts}
use Rattle.std.proofs.lemmas.Option.{same_Some}
use Rattle.std.proofs.lemmas.Cmp.{tied_itself}
use Rattle.std.specs.declared.cmp.Ordering.{Ordering}
use Rattle.std.specs.declared.cmp.Ordering.TheVariants.{Less, Equal, Greater}
use Rattle.std.specs.Ordering.{ordering_then, is_eq, is_lt, is_gt}
use Rattle.std.specs.Option.{unwrap_or}
use Rattle.std.specs.Cmp.{Equal-is}
use Rattle.std.specs.List.{AllByRecursion}
use Rattle.std.specs.List.Sorted.{IsStrictlySortedBy}
use Rattle.std.specs.Map.{keys_of}
use Rattle.std.specs.BTreeMap as tree
use Rattle.std.specs.FinMap as finite
use Rattle.std.proofs.lemmas.Map.Keys.{sorted_head, sorted_tail}
use Rattle.chat_change.specs.Buffer.{Buffer}
use Rattle.chat_change.specs.Record.{Record}
use Rattle.byte_text.specs.Order.{text_cmp}
use Rattle.chat_change.specs.Order.{buffer_cmp}
use Rattle.chat_change.specs.declared.change.Change.{Change}
use Rattle.chat_change.specs.declared.change.Change.TheVariants.{Post}
use Rattle.byte_text.proofs.CallerLemmas.{text_total, text_exact}
use Rattle.chat_change.proofs.CallerLemmas.{buffer_total, buffer_exact}
use Rattle.chat_history.specs.Buffers.{is_of_network}
use Rattle.chat_history.specs.Choice.{keep, Among, IsFirst}
use Rattle.chat_history.specs.History.{History, changes_of}
use Rattle.chat_history.specs.Latest.{latest_moment}
use Rattle.chat_history.specs.Visible.{records_in}
use Rattle.chat_history.proofs.CallerLemmas.{le_self, first_alike, among-filter_map, among_made, mapped, image, most_greatest, got, get_entry, less_upto, made_post}
use Rattle.ordered_maps.specs.MapView.{held_by}
use Rattle.ordered_maps.proofs.CallerLemmas.{get-held_by, entries-from_ordered}
use Rattle.chat_buffers.specs.Kept.{IsKept, IsLatestKept}
use Rattle.chat_buffers.specs.Store.{IsKeyedStore, history_in}
use Rattle.chat_buffers.specs.Sought.{is_sought, is_past, sought_in, sought_past, all_past}
use Rattle.chat_buffers.specs.Ahead.{Entries, IsRising, IsAhead, HasSought, HasNoneSought, AreOf, is_behind}
use Rattle.chat_buffers.specs.declared.sought.Sought.{Sought}
use Rattle.chat_buffers.specs.declared.sought.Sought.TheVariants.{Outdated, OfNetwork}
use Rattle.chat_buffers.specs.declared.held.Held.{Held}
use Rattle.chat_buffers.proofs.SettleLemmas.{Accounts, Tree, seen}
use Rattle.chat_buffers.proofs.KeptLemmas.{keyed_history, none_posted, posted_kept, kept_posted}
use Rattle.chat_buffers.proofs.CursorLemmas.{record_kept, kept_record}

-- ---- whether a buffer is one of a network's

same_text : (a b : List ℕ) → a ≡ b → is_eq (text_cmp a b) ≡ true
same_text a b e = ap (λ x. is_eq (text_cmp a x)) (sym e) ∙ ap is_eq (tied_itself text_total a)

other_text : (a b : List ℕ) → (a ≡ b → ⊥) → is_eq (text_cmp a b) ≡ false
other_text a b n =
    elim (is_eq (text_cmp a b)) as (λ r. is_eq (text_cmp a b) ≡ r → r ≡ false) [
      | true ↦ λ e. absurd (n (text_exact a b ((Equal-is (text_cmp a b)).0 e)))
      | false ↦ λ e. refl
    ] refl

module _ (account network : List ℕ) (b : Buffer) where
  pub of_network : b.account ≡ account → b.network ≡ network → is_of_network account network b ≡ true
  of_network e f = ap (λ r. r && is_eq (text_cmp b.network network)) (same_text b.account account e) ∙ same_text b.network network f

  pub of_another_network : b.account ≡ account → (b.network ≡ network → ⊥) → is_of_network account network b ≡ false
  of_another_network e n = ap (λ r. r && is_eq (text_cmp b.network network)) (same_text b.account account e) ∙ other_text b.network network n

  pub of_another_account : (b.account ≡ account → ⊥) → is_of_network account network b ≡ false
  of_another_account n = ap (λ r. r && is_eq (text_cmp b.network network)) (other_text b.account account n)

-- ---- values that are kept, and lists without members

-- a value that is kept passes
pub kept_passes : {A : Type 0} (p : A → Bool) (o : Option A) (x : A) → keep p o ≡ Some x → (o ≡ Some x) × (p x ≡ true)
kept_passes p None x e = cc e
kept_passes p (Some y) x e =
    elim (p y) as (λ t. p y ≡ t → cond t (Some y) None ≡ Some x → (Some y ≡ Some x) × (p x ≡ true)) [
      | true ↦ λ t f. let is : y ≡ x = same_Some y x f in (f, ap p (sym is) ∙ t)
      | false ↦ λ t f. cc f
    ] refl e

passes_kept : {A : Type 0} (p : A → Bool) (o : Option A) (x : A) → o ≡ Some x → p x ≡ true → keep p o ≡ Some x
passes_kept p o x e t = ap (keep p) e ∙ ap (λ b. cond b (Some x) None) t

-- a list without members has no first
no_first : {A : Type 0} (R : A → A → Ordering) (xs : List A) → ((x : A) → Among x xs → ⊥) → IsFirst R xs None
no_first R xs h = first_alike R [] xs (λ x. (λ m. absurd m, λ m. absurd (h x m))) None refl

-- ---- the buffers that are sought

module _ (s : Sought) (last : Option Buffer) (h : History) where
  sought_post : (b : Buffer) → Among b (all_past s last h) → (r : Record) × Among (Post r) (changes_of h) × (is_sought s r ≡ true) × (r.buffer ≡ b) × (is_past last b ≡ true)
  sought_post b m =
      let made = among-filter_map (sought_past s last) (changes_of h) b m in
      let passes = kept_passes (is_past last) (sought_in s made.0) b made.2 in
      let post = made_post (is_sought s) made.0 b passes.0 in
      (post.0, subst (λ (c : Change). Among c (changes_of h)) post.1 made.1, post.2, post.3, passes.1)

  post_sought : (r : Record) → Among (Post r) (changes_of h) → is_sought s r ≡ true → is_past last r.buffer ≡ true → Among r.buffer (all_past s last h)
  post_sought r m t past =
      among_made (sought_past s last) (changes_of h) (Post r) r.buffer m
      (passes_kept (is_past last) (sought_in s (Post r)) r.buffer (ap (λ b. cond b (Some r.buffer) None) t) past)

-- ---- what is left of a walk

-- entries of the store that come after the last buffer, in their order, and all of which a record is sought
pub record IsLeft (h : History) (s : Sought) (last : Option Buffer) (es : Entries) : Type 0 where
  pub rising : IsRising es
  pub past : (b : Buffer) (d : Held) → Among (b, d) es → is_past last b ≡ true
  pub posted : (b : Buffer) (d : Held) → Among (b, d) es → (r : Record) → IsKept d.messages r → (r.buffer ≡ b) × Among (Post r) (changes_of h)
  pub all : (r : Record) → Among (Post r) (changes_of h) → is_sought s r ≡ true → is_past last r.buffer ≡ true → (d : Held) × Among (r.buffer, d) es × IsKept d.messages r

less_than_all : (k : Buffer) (es : Entries) → AllByRecursion (λ y. buffer_cmp k y ≡ Less) (keys_of es) → (x : Buffer × Held) → Among x es → buffer_cmp k x.0 ≡ Less
less_than_all k [] h x m = absurd m
less_than_all k (e ∷ es) h x m = ⊎_elim (λ s. subst (λ (y : Buffer × Held). buffer_cmp k y.0 ≡ Less) s h.0) (λ a. less_than_all k es h.1 x a) m

rising_from : (es : Entries) → IsStrictlySortedBy buffer_cmp (keys_of es) → IsRising es
rising_from [] s = tt
rising_from (e ∷ es) s = (less_than_all e.0 es (sorted_head buffer_cmp e.0 (keys_of es) s), rising_from es (sorted_tail buffer_cmp e.0 (keys_of es) s))

same_held : (b d : Buffer) (h g : Held) → ◌≡◌ {A = Buffer × Held} (b, h) (d, g) → (b ≡ d) × (h ≡ g)
same_held b d h g e = (ap (λ (x : Buffer × Held). x.0) e, ap (λ (x : Buffer × Held). x.1) e)

pub something : (o : Option Held) → (o ≡ None → ⊥) → (h : Held) × (o ≡ Some h)
something None n = absurd (n refl)
something (Some h) n = (h, refl)

-- the buffers after the last one
module _ (ac : Accounts) (bs : Tree) (keyed : IsKeyedStore (seen ac bs)) (ordered : tree.IsOrdered buffer_cmp bs) where
  abbrev entries_are : finite.entries (held_by {R = buffer_cmp} bs.entries) ≡ bs.entries
  entries_are = entries-from_ordered buffer_total bs.entries ordered

  its_entry : (b : Buffer) (h : Held) → Among (b, h) bs.entries → tree.get buffer_cmp bs b ≡ Some h
  its_entry b h m = sym (get-held_by buffer_total bs.entries b) ∙ get_entry buffer_total buffer_exact (held_by bs.entries) b h (subst (Among (b, h)) (sym entries_are) m)

  entry_of : (b : Buffer) (h : Held) → tree.get buffer_cmp bs b ≡ Some h → Among (b, h) bs.entries
  entry_of b h here = subst (Among (b, h)) entries_are (got buffer_total buffer_exact (held_by bs.entries) b h (get-held_by buffer_total bs.entries b ∙ here))

  pub all_ahead : IsAhead (history_in (seen ac bs)) None bs.entries
  all_ahead = record {
    keyed = keyed_history ac bs keyed;
    rising = rising_from bs.entries ordered;
    past = λ b h m. refl;
    posted = λ b h m r kept. kept_posted ac bs keyed b h (its_entry b h m) r kept;
    all = λ r m past.
        let here = something (tree.get buffer_cmp bs r.buffer) (λ none. none_posted ac bs keyed r none m) in
        (here.0, entry_of r.buffer here.0 here.1, posted_kept ac bs keyed r.buffer here.0 here.1 r refl m);
  }

-- ---- a step past a buffer

less : (o : Ordering) → is_lt o ≡ true → o ≡ Less
less Less e = refl
less Equal e = absurd (false≢true e)
less Greater e = absurd (false≢true e)

pub past_closed : (last : Option Buffer) (x y : Buffer) → is_past last x ≡ true → is_gt (buffer_cmp x y) ≡ false → is_past last y ≡ true
past_closed None x y t l = refl
past_closed (Some a) x y t l = ap is_lt (less_upto buffer_total a x y (less (buffer_cmp a x) t) l)

pub ahead_left : (h : History) (s : Sought) (last : Option Buffer) (es : Entries) → IsAhead h last es → IsLeft h s last es
ahead_left h s last es ahead = record {
  rising = ahead.rising;
  past = ahead.past;
  posted = ahead.posted;
  all = λ r m t past. ahead.all r m past;
}

not_past_itself : (b : Buffer) → is_past (Some b) b ≡ true → ⊥
not_past_itself b t = false≢true (sym (ap is_lt (tied_itself buffer_total b)) ∙ t)

module _ (h : History) (last : Option Buffer) (b : Buffer) (d : Held) (rest : Entries) (ahead : IsAhead h last ((b, d) ∷ rest)) where
  pub ahead_step : IsAhead h (Some b) rest
  ahead_step = record {
    keyed = ahead.keyed;
    rising = ahead.rising.1;
    past = λ x g m. ap is_lt (ahead.rising.0 (x, g) m);
    posted = λ x g m. ahead.posted x g (inr m);
    all = λ r m t.
        let before = past_closed last b r.buffer (ahead.past b d (inl refl)) (ap is_gt (less (buffer_cmp b r.buffer) t)) in
        let at = ahead.all r m before in
        ⊎_elim
        (λ e. absurd (not_past_itself b (subst (λ x. is_past (Some b) x ≡ true) (sym (same_held b r.buffer d at.0 e).0) t)))
        (λ a. (at.0, a, at.2))
        at.1;
  }

  -- the posts in that buffer are its kept records
  pub here_kept : (r : Record) → r.buffer ≡ b → Among (Post r) (changes_of h) → IsKept d.messages r
  here_kept r is m =
      let at = ahead.all r m (subst (λ x. is_past last x ≡ true) (sym is) (ahead.past b d (inl refl))) in
      ⊎_elim
      (λ e. subst (λ (g : Held). IsKept g.messages r) (sym (same_held b r.buffer d at.0 e).1) at.2)
      (λ a. absurd (not_past_itself b (subst (λ x. is_past (Some b) x ≡ true) is (ap is_lt (ahead.rising.0 (r.buffer, at.0) a)))))
      at.1

  abbrev there : (r : Record) → Among r (records_in h b) → IsKept d.messages r
  there = record_kept h ahead.keyed b d.messages (ahead.posted b d (inl refl)) here_kept

  abbrev here : (r : Record) → IsKept d.messages r → Among r (records_in h b)
  here = kept_record h ahead.keyed b d.messages (ahead.posted b d (inl refl)) here_kept

  abbrev moment : Record → ℕ
  moment r = r.at

  pub latest_here : (t : ℕ) → IsLatestKept d.messages (Some t) → t ≡ latest_moment h b
  latest_here t latest =
      let records = records_in h b in
      let member = subst (λ u. Among u (map moment records)) latest.2 (image moment records latest.0 (here latest.0 latest.1)) in
      ap (λ o. unwrap_or o 0) (sym (most_greatest (map moment records) t member (λ u m.
      let q = mapped moment records u m in
      subst (λ (x : ℕ). x ≤ t) q.2 (latest.3 q.0 (there q.0 q.1)))))

-- ---- a network's buffers stand together

behind : (x y z : Ordering) → ordering_then x (ordering_then y z) ≡ Less → is_gt (ordering_then x y) ≡ false
behind Less y z e = refl
behind Equal Less z e = refl
behind Equal Equal z e = refl
behind Equal Greater z e = cc e
behind Greater y z e = cc e

its_names : (a n : List ℕ) (b : Buffer) → is_of_network a n b ≡ true → (b.account ≡ a) × (b.network ≡ n)
its_names a n b e =
    let both = and_parts (is_eq (text_cmp b.account a)) (is_eq (text_cmp b.network n)) e in
    (text_exact b.account a ((Equal-is (text_cmp b.account a)).0 both.0), text_exact b.network n ((Equal-is (text_cmp b.network n)).0 both.1))

-- no record after a buffer that lies behind is sought
pub not_behind : (s : Sought) (b : Buffer) (r : Record) → is_sought s r ≡ true → (b ≡ r.buffer) ⊎ (buffer_cmp b r.buffer ≡ Less) → is_behind s b ≡ false
not_behind (Outdated t) b r e at = refl
not_behind (OfNetwork a n since) b r e at =
    let names = its_names a.now n.now r.buffer (and_parts (nat_le since r.at) (is_of_network a.now n.now r.buffer) e).1 in
    ap (λ x. is_gt (ordering_then (text_cmp b.account x) (text_cmp b.network n.now))) (sym names.0)
    ∙ ap (λ x. is_gt (ordering_then (text_cmp b.account r.buffer.account) (text_cmp b.network x))) (sym names.1)
    ∙ ⊎_elim
    (λ same. ap (λ (d : Buffer). is_gt (ordering_then (text_cmp d.account r.buffer.account) (text_cmp d.network r.buffer.network))) same ∙ itself r.buffer)
    (λ less. behind (text_cmp b.account r.buffer.account) (text_cmp b.network r.buffer.network) _ less) at
  where
    itself : (d : Buffer) → is_gt (ordering_then (text_cmp d.account d.account) (text_cmp d.network d.network)) ≡ false
    itself d = ap (λ o. is_gt (ordering_then o (text_cmp d.network d.network))) (tied_itself text_total d.account) ∙ ap is_gt (tied_itself text_total d.network)

-- ---- a step of the walk

module _ (h : History) (s : Sought) (last : Option Buffer) where
  pub nothing_left : IsLeft h s last [] → IsFirst buffer_cmp (all_past s last h) None
  nothing_left left = no_first buffer_cmp (all_past s last h) (λ b m.
      let post = sought_post s last h b m in
      (left.all post.0 post.1 post.2 (ap (is_past last) post.3 ∙ post.4)).1)

  module _ (b : Buffer) (d : Held) (rest : Entries) (left : IsLeft h s last ((b, d) ∷ rest)) where
    -- where it stands at, or after, the first
    stands : (r : Record) (g : Held) → Among (r.buffer, g) ((b, d) ∷ rest) → (b ≡ r.buffer) ⊎ (buffer_cmp b r.buffer ≡ Less)
    stands r g m = ⊎_elim (λ e. inl (same_held b r.buffer d g e).0) (λ a. inr (left.rising.0 (r.buffer, g) a)) m

    pub all_behind : is_behind s b ≡ true → IsFirst buffer_cmp (all_past s last h) None
    all_behind e = no_first buffer_cmp (all_past s last h) (λ x m.
        let post = sought_post s last h x m in
        let at = left.all post.0 post.1 post.2 (ap (is_past last) post.3 ∙ post.4) in
        false≢true (sym (not_behind s b post.0 post.2 (stands post.0 at.0 at.1)) ∙ e))

    pub are_of : AreOf b d.messages
    are_of r kept = (left.posted b d (inl refl) r kept).0

    pub passed_over : HasNoneSought s d.messages → IsLeft h s last rest
    passed_over none = record {
      rising = left.rising.1;
      past = λ x g m. left.past x g (inr m);
      posted = λ x g m. left.posted x g (inr m);
      all = λ r m t past.
          let at = left.all r m t past in
          ⊎_elim
          (λ e. absurd (false≢true (sym (none r (subst (λ (g : Held). IsKept g.messages r) (sym (same_held b r.buffer d at.0 e).1) at.2)) ∙ t)))
          (λ a. (at.0, a, at.2))
          at.1;
    }

    pub found_first : HasSought s d.messages → IsFirst buffer_cmp (all_past s last h) (Some b)
    found_first some =
        let posted = left.posted b d (inl refl) some.0 some.1 in (
          subst (λ x. Among x (all_past s last h)) posted.0
              (post_sought s last h some.0 posted.1 some.2 (ap (is_past last) posted.0 ∙ left.past b d (inl refl))),
          λ x m.
              let post = sought_post s last h x m in
              let at = left.all post.0 post.1 post.2 (ap (is_past last) post.3 ∙ post.4) in
              subst (λ y. is_gt (buffer_cmp b y) ≡ false) post.3
              (⊎_elim
              (λ e. subst (λ y. is_gt (buffer_cmp b y) ≡ false) e (le_self buffer_total b))
              (λ less. ap is_gt less)
              (stands post.0 at.0 at.1)),
        )
