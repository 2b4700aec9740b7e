-- The walk over the buffers of an account on a network, and the latest moment of each.
use Rattle.std.proofs.Common.{◌≡◌, ℕ, not, true, ◌&&◌, nat_le, Option, Some, None, List, ◌∷◌, map, refl, sym, ◌∙◌, ap, subst, Bor}
use Rattle.std.proofs.lemmas.Bool.{and_parts}
use Rattle.std.specs.Ordering.{is_lt, is_eq}
use Rattle.std.specs.Cmp.{Equal-is}
use Rattle.std.specs.List.{filter, filter_map}
use Rattle.std.specs.Option.{IfSome, option_map}
use Rattle.chat_change.specs.Buffer.{Buffer}
use Rattle.chat_change.specs.Record.{Record}
use Rattle.byte_text.specs.Order.{text_cmp}
use Rattle.chat_change.specs.Order.{buffer_cmp}
use Rattle.byte_text.proofs.CallerLemmas.{text_exact}
use Rattle.chat_change.proofs.CallerLemmas.{buffer_total}
use Rattle.chat_history.specs.Choice.{Among, IsFirst}
use Rattle.chat_history.specs.History.{History, IsKeyed, changes_of}
use Rattle.chat_history.specs.Latest.{latest_moment, with_moment}
use Rattle.chat_history.specs.Buffers.{is_of_network, buffer_where}
use Rattle.chat_history.proofs.CallerLemmas.{among-filter_map, in_order_member, made_post}
use Rattle.chat_history.proofs.CallerLemmas.{from_member, passing_from, buffers_sorted}
use Rattle.chat_buffers.specs.declared.sought.Sought.{Sought}
use Rattle.chat_buffers.specs.declared.sought.Sought.TheVariants.{OfNetwork}
use Rattle.chat_buffers.specs.Sought.{is_past, all_past}
use Rattle.chat_buffers.specs.BufferWalk.{Walk, walk_after}
use Rattle.chat_buffers.specs.Store.{Store, history_in}
use Rattle.chat_buffers.proofs.CallerLemmas.{past_closed, filter_all}
use Rattle.chat_state.specs.LatestSince.{latest_since_in}
use Rattle.chat_state.specs.Latest.{buffers_since, neighbours, latest_from, next_of, IsAtBuffer}
use Rattle.chat_state.proofs.BuffersLemmas.{past_buffer, walk_end, is_one}
use Rattle.chat_state.proofs.SinceLemmas.{moments_since}

-- ---- the buffers of a network

of_network : (account network : List ℕ) (b : Buffer) → is_of_network account network b ≡ true → (b.account ≡ account) × (b.network ≡ network)
of_network account network b e =
    let h = and_parts (is_eq (text_cmp b.account account)) (is_eq (text_cmp b.network network)) e in
    (text_exact b.account account ((Equal-is (text_cmp b.account account)).0 h.0), text_exact b.network network ((Equal-is (text_cmp b.network network)).0 h.1))

module _ (h : History) (account network : List ℕ) (since : ℕ) where
  abbrev found : List Buffer
  found = buffers_since h account network since

  -- a buffer that was found is one of the network
  found_names : (b : Buffer) → Among b found → (b.account ≡ account) × (b.network ≡ network)
  found_names b m =
      let p = λ (r : Record). nat_le since r.at && is_of_network account network r.buffer in
      let s = among-filter_map (buffer_where p) (changes_of h) b (in_order_member (filter_map (buffer_where p) (changes_of h)) b m) in
      let r = made_post p s.0 b s.2 in
      of_network account network b (ap (is_of_network account network) (sym r.3) ∙ (and_parts (nat_le since r.0.at) (is_of_network account network r.0.buffer) r.2).1)

  same_network : (b : Buffer) → Among b found → neighbours h since b ≡ found
  same_network b m = let n = found_names b m in λ i. buffers_since h (n.0 i) (n.1 i) since

abbrev Next : Type 0
Next = Option (Bor Buffer × ℕ)

abbrev IsNext : Sought → History → Option Buffer → Next → Type 0
IsNext sought h last u = IsFirst buffer_cmp (all_past sought last h) (option_map (λ found. found.0.now) u)

module _ (h : History) (account network : Bor (List ℕ)) (since : ℕ) (last : Option Buffer) where
  abbrev sought : Sought
  sought = OfNetwork account network since

  abbrev buffers : List Buffer
  buffers = buffers_since h account.now network.now since

  at_buffer : (b : Bor Buffer × ℕ) → IsNext sought h last (Some b) → b.1 ≡ latest_moment h b.0.now → IsAtBuffer h since (Some b.0.now) (Some b)
  at_buffer b f t =
      let m = is_one sought h last b.0.now f in
      (subst (Among b.0.now) (sym (same_network h account.now network.now since b.0.now m)) m, t, refl)

  -- what is left from the next buffer on is what comes after the last one
  left_past : (u : Next) → IsNext sought h last u → latest_from h since (next_of u) ≡ map (with_moment h) (filter (is_past last) buffers)
  left_past None f = ap (map (with_moment h)) (sym (walk_end sought h last f))
  left_past (Some (b, t)) f =
      ap (λ bs. map (with_moment h) (filter (λ d. not (is_lt (buffer_cmp d b.now))) bs)) (same_network h account.now network.now since b.now (is_one sought h last b.now f))
      ∙ ap (map (with_moment h)) (sym (passing_from buffer_total buffers (all_past sought last h) (is_past last) (past_closed last) (past_buffer sought h last) b.now f))

-- ---- a step of the walk

module _ (old new : Walk) (account network : Bor (List ℕ)) (since : ℕ) where
  abbrev IsNextOf : Next → Type 0
  IsNextOf u = IsNext (OfNetwork account network since) (history_in old.store) old.last u

  abbrev HasWalked : Next → Type 0
  HasWalked u = IfSome u (λ found. new ≡ walk_after old.store (Some found.0.now))

  abbrev before : History
  before = history_in old.store

  pub at_next : (u : Next) → IsNextOf u → IfSome u (λ found. found.1 ≡ latest_moment before found.0.now) → HasWalked u → IsAtBuffer (history_in new.store) since new.last u
  at_next None f t w = tt
  at_next (Some b) f t w = subst (λ (x : Walk). IsAtBuffer (history_in x.store) since x.last (Some b)) (sym w) (at_buffer before account network since old.last b f t)

  from_next : (u : Next) → IsNextOf u → HasWalked u → latest_from (history_in new.store) since (next_of u) ≡ map (with_moment before) (filter (is_past old.last) (buffers_since before account.now network.now since))
  from_next None f w = left_past before account network since old.last None f
  from_next (Some b) f w = ap (λ (x : Walk). latest_from (history_in x.store) since (Some b.0)) w ∙ left_past before account network since old.last (Some b) f

  -- a step gives the next buffer with its moment, and leaves those after it
  pub latest_step : (b : Bor Buffer) (t : ℕ) → IsAtBuffer before since old.last (Some (b, t)) → account.now ≡ b.now.account → network.now ≡ b.now.network → (u : Next) → IsNextOf u → HasWalked u → latest_from before since (Some b) ≡ (b.now, t) ∷ latest_from (history_in new.store) since (next_of u)
  latest_step b t sound e n u f w =
      let bs = neighbours before since b.now in
      let p = λ (r : Record). nat_le since r.at && is_of_network b.now.account b.now.network r.buffer in
      ap (map (with_moment before)) (from_member buffer_total bs b.now (buffers_sorted (filter_map (buffer_where p) (changes_of before))) sound.0)
      ∙ (λ i. (b.now, sym sound.1 i) ∷ map (with_moment before) (filter (is_past (sym sound.2 i)) (buffers_since before (sym e i) (sym n i) since)))
      ∙ ap (λ rest. (b.now, t) ∷ rest) (sym (from_next u f w))

-- the first step leaves all of them
pub latest_all : (store : Store) → IsKeyed (history_in store) → (old new : Walk) → old ≡ walk_after store None → (account network : Bor (List ℕ)) (since : ℕ) (u : Next) → IsNextOf old new account network since u → HasWalked old new account network since u → latest_from (history_in new.store) since (next_of u) ≡ latest_since_in (history_in store) account.now network.now since
latest_all store keyed old new is account network since u f w =
    from_next old new account network since u f w
    ∙ (λ i. map (with_moment (history_in (is i).store)) (filter (is_past (is i).last) (buffers_since (history_in (is i).store) account.now network.now since)))
    ∙ ap (map (with_moment (history_in store))) (filter_all (buffers_since (history_in store) account.now network.now since))
    ∙ moments_since (history_in store) keyed account.now network.now since
