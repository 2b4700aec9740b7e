-- The walk over the buffers of a history that have certain records.
use Rattle.std.proofs.Common.{◌≡◌, true, cond, Option, Some, None, List, [], ◌∷◌, ◌++◌, map, sym, ◌∙◌, ap, append_assoc}
use Rattle.std.specs.Prelude.{◌↔◌}
use Rattle.std.proofs.lemmas.List.{append-nil}
use Rattle.std.specs.List.{filter, filter_map}
use Rattle.chat_change.specs.Buffer.{Buffer}
use Rattle.chat_change.specs.Order.{buffer_cmp}
use Rattle.chat_change.proofs.CallerLemmas.{buffer_total}
use Rattle.chat_buffers.specs.declared.sought.Sought.{Sought}
use Rattle.chat_history.specs.History.{History, changes_of}
use Rattle.chat_history.specs.Choice.{keep, Among, IsFirst}
use Rattle.chat_buffers.specs.Sought.{sought_in, sought_buffers, is_past, sought_past, all_past}
use Rattle.chat_history.proofs.CallerLemmas.{among-filter_map, among_made}
use Rattle.chat_history.proofs.CallerLemmas.{in_order_member, member_in_order, buffers_sorted}
use Rattle.chat_history.proofs.CallerLemmas.{from_member, passing_from, none_passing}
use Rattle.chat_buffers.proofs.CallerLemmas.{kept_passes, past_closed, filter_all}

-- ---- a step of the walk

module _ (s : Sought) (h : History) (last : Option Buffer) where
  abbrev buffers : List Buffer
  buffers = sought_buffers s h

  -- the buffers that are sought and come after the last one
  pub past_buffer : (b : Buffer) → Among b (all_past s last h) ↔ (Among b buffers × (is_past last b ≡ true))
  past_buffer b = (
    λ m.
        let r = among-filter_map (sought_past s last) (changes_of h) b m in
        let t = kept_passes (is_past last) (sought_in s r.0) b r.2 in
        (member_in_order (filter_map (sought_in s) (changes_of h)) b (among_made (sought_in s) (changes_of h) r.0 b r.1 t.0), t.1),
    λ v.
        let r = among-filter_map (sought_in s) (changes_of h) b (in_order_member (filter_map (sought_in s) (changes_of h)) b v.0) in
        among_made (sought_past s last) (changes_of h) r.0 b r.1
        (ap (keep (is_past last)) r.2 ∙ ap (λ t. cond t (Some b) None) v.1),
  )

  pub walk_end : IsFirst buffer_cmp (all_past s last h) None → filter (is_past last) buffers ≡ []
  walk_end f = none_passing buffer_total buffers (all_past s last h) (is_past last) (past_closed last) past_buffer f

  pub walk_step : (b : Buffer) → IsFirst buffer_cmp (all_past s last h) (Some b) → filter (is_past last) buffers ≡ b ∷ filter (is_past (Some b)) buffers
  walk_step b f =
      passing_from buffer_total buffers (all_past s last h) (is_past last) (past_closed last) past_buffer b f
      ∙ from_member buffer_total buffers b (buffers_sorted (filter_map (sought_in s) (changes_of h))) ((past_buffer b).0 f.0).0

  pub is_one : (b : Buffer) → IsFirst buffer_cmp (all_past s last h) (Some b) → Among b buffers
  is_one b f = ((past_buffer b).0 f.0).0

-- ---- a list that is made of the buffers, one for each

module _ {X : Type 0} (f : Buffer → X) (bs : List Buffer) where
  -- what is made so far, and what is left to make, are all
  abbrev pub IsMade : List X → Option Buffer → Type 0
  IsMade made last = made ++ map f (filter (is_past last) bs) ≡ map f bs

  pub made_none : IsMade [] None
  made_none = ap (map f) (filter_all bs)

  pub made_more : (made : List X) (last : Option Buffer) (b : Buffer) → filter (is_past last) bs ≡ b ∷ filter (is_past (Some b)) bs → IsMade made last → IsMade (made ++ f b ∷ []) (Some b)
  made_more made last b e h = append_assoc made (f b ∷ []) (map f (filter (is_past (Some b)) bs)) ∙ ap (λ cs. made ++ map f cs) (sym e) ∙ h

  pub made_all : (made : List X) (last : Option Buffer) → filter (is_past last) bs ≡ [] → IsMade made last → made ≡ map f bs
  made_all made last e h = sym (append-nil made) ∙ ap (λ cs. made ++ map f cs) (sym e) ∙ h
