-- What a history in normal form holds.
use Rattle.std.proofs.Common.{◌≡◌, ℕ, ◌≤◌, Bool, true, false, cond, Option, Some, List, refl, sym, ◌∙◌, ap, subst, arith}
use Rattle.std.proofs.lemmas.Bool.Decides.{nat_tests}
use Rattle.std.specs.List.{Contains}
use Rattle.std.specs.Option.{option_map, option_to_list}
use Rattle.std.specs.Prelude.{nat_le}
use Rattle.std.specs.FinMap.{get}
use Rattle.chat_change.specs.Buffer.{Buffer}
use Rattle.chat_change.specs.Key.{MessageOf, key_of}
use Rattle.chat_change.specs.Record.{Record}
use Rattle.chat_change.specs.declared.change.Change.{Change}
use Rattle.chat_change.specs.declared.change.Change.TheVariants.{Post, Redact}
use Rattle.chat_history.specs.History.{History, norm, floor, is_gone, kept_record, position_of, changes_of, IsKeyed}
use Rattle.chat_history.proofs.AbsorbLemmas.{get_is_piece, at_rest, at_floor}
use Rattle.chat_history.proofs.MemberLemmas.{among}
use Rattle.chat_history.proofs.PieceLemmas.{norm_keyed}
use Rattle.chat_history.proofs.StepLemmas.{settle, settle-post}
use Rattle.chat_history.proofs.VisibleLemmas.{change_held}

not_gone : (g : Bool) (b : Buffer) (m : List ℕ) (t : Option ℕ) (o : Option Record) (r : Record) → cond g (Some (Redact b m t)) (option_map Post o) ≡ Some (Post r) → g ≡ false
not_gone true b m t o r e = cc
not_gone false b m t o r e = refl

module _ (h : History) (normal : norm (changes_of h) ≡ h) where
  keyed : IsKeyed h
  keyed = subst IsKeyed normal (norm_keyed (changes_of h))

  pub is_piece : (c : Change) → Contains (changes_of h) c → get h (key_of c) ≡ Some c
  is_piece c m = change_held h keyed c (among (changes_of h) c m)

  pub not_redacted : (r : Record) → Contains (changes_of h) (Post r) → is_gone (changes_of h) r.buffer r.id ≡ false
  not_redacted r m =
      let cs = changes_of h in
      not_gone (is_gone cs r.buffer r.id) r.buffer r.id (position_of cs r.buffer r.id) (kept_record cs r.buffer r.id) r
      (get_is_piece h keyed normal (MessageOf r.buffer r.id) ∙ is_piece (Post r) m)

  pub not_below : (r : Record) → Contains (changes_of h) (Post r) → floor (changes_of h) r.buffer ≤ r.at
  not_below r m =
      let f = floor (changes_of h) r.buffer in
      let here = is_piece (Post r) m in
      let rest = at_rest h keyed normal (MessageOf r.buffer r.id) in
      let above = at_floor f r (nat_le f r.at)
      (sym (settle-post r.buffer r.id f r) ∙ sym (ap (λ o. settle (MessageOf r.buffer r.id) f (option_to_list o)) here) ∙ rest ∙ here) in
      grind (arith, nat_tests)
