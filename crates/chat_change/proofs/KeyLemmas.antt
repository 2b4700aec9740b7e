-- The order of keys is total, and only equal keys tie; what bears a key.
use Rattle.std.proofs.Common.{◌≡◌, ℕ, List, [], ◌∷◌, ◌++◌, Bool, true, false, refl, sym, ap, subst}
use Rattle.std.specs.Prelude.{IsTrue, ◌↔◌}
use Rattle.std.proofs.lemmas.Bool.{false≢true}
use Rattle.std.specs.Ordering.{is_eq}
use Rattle.std.specs.Cmp.{IsTotalOrder, Equal-is}
use Rattle.std.proofs.lemmas.Cmp.{on_total, tied_itself}
use Rattle.std.proofs.lemmas.Map.Lookups.{CmpEqualImpliesEq}
use Rattle.chat_change.proofs.OrderLemmas.{on_exact, texts_total, texts_exact, buffer_apart}
use Rattle.chat_change.specs.Buffer.{Buffer, buffer_texts}
use Rattle.chat_change.specs.Extent.{Extent, OfAccount, OfBuffer}
use Rattle.chat_change.specs.Key.{Key, FloorOf, MarkerOf, MessageOf, key_texts, key_cmp, same_key}

extents_apart : (d e : Extent) → key_texts (FloorOf d) ≡ key_texts (FloorOf e) → d ≡ e
extents_apart (OfAccount a) (OfAccount b) e = let p : a ≡ b = cc e in ap OfAccount p
extents_apart (OfAccount a) (OfBuffer b) e = cc e
extents_apart (OfBuffer b) (OfAccount a) e = cc e
extents_apart (OfBuffer a) (OfBuffer b) e = ap OfBuffer (buffer_apart a b (cc e) (cc e) (cc e))

floor_apart : {A : Type 0} (d : Extent) (b : Buffer) (n : ℕ) (rest : List (List ℕ)) → (0 ≡ n → ⊥) → key_texts (FloorOf d) ≡ buffer_texts b ++ (n ∷ []) ∷ rest → A
floor_apart (OfAccount a) b n rest h e = cc e
floor_apart (OfBuffer d) b n rest h e = let p : 0 ≡ n = cc e in absurd (h p)

keys_apart : (k l : Key) → key_texts k ≡ key_texts l → k ≡ l
keys_apart (FloorOf d) (FloorOf e) h = ap FloorOf (extents_apart d e h)
keys_apart (FloorOf d) (MarkerOf b) e = floor_apart d b 1 [] (λ h. cc h) e
keys_apart (FloorOf d) (MessageOf b m) e = floor_apart d b 2 (m ∷ []) (λ h. cc h) e
keys_apart (MarkerOf b) (FloorOf d) e = floor_apart d b 1 [] (λ h. cc h) (sym e)
keys_apart (MarkerOf a) (MarkerOf b) e = ap MarkerOf (buffer_apart a b (cc e) (cc e) (cc e))
keys_apart (MarkerOf a) (MessageOf b m) e = cc e
keys_apart (MessageOf b m) (FloorOf d) e = floor_apart d b 2 (m ∷ []) (λ h. cc h) (sym e)
keys_apart (MessageOf a m) (MarkerOf b) e = cc e
keys_apart (MessageOf a m) (MessageOf b n) e =
    let p = buffer_apart a b (cc e) (cc e) (cc e) in
    let q : m ≡ n = cc e in
    λ i. MessageOf (p i) (q i)

pub key_total : IsTotalOrder key_cmp
key_total = on_total key_texts texts_total

pub key_exact : CmpEqualImpliesEq key_cmp
key_exact = on_exact key_texts keys_apart texts_exact

pub same_key_itself : (k : Key) → same_key k k ≡ true
same_key_itself k = ap is_eq (tied_itself key_total k)

pub same_key_is : (k l : Key) → same_key k l ≡ true → k ≡ l
same_key_is k l e = key_exact k l ((Equal-is (key_cmp k l)).0 e)

pub same_key_from : (b : Bool) (k l : Key) → (IsTrue b ↔ (k ≡ l)) → b ≡ same_key k l
same_key_from true k l h = sym (subst (λ x. same_key k x ≡ true) (h.0 refl) (same_key_itself k))
same_key_from false k l h =
    elim (same_key k l) as (λ t. same_key k l ≡ t → false ≡ t) [ true ↦ λ e. absurd (false≢true (h.1 (same_key_is k l e))) | false ↦ λ _. refl ] refl
