-- The tests of `Same` decide equality.
use Rattle.std.proofs.Common.{◌≡◌, ℕ, Bool, true, false, ◌&&◌, Option, Some, None, refl, sym, ◌∙◌, ap}
use Rattle.std.specs.Ordering.{is_eq}
use Rattle.std.specs.Cmp.{Equal-is}
use Rattle.std.specs.Cmp.Lexicographic.{pointwise_decides}
use Rattle.std.specs.Bool.{Decides}
use Rattle.std.specs.FinMap.{entries, same_entries_map}
use Rattle.std.proofs.lemmas.Bool.{false≢true}
use Rattle.std.proofs.lemmas.Cmp.{tied_itself}
use Rattle.chat_change.specs.declared.change.Change.{Change}
use Rattle.chat_change.specs.declared.change.Change.TheVariants.{Post, Redact, Mark, Floor, AccountFloor}
use Rattle.chat_change.proofs.CallerLemmas.{texts_total, texts_exact, buffer_apart, record_apart}
use Rattle.chat_change.specs.Key.{Key, same_key}
use Rattle.chat_history.specs.History.{History}
use Rattle.chat_history.specs.Same.{moment_text, change_texts, same_change, same_entry, same_history}
use Rattle.chat_change.proofs.CallerLemmas.{same_key_itself, same_key_is}

moments_apart : (t u : Option ℕ) → moment_text t ≡ moment_text u → t ≡ u
moments_apart None None e = refl
moments_apart None (Some u) e = cc
moments_apart (Some t) None e = cc
moments_apart (Some t) (Some u) e = ap Some (cc e)

changes_apart : (c d : Change) → change_texts c ≡ change_texts d → c ≡ d
changes_apart (Post r) (Post s) e = ap Post (record_apart r s (cc e) (cc e) (cc e))
changes_apart (Post r) (Redact d n u) e = cc e
changes_apart (Post r) (Mark d u) e = cc e
changes_apart (Post r) (Floor d u) e = cc e
changes_apart (Post r) (AccountFloor a u) e = cc e
changes_apart (Redact b m t) (Post s) e = cc e
changes_apart (Redact b m t) (Redact d n u) e =
    let p = buffer_apart b d (cc e) (cc e) (cc e) in
    let q : m ≡ n = cc e in
    let o = moments_apart t u (cc e) in
    λ i. Redact (p i) (q i) (o i)
changes_apart (Redact b m t) (Mark d u) e = cc e
changes_apart (Redact b m t) (Floor d u) e = cc e
changes_apart (Redact b m t) (AccountFloor a u) e = cc e
changes_apart (Mark b t) (Post s) e = cc e
changes_apart (Mark b t) (Redact d n u) e = cc e
changes_apart (Mark b t) (Mark d u) e =
    let p = buffer_apart b d (cc e) (cc e) (cc e) in
    let o : t ≡ u = cc e in
    λ i. Mark (p i) (o i)
changes_apart (Mark b t) (Floor d u) e = cc e
changes_apart (Mark b t) (AccountFloor a u) e = cc e
changes_apart (Floor b t) (Post s) e = cc e
changes_apart (Floor b t) (Redact d n u) e = cc e
changes_apart (Floor b t) (Mark d u) e = cc e
changes_apart (Floor b t) (Floor d u) e =
    let p = buffer_apart b d (cc e) (cc e) (cc e) in
    let o : t ≡ u = cc e in
    λ i. Floor (p i) (o i)
changes_apart (Floor b t) (AccountFloor a u) e = cc e
changes_apart (AccountFloor a t) (Post s) e = cc e
changes_apart (AccountFloor a t) (Redact d n u) e = cc e
changes_apart (AccountFloor a t) (Mark d u) e = cc e
changes_apart (AccountFloor a t) (Floor d u) e = cc e
changes_apart (AccountFloor a t) (AccountFloor d u) e =
    let p : a ≡ d = cc e in
    let o : t ≡ u = cc e in
    λ i. AccountFloor (p i) (o i)

pub same_change_is : (c d : Change) → same_change c d ≡ true → c ≡ d
same_change_is c d e = changes_apart c d (texts_exact (change_texts c) (change_texts d) ((Equal-is _).0 e))

pub same_change_itself : (c : Change) → same_change c c ≡ true
same_change_itself c = ap is_eq (tied_itself texts_total (change_texts c))

both_true : (a b : Bool) → (a && b) ≡ true → (a ≡ true) × (b ≡ true)
both_true true b e = (refl, e)
both_true false b e = absurd (false≢true e)

entry_decides : (e f : Key × Change) → Decides (same_entry e f) (e ≡ f)
entry_decides e f = (
  λ t. let h = both_true (same_key e.0 f.0) (same_change e.1 f.1) t in λ i. (same_key_is e.0 f.0 h.0 i, same_change_is e.1 f.1 h.1 i),
  λ p. ap (same_entry e) (sym p) ∙ (λ i. same_key_itself e.0 i && same_change_itself e.1 i),
)

-- the test of two histories
pub same_history_decides : (g h : History) → Decides (same_history g h) (g ≡ h)
same_history_decides g h =
    let d = pointwise_decides entry_decides (entries g) (entries h) in
    (λ t. same_entries_map g h (d.0 t), λ p. d.1 (ap entries p))
