-- The orders of texts, buffers, messages and records are total, and only equal values tie. Which of two records of one
-- message goes before the other is decided, and always in the same way.
use Rattle.std.proofs.Common.{◌≡◌, List, ◌∷◌, refl, sym, subst, ◌∙◌, ap, arith, ◌<◌, ℕ, ◌⊎◌, ◌↔◌, inl, inr, IsTrue}
use Rattle.std.specs.declared.cmp.Ordering.{Ordering}
use Rattle.std.specs.declared.cmp.Ordering.TheVariants.{Less, Equal, Greater}
use Rattle.std.specs.Ordering.{on, nat_cmp, ordering_then, ordering_reverse, MatchOrdering, eq_by_cmp, is_eq}
use Rattle.std.specs.Cmp.{IsTotalOrder}
use Rattle.std.specs.FinMap.{slice_cmp-IsAntisymmetric}
use Rattle.std.proofs.lemmas.Cmp.{nat_cmp_total, on_total, then_total, back_total, lists_total, tied_itself, ranked}
use Rattle.std.proofs.lemmas.Map.Lookups.{CmpEqualImpliesEq, exact_unsigned}
use Rattle.chat_change.specs.Buffer.{Buffer, buffer_texts}
use Rattle.chat_change.specs.Message.{Message, kind_letter, message_texts}
use Rattle.chat_change.specs.Record.{Record}
use Rattle.chat_change.specs.declared.message.Kind.{Kind}
use Rattle.chat_change.specs.declared.message.Kind.TheVariants.{Privmsg, Notice}
use Rattle.byte_text.specs.Order.{text_cmp}
use Rattle.byte_text.proofs.CallerLemmas.{text_total, text_exact}
use Rattle.chat_change.specs.Order.{id_cmp, texts_cmp, buffer_cmp, message_cmp, record_texts, latest_first, greatest_tags_first, tie_cmp, record_cmp, WinsTie, GoesBefore}
use Rattle.std.proofs.lemmas.Map.Views.{tells_apart}

pub on_exact : {K J : Type 0} (f : K → J) {R : J → J → Ordering} → ((x y : K) → f x ≡ f y → x ≡ y) → CmpEqualImpliesEq R → CmpEqualImpliesEq (on f R)
on_exact f apart exact x y e = apart x y (exact (f x) (f y) e)

pub id_total : IsTotalOrder id_cmp
id_total = back_total text_total

pub id_exact : CmpEqualImpliesEq id_cmp
id_exact a b e = sym (text_exact b a e)

pub texts_total : IsTotalOrder texts_cmp
texts_total = lists_total text_total

pub texts_exact : CmpEqualImpliesEq texts_cmp
texts_exact = slice_cmp-IsAntisymmetric text_exact

pub buffer_apart : (a b : Buffer) → a.account ≡ b.account → a.network ≡ b.network → a.target ≡ b.target → a ≡ b
buffer_apart a b p q r = λ i. record { account = p i; network = q i; target = r i }

pub buffer_total : IsTotalOrder buffer_cmp
buffer_total = on_total buffer_texts texts_total

pub buffer_exact : CmpEqualImpliesEq buffer_cmp
buffer_exact = on_exact buffer_texts (λ a b e. buffer_apart a b (cc e) (cc e) (cc e)) texts_exact

letters_apart : (k l : Kind) → kind_letter k ≡ kind_letter l → k ≡ l
letters_apart Privmsg Privmsg e = refl
letters_apart Privmsg Notice e = absurd (omega (arith, e))
letters_apart Notice Privmsg e = absurd (omega (arith, e))
letters_apart Notice Notice e = refl

pub message_total : IsTotalOrder message_cmp
message_total = on_total message_texts texts_total

pub message_apart : (m n : Message) → m.kind ≡ n.kind → m.source ≡ n.source → m.target ≡ n.target → m.body ≡ n.body → m ≡ n
message_apart m n p q r s = λ i. record { kind = p i; source = q i; target = r i; body = s i }

pub record_apart : (r s : Record) → r.at ≡ s.at → r.tags ≡ s.tags → record_texts r ≡ record_texts s → r ≡ s
record_apart r s t g e =
    let b : r.buffer ≡ s.buffer = buffer_apart r.buffer s.buffer (cc e) (cc e) (cc e) in
    let k : r.message.kind ≡ s.message.kind = letters_apart r.message.kind s.message.kind (cc e) in
    let m : r.message ≡ s.message = message_apart r.message s.message k (cc e) (cc e) (cc e) in
    let d : r.id ≡ s.id = cc e in
    λ i. record { buffer = b i; id = d i; at = t i; tags = g i; message = m i }

pub tie_total : IsTotalOrder tie_cmp
tie_total = then_total (back_total (on_total (λ (r : Record). r.tags) text_total)) (on_total record_texts texts_total)

pub record_total : IsTotalOrder record_cmp
record_total = then_total (back_total (on_total (λ (r : Record). r.at) nat_cmp_total)) tie_total

both_equal : (a b : Ordering) → ordering_then a b ≡ Equal → (a ≡ Equal) × (b ≡ Equal)
both_equal Less b e = cc
both_equal Equal b e = (refl, e)
both_equal Greater b e = cc

pub record_exact : CmpEqualImpliesEq record_cmp
record_exact r s e =
    let h = both_equal (nat_cmp s.at r.at) (tie_cmp r s) e in
    let k = both_equal (text_cmp s.tags r.tags) (texts_cmp (record_texts r) (record_texts s)) h.1 in
    record_apart r s (sym (exact_unsigned s.at r.at h.0)) (sym (text_exact s.tags r.tags k.0)) (texts_exact _ _ k.1)

pub then_equal : (o : Ordering) → ordering_then o Equal ≡ o
then_equal Less = refl
then_equal Equal = refl
then_equal Greater = refl

-- of two records of one message the id and the buffer decide nothing
pub record_cmp-parts : (r s : Record) → r.buffer ≡ s.buffer → r.id ≡ s.id → record_cmp r s ≡ ordering_then (latest_first r s) (ordering_then (greatest_tags_first r s) (message_cmp r.message s.message))
record_cmp-parts r s p q =
    let rest : texts_cmp (r.id ∷ buffer_texts r.buffer) (s.id ∷ buffer_texts s.buffer) ≡ Equal = (λ i. texts_cmp (q i ∷ buffer_texts (p i)) (s.id ∷ buffer_texts s.buffer)) ∙ tied_itself texts_total (s.id ∷ buffer_texts s.buffer) in
    ap (λ o. ordering_then (latest_first r s) (ordering_then (greatest_tags_first r s) (ordering_then (ordering_then (nat_cmp (kind_letter r.message.kind) (kind_letter s.message.kind)) Equal) (ordering_then (text_cmp r.message.source s.message.source) (ordering_then (text_cmp r.message.target s.message.target) (ordering_then (text_cmp r.message.body s.message.body) o)))))) rest

-- messages are compared by their letters, sources, targets and bodies
pub message_cmp-parts : (m n : Message) → message_cmp m n ≡ ordering_then (nat_cmp (kind_letter m.kind) (kind_letter n.kind)) (ordering_then (text_cmp m.source n.source) (ordering_then (text_cmp m.target n.target) (text_cmp m.body n.body)))
message_cmp-parts m n =
    ap (λ o. ordering_then o (ordering_then (text_cmp m.source n.source) (ordering_then (text_cmp m.target n.target) (ordering_then (text_cmp m.body n.body) Equal)))) (then_equal (nat_cmp (kind_letter m.kind) (kind_letter n.kind)))
    ∙ ap (λ o. ordering_then (nat_cmp (kind_letter m.kind) (kind_letter n.kind)) (ordering_then (text_cmp m.source n.source) (ordering_then (text_cmp m.target n.target) o))) (then_equal (text_cmp m.body n.body))

-- ---- of two records of one message

-- the greater number goes first, and at equal numbers what else there is decides
greater_first : (m n : ℕ) (o more : Ordering) → MatchOrdering o (n < m) (n ≡ m) (m < n) → (ordering_then o more ≡ Less) ↔ ((n < m) ⊎ ((m ≡ n) × (more ≡ Less)))
greater_first m n Less more h = (λ e. inl h, λ k. refl)
greater_first m n Equal more h = (λ e. inr (sym h, e), λ k. elim k [ inl l ↦ absurd (omega arith) | inr w ↦ w.1 ])
greater_first m n Greater more h = (λ e. cc, λ k. elim k [ inl l ↦ absurd (omega arith) | inr w ↦ absurd (omega arith) ])

not_tied : (o : Ordering) → o ≡ Equal → o ≡ Less → ⊥
not_tied o e l = cc

-- the greater text goes first, and of equal texts what else there is decides
greater_text_first : (s t : List ℕ) (o more : Ordering) → text_cmp t s ≡ o → (ordering_then o more ≡ Less) ↔ ((text_cmp t s ≡ Less) ⊎ ((s ≡ t) × (more ≡ Less)))
greater_text_first s t Less more h = (λ e. inl h, λ k. refl)
greater_text_first s t Equal more h = (λ e. inr (sym (text_exact t s h), e), λ k. elim k [ inl l ↦ absurd (not_tied (text_cmp t s) h l) | inr w ↦ w.1 ])
greater_text_first s t Greater more h = (λ e. cc, λ k. elim k [ inl l ↦ sym h ∙ l | inr w ↦ absurd (unequal h w.0) ])
  where
    unequal : text_cmp t s ≡ Greater → s ≡ t → ⊥
    unequal g e = let tied : text_cmp t s ≡ Equal = (λ i. text_cmp t (e i)) ∙ tied_itself text_total t in cc

tie-wins : (r s : Record) → (ordering_then (greatest_tags_first r s) (message_cmp r.message s.message) ≡ Less) ↔ WinsTie r s
tie-wins r s = greater_text_first r.tags s.tags (text_cmp s.tags r.tags) (message_cmp r.message s.message) refl

pub record_cmp-goes_before : (r s : Record) → r.buffer ≡ s.buffer → r.id ≡ s.id → (record_cmp r s ≡ Less) ↔ GoesBefore r s
record_cmp-goes_before r s p q =
    let rest = ordering_then (greatest_tags_first r s) (message_cmp r.message s.message) in
    let e : record_cmp r s ≡ ordering_then (latest_first r s) rest = record_cmp-parts r s p q in
    let h = greater_first r.at s.at (nat_cmp s.at r.at) rest (ranked s.at r.at (nat_cmp s.at r.at) refl) in
    let w = tie-wins r s in (
      λ l. elim (h.0 (sym e ∙ l)) [ inl a ↦ inl a | inr b ↦ inr (b.0, w.0 b.1) ],
      λ k. e ∙ h.1 (elim k [ inl a ↦ inl a | inr b ↦ inr (b.0, w.1 b.1) ]),
    )

tie-irreflexive : (r : Record) → WinsTie r r → ⊥
tie-irreflexive r h = elim h [
  | inl l ↦ not_tied (text_cmp r.tags r.tags) (tied_itself text_total r.tags) l
  | inr w ↦ not_tied (message_cmp r.message r.message) (tied_itself message_total r.message) w.1
]

pub goes_before-irreflexive : (r : Record) → GoesBefore r r → ⊥
goes_before-irreflexive r h = elim h [ inl l ↦ omega arith | inr w ↦ tie-irreflexive r w.1 ]

tie-transitive : (r s t : Record) → WinsTie r s → WinsTie s t → WinsTie r t
tie-transitive r s t h k = elim h [
  | inl a ↦ elim k [
    | inl b ↦ inl (text_total.trans t.tags s.tags r.tags b a)
    | inr b ↦ inl (subst (λ x. text_cmp x r.tags ≡ Less) b.0 a)
  ]
  | inr a ↦ elim k [
    | inl b ↦ inl (subst (λ x. text_cmp t.tags x ≡ Less) (sym a.0) b)
    | inr b ↦ inr (a.0 ∙ b.0, message_total.trans r.message s.message t.message a.1 b.1)
  ]
]

pub goes_before-transitive : (r s t : Record) → GoesBefore r s → GoesBefore s t → GoesBefore r t
goes_before-transitive r s t h k = elim h [
  | inl a ↦ elim k [ inl b ↦ inl (omega arith) | inr b ↦ inl (omega arith) ]
  | inr a ↦ elim k [
    | inl b ↦ inl (omega arith)
    | inr b ↦ inr (a.0 ∙ b.0, tie-transitive r s t a.1 b.1)
  ]
]

one_way : (o back : Ordering) → back ≡ ordering_reverse o → (o ≡ Equal → ⊥) → (o ≡ Less) ⊎ (back ≡ Less)
one_way Less back e h = inl refl
one_way Equal back e h = absurd (h refl)
one_way Greater back e h = inr e

-- of two different records of one message one goes before the other
pub goes_before-either : (r s : Record) → r.buffer ≡ s.buffer → r.id ≡ s.id → (r ≡ s → ⊥) → GoesBefore r s ⊎ GoesBefore s r
goes_before-either r s p q apart =
    elim (one_way (record_cmp r s) (record_cmp s r) (record_total.antisymm s r) (λ e. apart (record_exact r s e))) [
      | inl l ↦ inl ((record_cmp-goes_before r s p q).0 l)
      | inr l ↦ inr ((record_cmp-goes_before s r (sym p) (sym q)).0 l)
    ]

-- ---- buffers and ids by their names

pub buffer_cmp-names : (a b : Buffer) → buffer_cmp a b ≡ ordering_then (text_cmp a.account b.account) (ordering_then (text_cmp a.network b.network) (text_cmp a.target b.target))
buffer_cmp-names a b = ap (λ o. ordering_then (text_cmp a.account b.account) (ordering_then (text_cmp a.network b.network) o)) (then_equal (text_cmp a.target b.target))

-- where only equal values tie, the test of two values is that they are one
pub equal_is_one : {K : Type 0} (R : K → K → Ordering) → IsTotalOrder R → CmpEqualImpliesEq R → (x y : K) → IsTrue (eq_by_cmp R x y) ↔ (x ≡ y)
equal_is_one R total exact x y = (λ e. tells_apart exact x y e, λ e. ap (λ z. is_eq (R x z)) (sym e) ∙ ap is_eq (tied_itself total x))
