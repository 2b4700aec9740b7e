-- What a set includes: its members, more when it grows, and with a redaction that names a moment also the one that names none.
use Rattle.std.proofs.Common.{◌≡◌, ℕ, max, true, false, cond, Some, None, List, [], ◌∷◌, ◌++◌, refl, sym, ◌∙◌, ap, subst, append_assoc, ⊎_elim}
use Rattle.std.proofs.lemmas.List.Elements.{Contains-push_cases, Contains-append_left}
use Rattle.std.specs.List.{AllByRecursion}
use Rattle.std.specs.Prelude.{Contains}
use Rattle.chat_change.specs.Buffer.{Buffer}
use Rattle.chat_change.specs.declared.change.Change.{Change}
use Rattle.chat_change.specs.declared.change.Change.TheVariants.{Redact}
use Rattle.chat_change.specs.Extent.{Extent, OfAccount, OfBuffer}
use Rattle.chat_change.specs.Key.{Key, FloorOf, MarkerOf, MessageOf, same_key, bearers_of}
use Rattle.chat_history.specs.History.{own_floor, norm, changes_of, Includes}
use Rattle.chat_history.proofs.PieceLemmas.{norm_from_pieces}
use Rattle.chat_history.proofs.AbsorbLemmas.{append_none}
use Rattle.chat_history.proofs.SetLemmas.{norm_of_set, norm_swap, norm_left, norm_right}
use Rattle.chat_history.proofs.StepLemmas.{greatest_floor, floor_under, settle, piece-settle}

pub same_left : (xs ys zs : List Change) → norm xs ≡ norm ys → norm (xs ++ zs) ≡ norm (ys ++ zs)
same_left xs ys zs e = sym (norm_left xs zs) ∙ ap (λ h. norm (changes_of h ++ zs)) e ∙ norm_left ys zs

pub same_right : (xs ys zs : List Change) → norm ys ≡ norm zs → norm (xs ++ ys) ≡ norm (xs ++ zs)
same_right xs ys zs e = sym (norm_right xs ys) ∙ ap (λ h. norm (xs ++ changes_of h)) e ∙ norm_right xs zs

-- what is included stays so when the set grows
pub Includes-more : (xs more : List Change) (c : Change) → Includes xs c → Includes (xs ++ more) c
Includes-more xs more c h =
    ap norm (append_assoc xs more (c ∷ []))
    ∙ same_right xs (more ++ c ∷ []) (c ∷ more) (norm_swap more (c ∷ []))
    ∙ ap norm (sym (append_assoc xs (c ∷ []) more))
    ∙ same_left (xs ++ c ∷ []) xs more h

pub Includes-member : (xs : List Change) (c : Change) → Contains xs c → Includes xs c
Includes-member xs c h =
    norm_of_set (xs ++ c ∷ []) xs
    (λ d. (
      λ in'. ⊎_elim (λ p. p) (λ e. subst (Contains xs) e h) (Contains-push_cases xs c d in'),
      λ in'. Contains-append_left xs (c ∷ []) d in',
    ))

-- what includes each of some changes has the normal form of all
pub includes_all : (xs cs : List Change) → AllByRecursion (Includes xs) cs → norm (xs ++ cs) ≡ norm xs
includes_all xs [] h = ap norm (append_none xs)
includes_all xs (c ∷ cs) h =
    ap norm (sym (append_assoc xs (c ∷ []) cs)) ∙ same_left (xs ++ c ∷ []) xs cs h.0 ∙ includes_all xs cs h.1

-- a change that adds nothing to another is included with it
Includes-less : (xs : List Change) (c d : Change) → norm (c ∷ d ∷ []) ≡ norm (c ∷ []) → Includes xs c → Includes xs d
Includes-less xs c d e h =
    same_left xs (xs ++ c ∷ []) (d ∷ []) (sym h)
    ∙ ap norm (append_assoc xs (c ∷ []) (d ∷ []))
    ∙ same_right xs (c ∷ d ∷ []) (c ∷ []) e
    ∙ h

module _ (b : Buffer) (m : List ℕ) (t : ℕ) where
  abbrev named : Change
  named = Redact b m (Some t)

  abbrev bare : Change
  bare = Redact b m None

  same_own_floor : (e : Extent) → own_floor (named ∷ bare ∷ []) e ≡ own_floor (named ∷ []) e
  same_own_floor e = elim (same_key (FloorOf e) (MessageOf b m)) as (λ s. greatest_floor (cond s (named ∷ cond s (bare ∷ []) []) (cond s (bare ∷ []) [])) ≡ greatest_floor (cond s (named ∷ []) [])) [ true ↦ refl | false ↦ refl ]

  same_under : (k : Key) → floor_under (named ∷ bare ∷ []) k ≡ floor_under (named ∷ []) k
  same_under (FloorOf (OfAccount a)) = refl
  same_under (FloorOf (OfBuffer d)) = same_own_floor (OfAccount d.account)
  same_under (MarkerOf d) = refl
  same_under (MessageOf d n) = λ i. max (same_own_floor (OfAccount d.account) i) (same_own_floor (OfBuffer d) i)

  same_settled : (k : Key) (f : ℕ) → settle k f (bearers_of k (named ∷ bare ∷ [])) ≡ settle k f (bearers_of k (named ∷ []))
  same_settled (FloorOf e) f = elim (same_key (FloorOf e) (MessageOf b m)) as (λ s. settle (FloorOf e) f (cond s (named ∷ cond s (bare ∷ []) []) (cond s (bare ∷ []) [])) ≡ settle (FloorOf e) f (cond s (named ∷ []) [])) [ true ↦ refl | false ↦ refl ]
  same_settled (MarkerOf d) f = elim (same_key (MarkerOf d) (MessageOf b m)) as (λ s. settle (MarkerOf d) f (cond s (named ∷ cond s (bare ∷ []) []) (cond s (bare ∷ []) [])) ≡ settle (MarkerOf d) f (cond s (named ∷ []) [])) [ true ↦ refl | false ↦ refl ]
  same_settled (MessageOf d n) f = elim (same_key (MessageOf d n) (MessageOf b m)) as (λ s. settle (MessageOf d n) f (cond s (named ∷ cond s (bare ∷ []) []) (cond s (bare ∷ []) [])) ≡ settle (MessageOf d n) f (cond s (named ∷ []) [])) [ true ↦ refl | false ↦ refl ]

  bare_adds_nothing : norm (named ∷ bare ∷ []) ≡ norm (named ∷ [])
  bare_adds_nothing = norm_from_pieces (named ∷ bare ∷ []) (named ∷ []) (λ k.
      piece-settle (named ∷ bare ∷ []) k
      ∙ ap (λ f. settle k f (bearers_of k (named ∷ bare ∷ []))) (same_under k)
      ∙ same_settled k (floor_under (named ∷ []) k)
      ∙ sym (piece-settle (named ∷ []) k))

  -- with a redaction that names a moment the one that names none
  pub Includes-bare : (xs : List Change) → Includes xs (Redact b m (Some t)) → Includes xs (Redact b m None)
  Includes-bare xs h = Includes-less xs named bare bare_adds_nothing h
