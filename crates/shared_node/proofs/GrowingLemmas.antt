-- A list that only grows, and its prefixes: what the walks of `growing` share. Assumes `Logic`.
use Rattle.std.proofs.Common.{◌≡◌, ℕ, List, [], ◌∷◌, ◌++◌, map, refl, sym, ap, ◌∙◌}
use mathlib.Core.List.{IsPrefix, cons≢nil}
use seplogic.Ra.Ura.{Ura}
use mir.Val.{Val, vstruct, vcons, vnil}
use base.Fraction.{full_share}
use base.Stored.{Gv, Coded}
use base.Logic.{SProp, ent, sep, ex, guard, emp, via, wand, apply∗}
use base.Fml.{Lft, Fml, ftrue, fbor}
use base.Growing.{at_least, prefix_refl, Least}
use types.Logic.{Logic, sem, lfts}
use types.Owned.{basic}
use types.Growing.{latest_new, latest_grows, latest_shows, latest_bounds, at_least_dup, at_least_join}
use types.Kit.{‵, raw, ◌⊛◌, some, given, later, ◌$◌, ◌∵◌, !, qed, by, drop, split, move, use0, use1, use2, pick, learn, check, updating, await, now, done}
use denote.RattleType.{RattleType}
use denote.Shadow.{makes_shadow}
use denote.Sharing.{said}
use denote.Signature.{type_at}
use denote.Steps.{nothing}
use denote.Struct.Lending.{Lends}
use denote.Struct.Struct.{Struct}
use denote.Triple.Clauses.{Ended, Clauses, Lasts, at_exit}
use denote.Triple.Entry.{Res, alive}
use denote.Triple.Walked.{Stays, Fit, has_of, walk_of}
use Rattle.std.specs.contracts.marker.PhantomData as marker
use Rattle.std.proofs.raw_atomic.Walks.{leaves}
use Rattle.shared_node.specs.Owned.{lists, whole_owns, prefix_owns}

-- the machine's value of a struct that has one field of no bytes
abbrev pub token : Val
token = vstruct (vcons (vstruct vnil) vnil)

abbrev pub Token : RattleType → RattleType
Token X = Struct record { name = []; args = []; types = []; fields = marker.the_row X ∷ [] }

pub token_made : (X : RattleType) {M : Type 1} {𝓤 : Ura M} (𝓛 : Logic 𝓤) → ent 𝓤 (emp 𝓤) (sem 𝓛 ((Token X).own_val (record {}, tt) (token ∷ [])))
token_made X 𝓛 = makes_shadow 𝓛 ((Token X).own_val (record {}, tt) (token ∷ [])) (λ vss. (tt, ((λ uss. (tt, tt)), tt))) ((vstruct vnil ∷ [], tt), (refl, ((tt, (refl, tt)), tt)))

-- how a walk ends
pub ends : {M : Type 1} {𝓤 : Ura M} (𝓛 : Logic 𝓤) (T : Ended) (hs : Stays T.signature.params T.kept) (c : Clauses 𝓤 T) (y : (walk_of 𝓛 T hs c).Ghost) (v : Val) (r : Res T.signature y.0.0) (ws : Lasts T y.0.0 y.0.3)
    → Fit T hs y.0.0 y.0.3 ws → ent 𝓤 (emp 𝓤) ((c y.0.0 y.0.3).ensures y.1 r (at_exit T y.0.0 y.0.3 ws))
    → ent 𝓤 (sep 𝓤 (alive 𝓛 T.signature y.0.0 y.0.1) (sep 𝓤 (sem 𝓛 (has_of y.0.0 T.signature.params T.kept hs y.0.3 ws y.0.4)) (sem 𝓛 ((type_at T.signature.result y.0.0).own_val r (v ∷ []))))) ((walk_of 𝓛 T hs c).post y v)
ends 𝓛 T hs c y v r ws fit told = qed 𝓛 (raw (alive 𝓛 T.signature y.0.0 y.0.1) ∷ ‵ (has_of y.0.0 T.signature.params T.kept hs y.0.3 ws y.0.4) ∷ ‵ ((type_at T.signature.result y.0.0).own_val r (v ∷ [])) ∷ []) ∵
    use0 𝓛 (raw ((c y.0.0 y.0.3).ensures y.1 r (at_exit T y.0.0 y.0.3 ws))) told $ move ! (1 ∷ 2 ∷ 3 ∷ []) $ by ! (leaves 𝓛 T hs c y v r ws fit)

-- what can be had twice is had behind a `&` too
pub lends_twice : {M : Type 1} {𝓤 : Ura M} (𝓛 : Logic 𝓤) (P : Fml) → ent 𝓤 (sem 𝓛 P) (sep 𝓤 (sem 𝓛 P) (sem 𝓛 P)) → (l : Lft) → Lends 𝓛 P (said P) l
lends_twice {𝓤 = 𝓤} 𝓛 P twice l κ ts inc sp = let Back = 𝓛.H.⇛ (sep 𝓤 (𝓛.A.bor κ P) (lfts 𝓛 ts)) in
    qed 𝓛 (‵ (fbor κ P) ∷ raw (lfts 𝓛 ts) ∷ []) ∵ updating ! $ use2 𝓛 (later (‵ P ⊛ raw (wand 𝓤 (sem 𝓛 P) Back))) (𝓛.more.bor_acc_by κ ts P sp) $ await ! tt $ split ! $ use1 𝓛 (‵ P ⊛ ‵ P) twice $ split ! $ move ! (0 ∷ 2 ∷ []) $
    use2 𝓛 (later (‵ (fbor κ P) ⊛ raw (lfts 𝓛 ts))) (apply∗ 𝓤 (sem 𝓛 P) Back) $ await ! tt $ split ! $ drop ! $ move ! (1 ∷ 0 ∷ []) $ now ! $ done !

abbrev first : {X : Type 0} → X → List X → X
first d [] = d
first d (x ∷ xs) = x

abbrev rest : {X : Type 0} → List X → List X
rest [] = []
rest (x ∷ xs) = xs

module _ {E : Type 0} (cv : Coded E) where
  uncoded : (xs ys : List E) (t : List Gv) → map cv.code xs ++ t ≡ map cv.code ys → IsPrefix xs ys
  uncoded [] ys t e = (ys, refl)
  uncoded (x ∷ xs) [] t e = absurd (cons≢nil e)
  uncoded (x ∷ xs) (y ∷ ys) t e = let r = uncoded xs ys t (ap rest e) in (r.0, λ i. cv.inj x y (ap (first (cv.code x)) e) i ∷ r.1 i)

  more_codes : (xs t : List E) → map cv.code xs ++ map cv.code t ≡ map cv.code (xs ++ t)
  more_codes [] t = refl
  more_codes (x ∷ xs) t = ap (λ (gs : List Gv). cv.code x ∷ gs) (more_codes xs t)

  -- a list that begins with both
  abbrev pub Both : List E → List E → Type 0
  Both x y = (both : List E) × IsPrefix x both × IsPrefix y both

  pub both_of : (x y : List E) (c : List Gv) → IsPrefix (map cv.code x) c → IsPrefix (map cv.code y) c → Both x y
  both_of [] y c h k = (y, (y, refl), prefix_refl y)
  both_of (e ∷ x) [] c h k = (e ∷ x, prefix_refl (e ∷ x), (e ∷ x, refl))
  both_of (e ∷ x) (f ∷ y) c h k =
      let same : f ≡ e = cv.inj f e (ap (first (cv.code f)) (k.1 ∙ sym h.1)) in
      let t = both_of x y (rest c) (h.0, ap rest h.1) (k.0, ap rest k.1) in
      (e ∷ t.0, (t.1.0, λ i. e ∷ t.1.1 i), (t.2.0, λ i. same i ∷ t.2.1 i))

module _ {M : Type 1} {𝓤 : Ura M} (𝓛 : Logic 𝓤) where
  open 𝓛 use {H}

  abbrev Pr : Type 2
  Pr = SProp 𝓤

  abbrev ◌⊢◌ : Pr → Pr → Type 1
  P ⊢ Q = ent 𝓤 P Q

  abbrev ◌∗◌ : Pr → Pr → Pr
  P ∗ Q = sep 𝓤 P Q

  abbrev ⟦◌⟧ : Fml → Pr
  ⟦ P ⟧ = sem 𝓛 P

  infix 26 ◌⊢◌
  infixr 35 ◌∗◌
  module _ {E : Type 0} (cv : Coded E) where
    abbrev top : ℕ → List E → Fml
    top = whole_owns cv.code

    abbrev had : ℕ → List E → Fml
    had = prefix_owns cv.code

    pub begins : emp 𝓤 ⊢ H.⇛ (ex 𝓤 (λ (γ : ℕ). ⟦ top γ [] ⟧))
    begins = via 𝓤 _ (latest_new lists 𝓛 []) (basic 𝓛 _)

    pub grows : (γ : ℕ) (l : List E) (e : E) → ⟦ top γ l ⟧ ⊢ H.⇛ ⟦ top γ (l ++ e ∷ []) ⟧
    grows γ l e = via 𝓤 _ (latest_grows lists 𝓛 γ (map cv.code l) (map cv.code (l ++ e ∷ [])) (map cv.code (e ∷ []), more_codes cv l (e ∷ []))) (basic 𝓛 _)

    pub shown : (γ : ℕ) (l : List E) → ⟦ top γ l ⟧ ⊢ ⟦ top γ l ⟧ ∗ ⟦ had γ l ⟧
    shown γ l = latest_shows lists 𝓛 full_share γ (map cv.code l) (map cv.code l) (lists.same (map cv.code l))

    pub under : (γ : ℕ) (l p : List E) → ⟦ top γ l ⟧ ∗ ⟦ had γ p ⟧ ⊢ guard 𝓤 (IsPrefix p l) (⟦ top γ l ⟧ ∗ ⟦ had γ p ⟧)
    under γ l p = qed 𝓛 (‵ (top γ l) ∷ ‵ (had γ p) ∷ []) ∵ use2 𝓛 (given (IsPrefix (map cv.code p) (map cv.code l)) (‵ (top γ l) ⊛ ‵ (had γ p))) (latest_bounds lists 𝓛 full_share γ (map cv.code l) (map cv.code p)) $
        learn ! (λ so. check ! (uncoded cv p l so.0 so.1) $ done !)

    pub twice : (γ : ℕ) (l : List E) → ⟦ had γ l ⟧ ⊢ ⟦ had γ l ⟧ ∗ ⟦ had γ l ⟧
    twice γ l = at_least_dup lists 𝓛 γ (map cv.code l)

    pub compared : (γ : ℕ) (x y : List E) → ⟦ had γ x ⟧ ∗ ⟦ had γ y ⟧ ⊢ guard 𝓤 (Both cv x y) ⟦ ftrue ⟧
    compared γ x y = qed 𝓛 (‵ (had γ x) ∷ ‵ (had γ y) ∷ []) ∵ use2 𝓛 (some (λ (c : List Gv). given (Least lists.le (map cv.code x) (map cv.code y) c) (‵ (at_least lists γ c)))) (at_least_join lists 𝓛 γ (map cv.code x) (map cv.code y)) $
        pick ! (λ c. learn ! (λ so. drop ! $ nothing ! $ check ! (both_of cv x y c so.0 so.1) $ done !))
