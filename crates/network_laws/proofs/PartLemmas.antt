-- Some of a list of entries, each at most once and in their order.
use Rattle.std.proofs.Common.{◌≡◌, List, [], ◌∷◌, ◌++◌, refl, sym, ap, ◌∙◌, subst, append_assoc, append-nil, drop, slice_index_or}
use Rattle.network_log.specs.Host.{BatchEntry}
use Rattle.network_laws.specs.Streams.{IsPart, Nothing, IsThere, IsLeftOut}

pub part-both : (some all more : List BatchEntry) → IsPart some all → IsPart (some ++ more) (all ++ more)
part-both some all [] k =
    let P : List BatchEntry → Type 0 = λ v. IsPart v (all ++ []) in
    let Q : List BatchEntry → Type 0 = λ v. IsPart some v in
    subst P (sym (append-nil some)) (subst Q (sym (append-nil all)) k)
part-both some all (entry ∷ more) k =
    let P : List BatchEntry → Type 0 = λ v. IsPart v (all ++ entry ∷ more) in
    let Q : List BatchEntry → Type 0 = λ v. IsPart ((some ++ entry ∷ []) ++ more) v in
    subst P (append_assoc some (entry ∷ []) more)
    (subst Q (append_assoc all (entry ∷ []) more) (part-both (some ++ entry ∷ []) (all ++ entry ∷ []) more (IsThere entry k)))

pub part-more : (some all more : List BatchEntry) → IsPart some all → IsPart some (all ++ more)
part-more some all [] k =
    let Q : List BatchEntry → Type 0 = λ v. IsPart some v in
    subst Q (sym (append-nil all)) k
part-more some all (entry ∷ more) k =
    let Q : List BatchEntry → Type 0 = λ v. IsPart some v in
    subst Q (append_assoc all (entry ∷ []) more) (part-more some (all ++ entry ∷ []) more (IsLeftOut entry k))

-- ---- a first part of some of them

nil-snoc : (b : List BatchEntry) (y : BatchEntry) → [] ≡ b ++ y ∷ [] → ⊥
nil-snoc [] y e = cc
nil-snoc (c ∷ b) y e = cc

snoc-same : (a b : List BatchEntry) (x y : BatchEntry) → a ++ x ∷ [] ≡ b ++ y ∷ [] → a ≡ b
snoc-same [] [] x y e = refl
snoc-same [] (c ∷ b) x y e = absurd (nil-snoc b y (ap (λ (l : List BatchEntry). drop 1 l) e))
snoc-same (c ∷ a) [] x y e = absurd (nil-snoc a x (ap (λ (l : List BatchEntry). drop 1 l) (sym e)))
snoc-same (c ∷ a) (d ∷ b) x y e =
    let first : c ≡ d = ap (λ (l : List BatchEntry). slice_index_or l 0 c) e in
    let rest : a ≡ b = snoc-same a b x y (ap (λ (l : List BatchEntry). drop 1 l) e) in
    ap (λ (v : BatchEntry). v ∷ a) first ∙ ap (λ (l : List BatchEntry). d ∷ l) rest

part-init : {some all : List BatchEntry} (a : List BatchEntry) (x : BatchEntry) → some ≡ a ++ x ∷ [] → IsPart some all → IsPart a all
part-init a x e Nothing = absurd (nil-snoc a x e)
part-init a x e (IsThere {some} {all} entry p) =
    let P : List BatchEntry → Type 0 = λ l. IsPart l all in
    IsLeftOut entry (subst P (snoc-same some a entry x e) p)
part-init a x e (IsLeftOut entry p) = IsLeftOut entry (part-init a x e p)

pub part-first : (some more all : List BatchEntry) → IsPart (some ++ more) all → IsPart some all
part-first some [] all p =
    let P : List BatchEntry → Type 0 = λ l. IsPart l all in
    subst P (append-nil some) p
part-first some (x ∷ more) all p =
    let P : List BatchEntry → Type 0 = λ l. IsPart l all in
    part-init some x refl (part-first (some ++ x ∷ []) more all (subst P (sym (append_assoc some (x ∷ []) more)) p))
