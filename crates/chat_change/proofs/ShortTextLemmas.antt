-- Of two texts whose first bytes make different numbers, the one with the smaller number is the smaller. Of two whose bytes
-- all make the same, the shorter is the smaller.
use Rattle.std.proofs.Common.{◌≡◌, ◌≢◌, refl, sym, ◌∙◌, ap, ℕ, ◌+◌, ◌-◌, ◌*◌, ◌^◌, ◌<◌, ◌≤◌, List, [], ◌∷◌, length, get_or, take, drop, ◌++◌, replicate, subst, zero, suc, arith}
use Rattle.std.specs.declared.cmp.Ordering.{Ordering}
use Rattle.std.specs.declared.cmp.Ordering.TheVariants.{Less, Equal, Greater}
use Rattle.std.specs.Char.{to_ascii_lowercase}
use Rattle.std.specs.Ordering.{nat_cmp, ordering_then}
use Rattle.std.specs.Int.{from_be_bytes, w128}
use Rattle.std.proofs.Math.Nat.{mul-le-mul_right}
use Rattle.std.proofs.lemmas.Nat.{pow-add}
use Rattle.byte_text.specs.Order.{text_cmp}
use Rattle.chat_change.specs.Words.{lower_case_of}
use Rattle.chat_change.specs.ShortText.{CanBeRoom, HasZerosFrom, leading, AreBytes, IsWordOf}

rest_are : (k x : ℕ) (xs : List ℕ) → AreBytes (take (suc k) (x ∷ xs)) → AreBytes (take k xs)
rest_are k x xs b i = b (suc i)

-- ---- the number of k bytes is below 256 ^ k

power : (k : ℕ) → 256 ^ suc k ≡ 256 ^ k * 256
power k = omega arith

none_are : (k : ℕ) → AreBytes (take k [])
none_are zero i = omega arith
none_are (suc k) i = omega arith

within : (k : ℕ) (xs : List ℕ) → AreBytes (take k xs) → leading k xs < 256 ^ k
within zero xs b = omega arith
within (suc k) [] b = omega (arith, power k, within k [] (none_are k))
within (suc k) (x ∷ xs) b =
    let up : x * 256 ^ k ≤ 255 * 256 ^ k = mul-le-mul_right (256 ^ k) (omega (arith, b 0)) in
    omega (arith, power k, within k xs (rest_are k x xs b), up)

below : (p x y w v : ℕ) → x < y → w < p → x * p + w < y * p + v
below p x y w v l s =
    let up : suc x * p ≤ y * p = mul-le-mul_right p (omega (arith, l)) in
    omega (arith, up, s)

same_first : (p x y w v : ℕ) → w < p → v < p → x * p + w ≡ y * p + v → x ≡ y
same_first p x y w v s t e = by (nat_cmp x y) refl
  where
    by : (o : Ordering) → nat_cmp x y ≡ o → x ≡ y
    by Less f = let apart = below p x y w v (grind (arith, f)) s in absurd (omega (arith, apart, e))
    by Greater f = let apart = below p y x v w (grind (arith, f)) t in absurd (omega (arith, apart, e))
    by Equal f = grind (arith, f)

as_less : (m n : ℕ) → m < n → nat_cmp m n ≡ Less
as_less m n l = grind (arith, l)

as_greater : (m n : ℕ) → n < m → nat_cmp m n ≡ Greater
as_greater m n l = grind (arith, l)

-- ---- the first byte that differs decides, and the numbers tell it

shifted : (s m n : ℕ) → nat_cmp m n ≡ nat_cmp (s + m) (s + n)
shifted s m n = grind arith

by_first : (k x y : ℕ) (xs ys : List ℕ) → AreBytes (take k xs) → AreBytes (take k ys)
    → (leading k xs ≢ leading k ys → text_cmp xs ys ≡ nat_cmp (leading k xs) (leading k ys))
    → leading (suc k) (x ∷ xs) ≢ leading (suc k) (y ∷ ys)
    → (o : Ordering) → nat_cmp x y ≡ o → text_cmp (x ∷ xs) (y ∷ ys) ≡ nat_cmp (leading (suc k) (x ∷ xs)) (leading (suc k) (y ∷ ys))
by_first k x y xs ys a b rest n Less e =
    ap (λ o. ordering_then o (text_cmp xs ys)) e
    ∙ sym (as_less (leading (suc k) (x ∷ xs)) (leading (suc k) (y ∷ ys)) (below (256 ^ k) x y (leading k xs) (leading k ys) (grind (arith, e)) (within k xs a)))
by_first k x y xs ys a b rest n Greater e =
    ap (λ o. ordering_then o (text_cmp xs ys)) e
    ∙ sym (as_greater (leading (suc k) (x ∷ xs)) (leading (suc k) (y ∷ ys)) (below (256 ^ k) y x (leading k ys) (leading k xs) (grind (arith, e)) (within k ys b)))
by_first k x y xs ys a b rest n Equal e =
    let same : x ≡ y = grind (arith, e) in
    let apart : leading k xs ≢ leading k ys = λ r. n (λ i. same i * 256 ^ k + r i) in
    ap (λ o. ordering_then o (text_cmp xs ys)) e
    ∙ rest apart
    ∙ shifted (x * 256 ^ k) (leading k xs) (leading k ys)
    ∙ ap (λ z. nat_cmp (x * 256 ^ k + leading k xs) (z * 256 ^ k + leading k ys)) same

pub told : (k : ℕ) (xs ys : List ℕ) → AreBytes (take k xs) → AreBytes (take k ys) → leading k xs ≢ leading k ys → text_cmp xs ys ≡ nat_cmp (leading k xs) (leading k ys)
told zero xs ys a b n = absurd (n refl)
told (suc k) [] [] a b n = absurd (n refl)
told (suc k) [] (y ∷ ys) a b n = sym (as_less 0 (leading (suc k) (y ∷ ys)) (omega (arith, n)))
told (suc k) (x ∷ xs) [] a b n = sym (as_greater (leading (suc k) (x ∷ xs)) 0 (omega (arith, n)))
told (suc k) (x ∷ xs) (y ∷ ys) a b n =
    by_first k x y xs ys (rest_are k x xs a) (rest_are k y ys b) (told k xs ys (rest_are k x xs a) (rest_are k y ys b)) n (nat_cmp x y) refl

-- ---- zeros after a text add nothing

nothing : (p l : ℕ) → 0 * p + l ≡ l
nothing p l = omega arith

zeros : (k : ℕ) (xs : List ℕ) → HasZerosFrom 0 xs → leading k xs ≡ 0
zeros zero xs z = refl
zeros (suc k) [] z = refl
zeros (suc k) (x ∷ xs) z =
    let none : x ≡ 0 = z 0 (omega arith) in
    let rest : leading k xs ≡ 0 = zeros k xs (λ i l. z (suc i) (omega arith)) in
    ap (λ y. y * 256 ^ k + leading k xs) none ∙ nothing (256 ^ k) (leading k xs) ∙ rest

pub padded : (k n : ℕ) (xs : List ℕ) → HasZerosFrom n xs → leading k (take n xs) ≡ leading k xs
padded zero n xs z = refl
padded (suc k) zero xs z = sym (zeros (suc k) xs z)
padded (suc k) (suc n) [] z = refl
padded (suc k) (suc n) (x ∷ xs) z = ap (λ r. x * 256 ^ k + r) (padded k n xs (λ i l. z (suc i) (omega (arith, l))))

pub from_word : (xs : List ℕ) → 16 ≤ length xs → from_be_bytes w128 xs ≡ leading 16 xs
from_word [] long = absurd (omega (arith, long))
from_word (a ∷ []) long = absurd (omega (arith, long))
from_word (a ∷ b ∷ []) long = absurd (omega (arith, long))
from_word (a ∷ b ∷ c ∷ []) long = absurd (omega (arith, long))
from_word (a ∷ b ∷ c ∷ d ∷ []) long = absurd (omega (arith, long))
from_word (a ∷ b ∷ c ∷ d ∷ e ∷ []) long = absurd (omega (arith, long))
from_word (a ∷ b ∷ c ∷ d ∷ e ∷ f ∷ []) long = absurd (omega (arith, long))
from_word (a ∷ b ∷ c ∷ d ∷ e ∷ f ∷ g ∷ []) long = absurd (omega (arith, long))
from_word (a ∷ b ∷ c ∷ d ∷ e ∷ f ∷ g ∷ h ∷ []) long = absurd (omega (arith, long))
from_word (a ∷ b ∷ c ∷ d ∷ e ∷ f ∷ g ∷ h ∷ i ∷ []) long = absurd (omega (arith, long))
from_word (a ∷ b ∷ c ∷ d ∷ e ∷ f ∷ g ∷ h ∷ i ∷ j ∷ []) long = absurd (omega (arith, long))
from_word (a ∷ b ∷ c ∷ d ∷ e ∷ f ∷ g ∷ h ∷ i ∷ j ∷ k ∷ []) long = absurd (omega (arith, long))
from_word (a ∷ b ∷ c ∷ d ∷ e ∷ f ∷ g ∷ h ∷ i ∷ j ∷ k ∷ l ∷ []) long = absurd (omega (arith, long))
from_word (a ∷ b ∷ c ∷ d ∷ e ∷ f ∷ g ∷ h ∷ i ∷ j ∷ k ∷ l ∷ m ∷ []) long = absurd (omega (arith, long))
from_word (a ∷ b ∷ c ∷ d ∷ e ∷ f ∷ g ∷ h ∷ i ∷ j ∷ k ∷ l ∷ m ∷ n ∷ []) long = absurd (omega (arith, long))
from_word (a ∷ b ∷ c ∷ d ∷ e ∷ f ∷ g ∷ h ∷ i ∷ j ∷ k ∷ l ∷ m ∷ n ∷ o ∷ []) long = absurd (omega (arith, long))
from_word (a ∷ b ∷ c ∷ d ∷ e ∷ f ∷ g ∷ h ∷ i ∷ j ∷ k ∷ l ∷ m ∷ n ∷ o ∷ p ∷ xs) long = omega arith

-- ---- the same from a place on

later_zeros : (p n : ℕ) (xs : List ℕ) → HasZerosFrom 0 xs → HasZerosFrom 0 (drop p xs)
later_zeros zero n xs z = z
later_zeros (suc p) n [] z = z
later_zeros (suc p) n (x ∷ xs) z = later_zeros p n xs (λ i l. z (suc i) (omega arith))

padded_from : (p k n : ℕ) (xs : List ℕ) → HasZerosFrom n xs → leading k (drop p (take n xs)) ≡ leading k (drop p xs)
padded_from zero k n xs z = padded k n xs z
padded_from (suc p) k zero xs z = zeros k [] (λ i l. refl) ∙ sym (zeros k (drop (suc p) xs) (later_zeros (suc p) 0 xs z))
padded_from (suc p) k (suc n) [] z = refl
padded_from (suc p) k (suc n) (x ∷ xs) z = padded_from p k n xs (λ i l. z (suc i) (omega (arith, l)))

take_are : (k n : ℕ) (xs : List ℕ) → AreBytes (take k xs) → AreBytes (take k (take n xs))
take_are zero n xs b i = omega arith
take_are (suc k) zero xs b i = omega arith
take_are (suc k) (suc n) [] b i = omega arith
take_are (suc k) (suc n) (x ∷ xs) b zero = b 0
take_are (suc k) (suc n) (x ∷ xs) b (suc i) = take_are k n xs (rest_are k x xs b) i

taken_are : (p k n : ℕ) (xs : List ℕ) → AreBytes (take k (drop p xs)) → AreBytes (take k (drop p (take n xs)))
taken_are zero k n xs b = take_are k n xs b
taken_are (suc p) k zero xs b = none_are k
taken_are (suc p) k (suc n) [] b = none_are k
taken_are (suc p) k (suc n) (x ∷ xs) b = taken_are p k n xs b

whole : (k : ℕ) (xs : List ℕ) → leading k (take k xs) ≡ leading k xs
whole zero xs = refl
whole (suc k) [] = refl
whole (suc k) (x ∷ xs) = ap (λ r. x * 256 ^ k + r) (whole k xs)

once : (k : ℕ) (xs : List ℕ) → AreBytes (take k (take k xs)) → AreBytes (take k xs)
once zero xs b i = omega arith
once (suc k) [] b i = omega arith
once (suc k) (x ∷ xs) b zero = b 0
once (suc k) (x ∷ xs) b (suc i) = once k xs (rest_are k x (take k xs) b) i

-- the word of a row of bytes is that of its first sixteen
pub of_first : (n : ℕ) (xs : List ℕ) → IsWordOf (take 16 xs) n → IsWordOf xs n
of_first n xs is = (is.0 ∙ whole 16 xs, once 16 xs is.1)

-- a word of a text that stands in a row of bytes with zeros after it
pub word_of : (p n h : ℕ) (xs : List ℕ) → HasZerosFrom n xs → IsWordOf (drop p xs) h → IsWordOf (drop p (take n xs)) h
word_of p n h xs z is = (is.0 ∙ sym (padded_from p 16 n xs z), taken_are p 16 n xs is.1)

-- ---- the words in turn tell how texts compare

-- `i + k`, by the steps of `leading`
abbrev pub more : ℕ → ℕ → ℕ
more zero k = k
more (suc i) k = suc (more i k)

more_is : (i k : ℕ) → more i k ≡ i + k
more_is zero k = omega arith
more_is (suc i) k = omega (arith, more_is i k)

power_of_sum : (i k : ℕ) → 256 ^ more i k ≡ 256 ^ i * 256 ^ k
power_of_sum i k = ap (λ n. 256 ^ n) (more_is i k) ∙ pow-add 256 i k

nothing_leads : (k : ℕ) → leading k [] ≡ 0
nothing_leads k = zeros k [] (λ i l. refl)

-- the number of the first bytes, and that of those after them
in_two : (i k : ℕ) (s : List ℕ) → leading (more i k) s ≡ leading i s * 256 ^ k + leading k (drop i s)
in_two zero k s = sym (nothing (256 ^ k) (leading k s))
in_two (suc i) k [] = sym (nothing (256 ^ k) (leading k []) ∙ nothing_leads k)
in_two (suc i) k (x ∷ s) = grind (arith, power_of_sum i k, in_two i k s)

joined : (i k : ℕ) (s : List ℕ) → AreBytes (take i s) → AreBytes (take k (drop i s)) → AreBytes (take (more i k) s)
joined zero k s a b j = b j
joined (suc i) k [] a b j = none_are (suc (more i k)) j
joined (suc i) k (x ∷ s) a b zero = a 0
joined (suc i) k (x ∷ s) a b (suc j) = joined i k s (rest_are i x s a) b j

pub fewer_are : (i k : ℕ) (s : List ℕ) → AreBytes (take (more i k) s) → AreBytes (take i s)
fewer_are zero k s b j = none_are 0 j
fewer_are (suc i) k [] b j = none_are (suc i) j
fewer_are (suc i) k (x ∷ s) b zero = b 0
fewer_are (suc i) k (x ∷ s) b (suc j) = fewer_are i k s (rest_are (more i k) x s b) j

later_are : (i k : ℕ) (s : List ℕ) → AreBytes (take (more i k) s) → AreBytes (take k (drop i s))
later_are zero k s b j = b j
later_are (suc i) k [] b j = none_are k j
later_are (suc i) k (x ∷ s) b j = later_are i k s (rest_are (more i k) x s b) j

-- texts whose first bytes make one number do so with fewer of them
pub fewer_same : (i k : ℕ) (s t : List ℕ) → AreBytes (take (more i k) s) → AreBytes (take (more i k) t) → leading (more i k) s ≡ leading (more i k) t → leading i s ≡ leading i t
fewer_same i k s t a b e =
    same_first (256 ^ k) (leading i s) (leading i t) (leading k (drop i s)) (leading k (drop i t)) (within k (drop i s) (later_are i k s a)) (within k (drop i t) (later_are i k t b)) (sym (in_two i k s) ∙ e ∙ in_two i k t)

pub no_bytes : (s : List ℕ) → AreBytes (take 0 s)
no_bytes s i = omega arith

pub words_tell : (i : ℕ) (s t : List ℕ) (m n : ℕ) → AreBytes (take i s) → AreBytes (take i t) → leading i s ≡ leading i t → IsWordOf (drop i s) m → IsWordOf (drop i t) n → m ≢ n → nat_cmp m n ≡ text_cmp s t
words_tell i s t m n a b same f g apart = shifted head m n ∙ (λ j. nat_cmp (own j) (others j)) ∙ sym (told (more i 16) s t (joined i 16 s a f.1) (joined i 16 t b g.1) differ)
  where
    head : ℕ
    head = leading i s * 256 ^ 16

    own : head + m ≡ leading (more i 16) s
    own = ap (λ z. head + z) f.0 ∙ sym (in_two i 16 s)

    others : head + n ≡ leading (more i 16) t
    others = ap (λ z. head + z) g.0 ∙ ap (λ z. z * 256 ^ 16 + leading 16 (drop i t)) same ∙ sym (in_two i 16 t)

    differ : leading (more i 16) s ≢ leading (more i 16) t
    differ e = let is : head + m ≡ head + n = own ∙ e ∙ sym others in apart (omega (arith, is))

-- what stands in front of the second of two words that cover n bytes
pub in_front : (n m : ℕ) (s t : List ℕ) → CanBeRoom n → IsWordOf s m → IsWordOf t m → AreBytes (take (n - 16) s) × AreBytes (take (n - 16) t) × (leading (n - 16) s ≡ leading (n - 16) t)
in_front n m s t room f g = (fewer_are i k s a, fewer_are i k t b, fewer_same i k s t a b same)
  where
    i : ℕ
    i = n - 16

    k : ℕ
    k = 32 - n

    word : 16 ≡ more i k
    word = let sum : 16 ≡ i + k = omega (arith, room.0, room.1) in sum ∙ sym (more_is i k)

    a : AreBytes (take (more i k) s)
    a = subst (λ j. AreBytes (take j s)) word f.1

    b : AreBytes (take (more i k) t)
    b = subst (λ j. AreBytes (take j t)) word g.1

    same : leading (more i k) s ≡ leading (more i k) t
    same = subst (λ j. leading j s ≡ leading j t) word (sym f.0 ∙ g.0)

-- ---- of texts whose bytes make one number the shorter is the smaller

after_one : (m n : ℕ) → nat_cmp (suc m) (suc n) ≡ nat_cmp m n
after_one m n = grind arith

longer : (k : ℕ) (s t : List ℕ) → AreBytes (take k s) → AreBytes (take k t) → length s ≤ k → length t ≤ k → leading k s ≡ leading k t → nat_cmp (length s) (length t) ≡ text_cmp s t
longer k [] [] a b l m e = refl
longer k [] (y ∷ t) a b l m e = as_less 0 (length (y ∷ t)) (omega arith)
longer k (x ∷ s) [] a b l m e = as_greater (length (x ∷ s)) 0 (omega arith)
longer zero (x ∷ s) (y ∷ t) a b l m e = absurd (omega (arith, l))
longer (suc k) (x ∷ s) (y ∷ t) a b l m e =
    let rest = rest_are k x s a in
    let others = rest_are k y t b in
    let head : x ≡ y = same_first (256 ^ k) x y (leading k s) (leading k t) (within k s rest) (within k t others) e in
    let front : x * 256 ^ k ≡ y * 256 ^ k = ap (λ z. z * 256 ^ k) head in
    let later : leading k s ≡ leading k t = omega (arith, e, front) in
    let tied : nat_cmp x y ≡ Equal = grind (arith, head) in
    after_one (length s) (length t)
    ∙ longer k s t rest others (omega (arith, l)) (omega (arith, m)) later
    ∙ sym (ap (λ o. ordering_then o (text_cmp s t)) tied)

pub lengths_tell : (n m l : ℕ) (s t : List ℕ) → CanBeRoom n → length s ≤ n → length t ≤ n → IsWordOf s m → IsWordOf t m → IsWordOf (drop (n - 16) s) l → IsWordOf (drop (n - 16) t) l → nat_cmp (length s) (length t) ≡ text_cmp s t
lengths_tell n m l s t room fits others_fit f g h j = longer (more i 16) s t (joined i 16 s front.0 h.1) (joined i 16 t front.1 j.1) (omega (arith, fits, whole_is)) (omega (arith, others_fit, whole_is)) same
  where
    i : ℕ
    i = n - 16

    front : AreBytes (take i s) × AreBytes (take i t) × (leading i s ≡ leading i t)
    front = in_front n m s t room f g

    whole_is : more i 16 ≡ n
    whole_is = let sum : i + 16 ≡ n = omega (arith, room.0) in more_is i 16 ∙ sum

    same : leading (more i 16) s ≡ leading (more i 16) t
    same = in_two i 16 s ∙ (λ z. front.2 z * 256 ^ 16 + (sym h.0 ∙ j.0) z) ∙ sym (in_two i 16 t)

-- ---- a text that was copied over zeros

left_zeros : (n k : ℕ) → HasZerosFrom 0 (drop k (replicate n 0))
left_zeros zero zero i l = refl
left_zeros zero (suc k) i l = refl
left_zeros (suc n) zero zero l = refl
left_zeros (suc n) zero (suc i) l = left_zeros n zero i (omega arith)
left_zeros (suc n) (suc k) i l = left_zeros n k i l

pub copied : (text : List ℕ) (n k : ℕ) → HasZerosFrom (length text) (text ++ drop k (replicate n 0))
copied [] n k i l = left_zeros n k i l
copied (x ∷ text) n k zero l = absurd (omega (arith, l))
copied (x ∷ text) n k (suc i) l = copied text n k i (omega (arith, l))

-- ---- a text that is folded where it lies

folded_at : (xs : List ℕ) (i : ℕ) → get_or (lower_case_of xs) i 0 ≡ to_ascii_lowercase (get_or xs i 0)
folded_at [] i = refl
folded_at (x ∷ xs) zero = refl
folded_at (x ∷ xs) (suc i) = folded_at xs i

pub folded_zeros : (n : ℕ) (xs : List ℕ) → HasZerosFrom n xs → HasZerosFrom n (lower_case_of xs)
folded_zeros n xs z i l = folded_at xs i ∙ ap to_ascii_lowercase (z i l)

-- ---- the bytes of an array

pub first_are : (k : ℕ) (xs : List ℕ) → AreBytes xs → AreBytes (take k xs)
first_are zero xs b i = omega arith
first_are (suc k) [] b i = omega arith
first_are (suc k) (x ∷ xs) b zero = b 0
first_are (suc k) (x ∷ xs) b (suc i) = first_are k xs (λ j. b (suc j)) i
