-- The last of a list, taken from its end.
use Rattle.std.proofs.Common.{◌≡◌, ◌≤◌, ◌<◌, ◌-◌, ℕ, Bool, true, false, nat_le, List, [], ◌∷◌, ◌++◌, length, map, take, drop, reverse, refl, sym, ap, ◌∙◌, arith, length-drop}
use Rattle.std.proofs.lemmas.Bool.{leb-true, leb-false}
use Rattle.std.proofs.lemmas.List.{take_all, take_at, take-append-drop, reverse-append, reverse-reverse, length-reverse, map-append}
use Rattle.chat_query.specs.Page.{last}

pub map_reverse : {A B : Type 0} (f : A → B) (xs : List A) → map f (reverse xs) ≡ reverse (map f xs)
map_reverse f [] = refl
map_reverse f (x ∷ xs) =
    ap (map f) (reverse-append (x ∷ []) xs) ∙ map-append f (reverse xs) (x ∷ []) ∙ ap (λ zs. zs ++ f x ∷ []) (map_reverse f xs)
    ∙ sym (reverse-append (f x ∷ []) (map f xs))

module _ {A : Type 0} (n : ℕ) (xs : List A) where
  few : length xs ≤ n → reverse (take n (reverse xs)) ≡ last n xs
  few h =
      let all : take n (reverse xs) ≡ reverse xs = take_all n (reverse xs) (omega (arith, length-reverse xs)) in
      let none : length xs - n ≡ 0 = omega arith in
      ap reverse all ∙ reverse-reverse xs ∙ ap (λ k. drop k xs) (sym none)

  many : n < length xs → reverse (take n (reverse xs)) ≡ last n xs
  many h =
      let k = length xs - n in
      let split : reverse xs ≡ reverse (drop k xs) ++ reverse (take k xs) = ap reverse (sym (take-append-drop k xs)) ∙ reverse-append (take k xs) (drop k xs) in
      let size : length (reverse (drop k xs)) ≡ n = omega (arith, length-reverse (drop k xs), length-drop k xs) in
      ap (λ l. reverse (take n l)) split ∙ ap reverse (take_at (reverse (drop k xs)) (reverse (take k xs)) n size) ∙ reverse-reverse (drop k xs)

  pub last_from_end : reverse (take n (reverse xs)) ≡ last n xs
  last_from_end = go (nat_le (length xs) n) refl where
    go : (b : Bool) → nat_le (length xs) n ≡ b → reverse (take n (reverse xs)) ≡ last n xs
    go true e = few (leb-true _ _ e)
    go false e = many (leb-false _ _ e)
