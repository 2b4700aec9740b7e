-- Clones of pages, and of the entries in them.
use Rattle.std.proofs.Common.{◌≢◌, ◌∷◌, ◌++◌, [], List, refl}
use Rattle.std.specs.List.{AllZip, AllByRecursion, flat_map}

module _ {A B : Type 0} (R : A → B → Type 0) where
  zip_append : (xs : List A) (ys : List B) (us : List A) (vs : List B) → AllZip R xs ys → AllZip R us vs → AllZip R (xs ++ us) (ys ++ vs)
  zip_append [] [] us vs p q = q
  zip_append [] (y ∷ ys) us vs p q = absurd p
  zip_append (x ∷ xs) [] us vs p q = absurd p
  zip_append (x ∷ xs) (y ∷ ys) us vs p q = (p.0, zip_append xs ys us vs p.1 q)

  pub zip_pages : (ps : List (List A)) (qs : List (List B)) → AllZip (AllZip R) ps qs → AllZip R (flat_map (λ page. page) ps) (flat_map (λ page. page) qs)
  zip_pages [] [] h = tt
  zip_pages [] (q ∷ qs) h = absurd h
  zip_pages (p ∷ ps) [] h = absurd h
  zip_pages (p ∷ ps) (q ∷ qs) h = zip_append p q (flat_map (λ page. page) ps) (flat_map (λ page. page) qs) h.0 (zip_pages ps qs h.1)

  filled_alike : (p : List A) (q : List B) → AllZip R p q → p ≢ [] → q ≢ []
  filled_alike [] q z f = absurd (f refl)
  filled_alike (x ∷ p) [] z f = absurd z
  filled_alike (x ∷ p) (y ∷ q) z f = λ e. cc

  pub filled_pages : (ps : List (List A)) (qs : List (List B)) → AllZip (AllZip R) ps qs → AllByRecursion (λ page. page ≢ []) ps → AllByRecursion (λ page. page ≢ []) qs
  filled_pages [] [] h f = tt
  filled_pages [] (q ∷ qs) h f = absurd h
  filled_pages (p ∷ ps) [] h f = absurd h
  filled_pages (p ∷ ps) (q ∷ qs) h f = (filled_alike p q h.0 f.0, filled_pages ps qs h.1 f.1)
