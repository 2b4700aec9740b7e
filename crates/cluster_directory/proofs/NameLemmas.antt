-- Tests of names and of words.
use Rattle.std.proofs.Common.{◌≡◌, ℕ, Bool, true, false, ◌&&◌, List, refl, ap}
use Rattle.std.proofs.lemmas.Bool.{false≢true}
use Rattle.std.proofs.lemmas.Cmp.{tied_itself}
use Rattle.std.specs.Cmp.{Equal-is}
use Rattle.std.specs.Ordering.{is_eq}
use Rattle.byte_text.specs.Order.{text_cmp}
use Rattle.byte_text.proofs.CallerLemmas.{text_total, text_exact}
use Rattle.cluster_directory.specs.Names.{same_name}

pub same_name_is : (a b : List ℕ) → same_name a b ≡ true → a ≡ b
same_name_is a b e = text_exact a b ((Equal-is (text_cmp a b)).0 e)

pub same_name_itself : (a : List ℕ) → same_name a a ≡ true
same_name_itself a = ap is_eq (tied_itself text_total a)

pub both_true : (a b : Bool) → (a && b) ≡ true → (a ≡ true) × (b ≡ true)
both_true true b e = (refl, e)
both_true false b e = absurd (false≢true e)
