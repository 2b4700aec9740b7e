-- What the map of a table finds at a key is what the table has there.
use Rattle.std.proofs.Common.{◌≡◌, ℕ, ℤ, pos, w64, false, List, Option, Some, None, is_some, option_map, Bor, string_bytes, nat_cmp, refl, sym, subst, ap, ◌∙◌}
use Rattle.std.specs.Prelude.{negsuc, unsigned_abs}
use Rattle.std.specs.Int.{FitsUnsignedBits}
use Rattle.std.proofs.lemmas.Int.{to_z-of_z}
use mir.Val.{SFits, to_z, of_z}
use Rattle.std.specs.Cmp.Lexicographic.{slice_cmp}
use Rattle.std.specs.Map.{lookup}
use Rattle.std.specs.BTreeMap.{is_at}
use Rattle.std.proofs.lemmas.Bool.{false≢true}
use Rattle.toml.specs.Data.{Items, Members, no_items, array, get_member}
use Rattle.toml.specs.View.{view, members_view}
use Rattle.toml.specs.declared.value.Value.{Value}
use Rattle.toml.proofs.Views.{Entry, table_get}
use Rattle.irc_time.specs.Time.{IsTime}
use Rattle.cluster_directory.specs.declared.version.TheConstants.Version.{OWN}
use Rattle.node_config.specs.Values.{HasText, HasNumber, HasNumberOr, IsNumberAt, HasTime, IsTimeAt, HasItems, AreItemsAt, HasVersion, IsVersionAt}

-- the map of a table was asked for a key, and answered this
pub record Found (r : Option (Bor Value)) (key : List ℕ) (entries : List Entry) : Type 0 where
  pub found : option_map (λ x. x.now) r ≡ lookup (is_at (λ x. slice_cmp nat_cmp key (string_bytes x))) entries

pub value_at : (r : Option (Bor Value)) (x : Bor Value) (v : Value) (key : List ℕ) (entries : List Entry) → Found r key entries
    → r ≡ Some x → x.now ≡ v → get_member key (members_view entries) ≡ Some (view v)
value_at r x v key entries f some is =
    sym (table_get r key entries f.found) ∙ ap (option_map (λ b. view b.now)) some ∙ ap (λ w. Some (view w)) is

pub none_at : (r : Option (Bor Value)) (key : List ℕ) (entries : List Entry) → Found r key entries → r ≡ None
    → get_member key (members_view entries) ≡ None
none_at r key entries f none = sym (table_get r key entries f.found) ∙ ap (option_map (λ b. view b.now)) none

pub is_none : {A : Type 0} (r : Option A) → is_some r ≡ false → r ≡ None
is_none None e = refl
is_none (Some x) e = absurd (false≢true (sym e))

pub no_items_at : (t : Members) (key : List ℕ) → get_member key t ≡ None → HasItems t key no_items
no_items_at t key e = subst (λ o. AreItemsAt o no_items) (sym e) refl

pub items_at : (t : Members) (key : List ℕ) (items : Items) → get_member key t ≡ Some (array items) → HasItems t key items
items_at t key items e = subst (λ o. AreItemsAt o items) (sym e) refl

pub no_number_at : (default : ℕ) (t : Members) (key : List ℕ) → get_member key t ≡ None → HasNumberOr default t key default
no_number_at default t key e = subst (λ o. IsNumberAt default o default) (sym e) refl

pub number_at : (default : ℕ) (t : Members) (key : List ℕ) (n : ℕ) → HasNumber t key n → HasNumberOr default t key n
number_at default t key n e = subst (λ o. IsNumberAt default o n) (sym e) refl

pub no_time_at : (t : Members) (key : List ℕ) → get_member key t ≡ None → HasTime t key None
no_time_at t key e = subst (λ o. IsTimeAt o None) (sym e) refl

pub time_at : (t : Members) (key text : List ℕ) (time : ℕ) → HasText t key text → IsTime text time → HasTime t key (Some time)
time_at t key text time e is = subst (λ o. IsTimeAt o (Some time)) (sym e) (text, refl, is)

pub no_version_at : (t : Members) (key : List ℕ) → get_member key t ≡ None → HasVersion t key OWN
no_version_at t key e = subst (λ o. IsVersionAt o OWN) (sym e) refl

as_read : (z : ℤ) (n : ℕ) → FitsUnsignedBits 32 z → n ≡ unsigned_abs z → z ≡ pos n
as_read (pos m) n f e = ap pos (sym e)
as_read (negsuc m) n f e = absurd f

-- a number that was read through its bits
pub is_number : (raw z : ℤ) (n : ℕ) → SFits w64 z → raw ≡ z → FitsUnsignedBits 32 (to_z w64 (of_z w64 raw))
    → n ≡ unsigned_abs (to_z w64 (of_z w64 raw)) → z ≡ pos n
is_number raw z n fits same f e =
    let back : to_z w64 (of_z w64 raw) ≡ z = ap (λ y. to_z w64 (of_z w64 y)) same ∙ to_z-of_z w64 z fits in
    as_read z n (subst (FitsUnsignedBits 32) back f) (e ∙ ap unsigned_abs back)
