use Rattle.std.proofs.Common.{◌≡◌, ◌∙◌, sym, subst}
use Rattle.std.proofs.lemmas.List.Elements.{same_from_all_zip}
use Rattle.std.specs.FinMap as map
use Rattle.chat_buffers.specs.Store.{IsKeyedStore}
use Rattle.chat_buffers.specs.Held.{store_in}
use Rattle.chat_buffers.proofs.buffers.Buffers.try_clone.Goals as goal

same_entry : {K V : Type 0} (x y : K × V) → (y.0 ≡ x.0) × (y.1 ≡ x.1) → y ≡ x
same_entry x y e = λ i. (e.0 i, e.1 i)

pub invariant_of-result : goal.invariant_of-result
invariant_of-result c =
    let accounts : c.in_ok-accounts.accounts.entries ≡ c.self.inside.accounts.entries = same_from_all_zip _ c.self.inside.accounts.entries c.in_ok-accounts.accounts.entries c.in_ok-accounts.ensures.cases same_entry in
    let held : c.in_ok-held.held.entries ≡ c.self.inside.held.entries = same_from_all_zip _ c.self.inside.held.entries c.in_ok-held.held.entries c.in_ok-held.ensures.cases same_entry in
    subst IsKeyedStore (λ i. store_in (map.from_entries (sym accounts i)) (map.from_entries (sym held i))) c.self.invariant

pub returns : goal.returns
returns c =
    let accounts : c.in_ok-accounts.accounts.entries ≡ c.self.inside.accounts.entries = same_from_all_zip _ c.self.inside.accounts.entries c.in_ok-accounts.accounts.entries c.in_ok-accounts.ensures.cases same_entry in
    let held : c.in_ok-held.held.entries ≡ c.self.inside.held.entries = same_from_all_zip _ c.self.inside.held.entries c.in_ok-held.held.entries c.in_ok-held.ensures.cases same_entry in
    (λ i. store_in (map.from_entries (accounts i)) (map.from_entries (held i))) ∙ c.self.view_is
