use Rattle.std.proofs.Common.{rules, ◌≡◌, ◌∙◌, ap, ℕ, List, None}
use Rattle.std.specs.FinMap as map
use Rattle.std.specs.BTreeMap as tree
use Rattle.chat_change.specs.Buffer.{Buffer}
use Rattle.byte_text.specs.Order.{text_cmp}
use Rattle.chat_change.specs.Order.{buffer_cmp}
use Rattle.chat_buffers.specs.Store.{Store, IsKeyedStore}
use Rattle.chat_buffers.proofs.SettleLemmas.{Accounts, Tree, seen, none_seen}
use Rattle.chat_buffers.proofs.buffers.Buffers.new.Goals as goal

nothing : (ac : Accounts) (bs : Tree) → ((a : List ℕ) → tree.get text_cmp ac a ≡ None) → ((q : Buffer) → tree.get buffer_cmp bs q ≡ None) → IsKeyedStore (seen ac bs)
nothing ac bs unset none k p e = cc (e, ap (λ (s : Store). map.get s k) (none_seen ac bs unset none) ∙ map.get-empty _ k)

pub invariant_of-result : goal.invariant_of-result
invariant_of-result c =
    let unset : (a : List ℕ) → tree.get text_cmp c.new.result a ≡ None = λ a. search rules in
    let none : (q : Buffer) → tree.get buffer_cmp c.new-2.result q ≡ None = λ q. search rules in
    nothing c.new.result c.new-2.result unset none

pub returns : goal.returns
returns c =
    let unset : (a : List ℕ) → tree.get text_cmp c.new.result a ≡ None = λ a. search rules in
    let none : (q : Buffer) → tree.get buffer_cmp c.new-2.result q ≡ None = λ q. search rules in
    none_seen c.new.result c.new-2.result unset none
