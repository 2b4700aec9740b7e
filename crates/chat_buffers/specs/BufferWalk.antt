-- A walk over the buffers of a store.
use Rattle.std.specs.Prelude.{List, ℕ, Option, refl}
use Rattle.std.specs.Coded.{Coded, code_by, coded×, coded_option}
use Rattle.chat_change.specs.Buffer.{Buffer}
use Rattle.chat_history.specs.Codes.{coded_text}
use Rattle.chat_buffers.specs.Store.{Store, coded_store}

-- the store, and the buffer that the walk has reached
pub record Walk : Type 0 where
  pub store : Store
  pub last : Option Buffer

abbrev pub walk_after : Store → Option Buffer → Walk
walk_after store last = record { store = store; last = last }

-- ---- how it is coded

abbrev coded_buffer : Coded Buffer
coded_buffer =
    code_by (List ℕ × (List ℕ × List ℕ)) (coded× coded_text (coded× coded_text coded_text))
    (λ b. (b.account, (b.network, b.target)))
    (λ p. record { account = p.0; network = p.1.0; target = p.1.1 }) (λ _. refl)

abbrev pub coded_walk : Coded Walk
coded_walk =
    code_by (Store × Option Buffer) (coded× coded_store (coded_option coded_buffer))
    (λ w. (w.store, w.last)) (λ p. walk_after p.0 p.1) (λ _. refl)
