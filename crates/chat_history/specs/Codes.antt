-- Codes of keys, changes and what a state holds, so that a model's value can be made of them.
use Rattle.std.specs.Prelude.{ℕ, zero, suc, ◌≡◌, List, [], refl}
use Rattle.std.specs.Coded.{Coded, code_by, coded×, coded_ℕ, coded_list}
use Rattle.std.specs.FinMap as finite
use Rattle.chat_change.specs.declared.change.Change.{Change}
use Rattle.chat_change.specs.contracts.change.Change as change
use Rattle.chat_change.specs.Buffer.{Buffer}
use Rattle.chat_change.specs.Extent.{OfAccount, OfBuffer}
use Rattle.chat_change.specs.Key.{Key, FloorOf, MarkerOf, MessageOf, key_cmp}
use Rattle.chat_history.specs.History.{History}
use Rattle.chat_history.specs.StateValue.{StateValue}

-- a key is stored as its kind, the names of its buffer, or of its account alone, and its id
abbrev KeyCode : Type 0
KeyCode = ℕ × (List ℕ × (List ℕ × (List ℕ × List ℕ)))

abbrev code_of_key : Key → KeyCode
code_of_key (FloorOf (OfAccount a)) = (3, (a, ([], ([], []))))
code_of_key (FloorOf (OfBuffer b)) = (0, (b.account, (b.network, (b.target, []))))
code_of_key (MarkerOf b) = (1, (b.account, (b.network, (b.target, []))))
code_of_key (MessageOf b m) = (2, (b.account, (b.network, (b.target, m))))

abbrev of_kind : ℕ → Buffer → List ℕ → Key
of_kind zero b m = FloorOf (OfBuffer b)
of_kind (suc zero) b m = MarkerOf b
of_kind (suc (suc zero)) b m = MessageOf b m
of_kind (suc (suc (suc n))) b m = FloorOf (OfAccount b.account)

abbrev key_of_code : KeyCode → Key
key_of_code s =
    of_kind s.0 (record { account = s.1.0; network = s.1.1.0; target = s.1.1.1.0 }) s.1.1.1.1

pub key_of_code-code_of_key : (k : Key) → key_of_code (code_of_key k) ≡ k
key_of_code-code_of_key (FloorOf (OfAccount a)) = refl
key_of_code-code_of_key (FloorOf (OfBuffer b)) = refl
key_of_code-code_of_key (MarkerOf b) = refl
key_of_code-code_of_key (MessageOf b m) = refl

abbrev pub coded_text : Coded (List ℕ)
coded_text = coded_list coded_ℕ

abbrev pub coded_key_code : Coded KeyCode
coded_key_code =
    coded× coded_ℕ (coded× coded_text (coded× coded_text (coded× coded_text coded_text)))

abbrev pub coded_key : Coded Key
coded_key = code_by KeyCode coded_key_code code_of_key key_of_code key_of_code-code_of_key

abbrev pub coded_change : Coded Change
coded_change = (change.the_row).coded

abbrev pub coded_history : Coded History
coded_history = finite.code coded_key coded_change

abbrev pub coded_state : Coded StateValue
coded_state =
    code_by (History × (finite.FinMap key_cmp ℕ × ℕ))
    (coded× coded_history (coded× (finite.code coded_key coded_ℕ) coded_ℕ))
    (λ h. (h.history, (h.numbers, h.front)))
    (λ p. record { history = p.0; numbers = p.1.0; front = p.1.1 }) (λ _. refl)
