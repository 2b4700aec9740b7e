-- A buffer: one conversation of one account on one network.
use Rattle.std.specs.Prelude.{ℕ, ◌≡◌, true, List, [], ◌∷◌}
use Rattle.chat_change.specs.Words.{is_name, is_target, lower_case_of}

-- the target is folded: its ASCII letters are in lower case
pub record Buffer : Type 0 where
  pub account : List ℕ
  pub network : List ℕ
  pub target : List ℕ

-- the buffer of these names: its target is folded
abbrev pub buffer_of : List ℕ → List ℕ → List ℕ → Buffer
buffer_of account network target = record {
  account = account;
  network = network;
  target = lower_case_of target;
}

-- the three names, in the order in which buffers are compared
abbrev pub buffer_texts : Buffer → List (List ℕ)
buffer_texts b = b.account ∷ b.network ∷ b.target ∷ []

-- its names are names, and its target is a target and folded
pub record IsLawfulBuffer (b : Buffer) : Type 0 where
  pub account : is_name b.account ≡ true
  pub network : is_name b.network ≡ true
  pub target : is_target b.target ≡ true
  pub folded : lower_case_of b.target ≡ b.target
