-- How the cluster's session with the server of a network stands.
use Rattle.std.specs.Prelude.{ℕ, Bool, not, List, [], ◌∷◌, ◌++◌, filter, if◌then◌else◌}
use Rattle.std.specs.List.{list_any}
use Rattle.std.specs.Str.{str_eq_ignore_ascii_case}

pub record Entry : Type 0 where
  pub is_up : Bool
  pub nick : List ℕ  -- the present nick
  pub channels : List (List ℕ)  -- those that it is in
  pub takes_redact : Bool  -- whether the server has `draft/message-redaction`

-- channels are compared without regard to case (casemapping `ascii`)
abbrev pub is_same_channel : List ℕ → List ℕ → Bool
is_same_channel channel other = str_eq_ignore_ascii_case other channel

-- the channel is last, unless it was among them
abbrev pub with_channel : List (List ℕ) → List ℕ → List (List ℕ)
with_channel channels channel =
    if list_any (is_same_channel channel) channels then channels else channels ++ channel ∷ []

abbrev pub without_channel : List (List ℕ) → List ℕ → List (List ℕ)
without_channel channels channel = filter (λ other. not (is_same_channel channel other)) channels

-- after a JOIN of one's own, and after a PART or a KICK
abbrev pub after_join : Entry → List ℕ → Entry
after_join entry channel = record entry { channels = with_channel entry.channels channel }

abbrev pub after_part : Entry → List ℕ → Entry
after_part entry channel = record entry { channels = without_channel entry.channels channel }
