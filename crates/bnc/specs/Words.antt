-- What the words behind the program's name ask for.
use Rattle.std.specs.Prelude.{ℕ, List, [], ◌∷◌, codes, bytes_eq, Option, None, Some, if◌then◌else◌}
use Rattle.bnc.specs.declared.words.ReplayNames as held
use Rattle.bnc.specs.declared.words.Command as code
use Rattle.bnc.specs.declared.words.Command.TheVariants as variant

pub record Names : Type 0 where
  pub account : List ℕ
  pub network : List ℕ
  pub nick : List ℕ

pub data Command : Type 0 where
  Replay : (names : Names) → Command
  Serve : (path : List ℕ) → Command

abbrev pub serve_of : (word path : List ℕ) → Option Command
serve_of word path = if bytes_eq word (codes "serve") then Some (Serve path) else None

abbrev pub replay_of : (word : List ℕ) → Names → Option Command
replay_of word names = if bytes_eq word (codes "replay") then Some (Replay names) else None

abbrev pub spelled_command : List (List ℕ) → Option Command
spelled_command (word ∷ path ∷ []) = serve_of word path
spelled_command (word ∷ account ∷ network ∷ nick ∷ []) =
    replay_of word (record { account = account; network = network; nick = nick })
spelled_command _ = None

-- ---- what the code has for them

abbrev pub names_of : held.ReplayNames → Names
names_of names =
    record { account = names.account.now; network = names.network.now; nick = names.nick.now }

abbrev pub value_of : code.Command → Command
value_of (variant.Replay names) = Replay (names_of names)
value_of (variant.Serve path) = Serve path.now
