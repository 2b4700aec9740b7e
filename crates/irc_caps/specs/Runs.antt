-- Lists of lines, each with the name of the cluster and the nick of its moment.
use Rattle.std.specs.Prelude.{◌≡◌, ℕ, List, [], ◌∷◌, ◌++◌, codes, ◌⊎◌, if◌then◌else◌}
use Rattle.std.specs.List.{AllByRecursion}
use Rattle.irc_line.specs.Line.{Reading}
use Rattle.irc_caps.specs.declared.capability.Capability.{Capability}
use Rattle.irc_caps.specs.Capability.{name_of}
use Rattle.irc_caps.specs.Words.{words_of, is_acknowledged}
use Rattle.irc_caps.specs.Negotiation.{Negotiation, answer, is_same_word, list_in}

pub record Input : Type 0 where
  pub cluster : List ℕ
  pub nick : List ℕ
  pub line : Reading

abbrev pub after : Negotiation → Input → Negotiation
after n i = (answer i.cluster i.nick n i.line).negotiation

-- the negotiation after each line in turn
abbrev pub run : Negotiation → List Input → Negotiation
run n [] = n
run n (i ∷ inputs) = run (after n i) inputs

-- ---- the words of REQ

-- the words of the list that the parameters of a CAP ask for
abbrev pub asked : List (List ℕ) → List (List ℕ)
asked [] = []
asked (subcommand ∷ parameters) =
    if is_same_word subcommand (codes "REQ") then words_of (list_in parameters) else []

abbrev pub if_acknowledged : List (List ℕ) → List (List ℕ)
if_acknowledged words = if is_acknowledged words then words else []

-- the words of a line, if it is a REQ that is acknowledged
abbrev pub acknowledged_in : Reading → List (List ℕ)
acknowledged_in line =
    if is_same_word line.command (codes "CAP") then if_acknowledged (asked line.parameters) else []

-- the words of all REQ that are acknowledged, in their order
abbrev pub acknowledged : List Input → List (List ℕ)
acknowledged [] = []
acknowledged (i ∷ inputs) = acknowledged_in i.line ++ acknowledged inputs

-- ---- what is held

-- the word names the capability, with `-` or without
abbrev pub Names : Capability → List ℕ → Type 0
Names c word = (word ≡ name_of c) ⊎ (word ≡ 45 ∷ name_of c)

abbrev pub NoneNames : Capability → List (List ℕ) → Type 0
NoneNames c words = AllByRecursion (λ word. ¬ Names c word) words

-- a word names the capability, and the last that does has no `-`
abbrev pub IsAskedLast : Capability → List (List ℕ) → Type 0
IsAskedLast c words =
    (before later : List (List ℕ)) × (words ≡ before ++ name_of c ∷ later) × NoneNames c later
