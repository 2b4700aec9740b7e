-- Which words may stand in a line of the cluster.
use Rattle.std.specs.Prelude.{ℕ, ◌≤◌, ◌+◌, List, length}
use Rattle.std.specs.List.{AllByRecursion}
use Rattle.irc_line.specs.Line.{most_middles}
use Rattle.irc_line.specs.Text.{middles_text}
use Rattle.irc_line.specs.CanStand.{HasNoBadByte, CanBeSource, CanBeMiddle}

-- the most bytes of the name of a cluster
abbrev pub cluster_limit : ℕ
cluster_limit = 63

abbrev pub IsCluster : List ℕ → Type 0
IsCluster name = CanBeSource name × (length name ≤ cluster_limit)

-- the most bytes that the words and the text of a refusal have together, with a space before each word
abbrev pub refusal_limit : ℕ
refusal_limit = 439

-- words and the text behind them that may stand in a refusal
pub record CanBeRefusal (words : List (List ℕ)) (text : List ℕ) : Type 0 where
  pub words_stand : AllByRecursion CanBeMiddle words
  pub text_stands : HasNoBadByte text
  pub count : length words ≤ most_middles
  pub size : length (middles_text words) + length text ≤ refusal_limit

-- the most bytes of a target, and of a nick
abbrev pub target_limit : ℕ
target_limit = 200

-- the most bytes of another word that is repeated
abbrev pub word_limit : ℕ
word_limit = 64

-- a word of at most so many bytes that may stand before the last parameter
abbrev pub IsWordTo : ℕ → List ℕ → Type 0
IsWordTo most word = CanBeMiddle word × (length word ≤ most)
