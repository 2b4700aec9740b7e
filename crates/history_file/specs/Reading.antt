-- What is read so far.
use Rattle.std.specs.Prelude.{ℕ, ◌≡◌, List, ◌++◌, drop}
use Rattle.chat_change.specs.declared.change.Change.{Change}
use Rattle.block_file.specs.Ending.{IsTornEnd}
use Rattle.block_file.specs.Found.{IsReading, HasRead}
use Rattle.history_file.specs.Changes.{AreLawful, AreTexts, Past, Entry, IsLawfulEntry, entry_text, text_of}
use Rattle.history_file.specs.declared.reading.PastReader.{PastReader}

-- the lines of some changes are read of a payload, and they stand behind those from before
pub record ReadSoFar (payload : List ℕ) (before now : List Change) (rest : List ℕ) : Type 0 where
  pub more : List Change
  pub lawful : AreLawful more
  pub read : payload ≡ text_of more ++ rest
  pub pushed : now ≡ before ++ more

-- what was read of a file so far says this past
pub record IsReadingPast {S : Type 0} (got : S → List ℕ) (reader : PastReader S) (past : Past) : Type 0 where
  pub payloads : List (List ℕ)
  pub reading : IsReading got reader.blocks payloads
  pub spelled : AreTexts payloads past
  pub life : reader.life ≡ past.life

-- A file stands for this past, its blocks are so long, and what stands behind them is the end of an append that was cut short.
pub record HasReadPast (file : List ℕ) (past : Past) (end : ℕ) : Type 0 where
  pub payloads : List (List ℕ)
  pub read : HasRead file payloads end
  pub spelled : AreTexts payloads past
  pub torn : IsTornEnd (drop end file)

-- A file has blocks that are so long together, and what stands behind them is no end of an append that was cut short.
pub record HasDamage (file : List ℕ) (end : ℕ) : Type 0 where
  pub payloads : List (List ℕ)
  pub read : HasRead file payloads end
  pub behind : IsTornEnd (drop end file) → ⊥

-- a payload that is the text of no entry
abbrev pub IsNoEntry : List ℕ → Type 0
IsNoEntry payload = (e : Entry) → IsLawfulEntry e → payload ≡ entry_text e → ⊥
