-- What a contract sees of a clerk and of a stand.
use Rattle.std.specs.Prelude.{ℕ}
use Rattle.atomic_table.specs.Seated.{TableId}

-- the table whose places are handed out, and how many there are
pub record ClerkState : Type 0 where
  pub table : TableId
  pub count : ℕ

-- the table of the place that a stand holds, and the place
pub record StandState : Type 0 where
  pub table : TableId
  pub place : ℕ
