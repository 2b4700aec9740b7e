-- What a contract sees of a counting client.
use Rattle.std.specs.Prelude.{ℕ, ◌+◌, ◌-◌, ◌^◌, List, length, min}
use Rattle.attach.specs.Attachment.{AttachmentState, new_client, with_line, without_first}

-- the client, and how many lines and bytes it accepted
pub record CountingClientState : Type 0 where
  pub client : AttachmentState
  pub lines : ℕ
  pub bytes : ℕ

-- at this number a count stays
abbrev pub greatest_count : ℕ
greatest_count = 2 ^ 64 - 1

-- a client that accepted nothing yet
abbrev pub new_counting_client : ℕ → ℕ → CountingClientState
new_counting_client place bound = record { client = new_client place bound; lines = 0; bytes = 0 }

-- one more line was accepted
abbrev pub with_counted_line : CountingClientState → List ℕ → CountingClientState
with_counted_line c line =
    record {
      client = with_line c.client line;
      lines = min (c.lines + 1) greatest_count;
      bytes = min (c.bytes + length line) greatest_count;
    }

-- so many of the first bytes are owed no more, and the counts stay
abbrev pub counting_without_first : CountingClientState → ℕ → CountingClientState
counting_without_first c n =
    record {
      client = without_first c.client n;
      lines = c.lines;
      bytes = c.bytes;
    }
