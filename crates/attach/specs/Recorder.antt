-- What a contract sees of a recorder.
use Rattle.std.specs.Prelude.{ℕ, List, [], ◌++◌}
use Rattle.circular_buffer.specs.Buffer.{keep_last}
use Rattle.attach.specs.Attachment.{AttachmentState, new_client, with_line, without_first}

-- the client, and the last bytes that it accepted
pub record RecorderState : Type 0 where
  pub client : AttachmentState
  pub recorded : List ℕ

-- a recorder that accepted nothing yet
abbrev pub new_recorder : ℕ → ℕ → RecorderState
new_recorder place bound = record { client = new_client place bound; recorded = [] }

-- one more line was accepted: of the record and the line the last bytes are kept, as many as may
-- be owed
abbrev pub with_recorded_line : RecorderState → List ℕ → RecorderState
with_recorded_line c line =
    record {
      client = with_line c.client line;
      recorded = keep_last c.client.bound (c.recorded ++ line);
    }

-- so many of the first bytes are owed no more, and the record stays
abbrev pub recording_without_first : RecorderState → ℕ → RecorderState
recording_without_first c n = record { client = without_first c.client n; recorded = c.recorded }
