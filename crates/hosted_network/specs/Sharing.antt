-- What clients are told of a batch, where the marker of a channel that was entered is known.
use Rattle.std.specs.Prelude.{ℕ, ◌≡◌, ◌&&◌, true, List, [], ◌∷◌, ◌++◌, Option, if◌then◌else◌}
use Rattle.irc_reply.specs.Reply.{mark_text}
use Rattle.chat_change.specs.Buffer.{buffer_of}
use Rattle.chat_change.specs.Buffers as buffers
use Rattle.chat_change.specs.declared.change.Change.{Change}
use Rattle.chat_history.specs.History.{mark}
use Rattle.chat_query.specs.Buffers.{has_buffer}
use Rattle.chat_query.specs.declared.facts.Facts.{Facts}
use Rattle.network_log.specs.Host.{BatchEntry, Entered}
use Rattle.network_log.specs.Share.{share_of, nick_by}

-- what a session is told of a channel's marker, where it is that
abbrev pub mark_line : Option ℕ → Facts → List ℕ → List ℕ
mark_line at f channel =
    if f.caps.read_marker && has_buffer f channel then mark_text f.cluster channel at else []

abbrev pub share_with : Option ℕ → Facts → List ℕ → BatchEntry → List ℕ
share_with at f nick (Entered channel) = mark_line at f channel
share_with at f nick entry = share_of [] f nick entry

abbrev pub told_with : Option ℕ → Facts → List ℕ → List BatchEntry → List ℕ
told_with at f nick [] = []
told_with at f nick (entry ∷ batch) =
    share_with at f nick entry ++ told_with at f (nick_by nick entry) batch

-- the marker of each channel that was entered is that, where the node holds these changes
abbrev pub IsMarked : List Change → Option ℕ → List ℕ → List ℕ → BatchEntry → Type 0
IsMarked held at account network (Entered channel) =
    buffers.has_buffer account network channel ≡ true
    → mark held (buffer_of account network channel) ≡ at
IsMarked held at account network _ = Unit {0}

abbrev pub AreMarked : List Change → Option ℕ → List ℕ → List ℕ → List BatchEntry → Type 0
AreMarked held at account network [] = Unit {0}
AreMarked held at account network (entry ∷ batch) =
    IsMarked held at account network entry × AreMarked held at account network batch
