-- What a client is told of what comes of its server's lines.
use Rattle.std.specs.Prelude.{ℕ, ◌||◌, ◌&&◌, Bool, List, [], ◌∷◌, ◌++◌, codes, Option, None, Some, if◌then◌else◌}
use Rattle.std.specs.Str.{bytes_eq}
use Rattle.byte_text.specs.Bytes.{line_ending}
use Rattle.irc_reply.specs.Reply.{mark_text}
use Rattle.chat_change.specs.Buffer.{buffer_of}
use Rattle.chat_change.specs.declared.change.Change.{Change}
use Rattle.chat_change.specs.declared.change.Change.TheVariants.{Post}
use Rattle.chat_history.specs.History.{mark}
use Rattle.chat_query.specs.Buffers.{has_buffer}
use Rattle.chat_query.specs.declared.facts.Facts.{Facts}
use Rattle.chat_query.specs.Message.{live_text}
use Rattle.client_session.specs.Hearers.{hears_message, is_recipient}
use Rattle.client_session.specs.Session.{facts_in}
use Rattle.network_log.specs.Guest.{Guest}
use Rattle.network_log.specs.Host.{BatchEntry, Posted, PassedOn, Renamed, Entered}

-- The line by which a client learns that its nick is another one (RFC 2812, section 3.1.2).
abbrev pub renaming_line : List ℕ → List ℕ → List ℕ
renaming_line old new = codes ":" ++ old ++ codes " NICK " ++ new ++ line_ending

-- ---- read markers (IRCv3 draft/read-marker)

-- what a session that follows read markers is told of the target's, where it has one
abbrev pub marker_text : List Change → Facts → List ℕ → List ℕ
marker_text held f target =
    if f.caps.read_marker && has_buffer f target
    then mark_text f.cluster target (mark held (buffer_of f.account f.network target)) else []

-- ---- one entry

abbrev pub posted_text : Facts → Bool → Change → List ℕ
posted_text f is_own (Post r) = if hears_message is_own r f then live_text f.caps r else []
posted_text f is_own _ = []

-- what a session is told of an entry whose client knows that nick, where the node holds these changes
abbrev pub share_of : List Change → Facts → List ℕ → BatchEntry → List ℕ
share_of held f nick (Posted change is_own) = posted_text f is_own change
share_of held f nick (PassedOn text to) = if is_recipient to f then text else []
share_of held f nick (Renamed new is_passed_on) =
    if is_passed_on || bytes_eq nick new then [] else renaming_line nick new
share_of held f nick (Entered channel) = marker_text held f channel

-- the nick that a client knows after that
abbrev pub nick_by : List ℕ → BatchEntry → List ℕ
nick_by nick (Renamed new is_passed_on) = new
nick_by nick _ = nick

-- ---- a batch, of which each entry is told behind the one before

abbrev pub told_to : List Change → Facts → List ℕ → List BatchEntry → List ℕ
told_to held f nick [] = []
told_to held f nick (entry ∷ batch) =
    share_of held f nick entry ++ told_to held f (nick_by nick entry) batch

abbrev pub nick_by_all : List ℕ → List BatchEntry → List ℕ
nick_by_all nick [] = nick
nick_by_all nick (entry ∷ batch) = nick_by_all (nick_by nick entry) batch

-- ---- clients

-- a client with a registered session is told that, and no other, and not one that is gone
abbrev pub with_text : (Facts → List ℕ) → Guest → Option Facts → Guest
with_text text g None = g
with_text text g (Some f) = if g.is_gone then g else record g { told = g.told ++ text f }

abbrev pub with_batch : List Change → List BatchEntry → Guest → Option Facts → Guest
with_batch held batch g None = g
with_batch held batch g (Some f) =
    if g.is_gone then g
    else record g {
      told = g.told ++ told_to held f g.nick batch;
      nick = nick_by_all g.nick batch;
    }

-- the client hears a batch
abbrev pub hears_batch : List Change → List BatchEntry → Guest → Guest
hears_batch held batch g = with_batch held batch g (facts_in g.session)

-- the client is told a marker
abbrev pub hears_marker : List Change → List ℕ → Guest → Guest
hears_marker held target g = with_text (λ f. marker_text held f target) g (facts_in g.session)
