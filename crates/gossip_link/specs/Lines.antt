-- The lines of a connection, in turn. What is published, acknowledged and timed meanwhile plays no part in them.
use Rattle.std.specs.Prelude.{List, [], ◌∷◌, Option}
use Rattle.peer_lines.specs.declared.peer_line.PeerLine.{PeerLine}
use Rattle.cluster_directory.specs.Terms.{Terms}
use Rattle.gossip_link.specs.declared.handshake.Side.{Side}
use Rattle.gossip_link.specs.Session.{Session, Step, new, step}

abbrev pub after_lines : Terms → Session → List (Option PeerLine) → Session
after_lines t s [] = s
after_lines t s (line ∷ lines) = after_lines t (step t s line).session lines

-- what comes of a line, after these
abbrev pub last_step : Terms → Side → List (Option PeerLine) → Option PeerLine → Step
last_step t side before line = step t (after_lines t (new side) before) line
