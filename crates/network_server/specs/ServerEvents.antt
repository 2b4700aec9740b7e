-- Which events of a network's log change its server.
use Rattle.std.specs.Prelude.{ℕ, ◌≡◌, List, [], Some}
use Rattle.network_log.specs.Facts.{NodeFacts}
use Rattle.network_log.specs.Host.{Host, BatchEntry}
use Rattle.network_log.specs.NetworkState.{NetworkState}
use Rattle.network_log.specs.Log.{NetworkEvent, ServerSays, Loses, step, without_server, after_saying_to}

-- That event makes this of the server of a network, and changes nothing else of the network.
abbrev pub Becomes : NodeFacts → NetworkEvent → Host → Host → Type 0
Becomes facts event before after = (w : NetworkState)
    → w.server ≡ Some before
    → step facts event w ≡ record w { server = Some after }

-- That event makes this of the server and of the batch, and changes nothing else.
abbrev pub Makes : NodeFacts → NetworkEvent → Host → List BatchEntry → Host → List BatchEntry → Type 0
Makes facts event before batch after later = (w : NetworkState)
    → w.server ≡ Some before
    → w.batch ≡ batch
    → step facts event w ≡ record w { server = Some after; batch = later }

-- The session hears its next line at that moment, and the batch is let go: no more is left of the server than of the one after.
abbrev pub LosesLine : NodeFacts → ℕ → Host → Host → Type 0
LosesLine facts now before after = (w : NetworkState)
    → w.server ≡ Some before
    → step facts Loses (step facts (ServerSays now) w)
    ≡ without_server (Some after) (record w { batch = [] })

-- A client's line that is said to the server at that moment makes this of the server and of the batch, and changes nothing else.
abbrev pub IsSaid : ℕ → List ℕ → Host → List BatchEntry → Host → List BatchEntry → Type 0
IsSaid now text before batch after later = (w : NetworkState)
    → w.server ≡ Some before
    → w.batch ≡ batch
    → after_saying_to w now text w.server ≡ record w { server = Some after; batch = later }

-- It is said, and the batch is let go.
abbrev pub LosesSaid : NodeFacts → ℕ → List ℕ → Host → Host → Type 0
LosesSaid facts now text before after = (w : NetworkState)
    → w.server ≡ Some before
    → step facts Loses (after_saying_to w now text w.server)
    ≡ without_server (Some after) (record w { batch = [] })
