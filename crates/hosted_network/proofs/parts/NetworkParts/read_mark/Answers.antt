use Rattle.std.proofs.Common.{◌≡◌, ℕ, true, false, List, Option, Some, None, sym, ap, ◌∙◌, subst, rules}
use Rattle.std.specs.Option.{option_copied}
use Rattle.chat_change.specs.Buffer.{buffer_of}
use Rattle.chat_change.specs.Buffers.{has_buffer}
use Rattle.chat_change.specs.declared.change.Change.{Change}
use Rattle.chat_history.specs.History.{mark}
use Rattle.network_log.specs.Host.{Entered}
use Rattle.network_log.specs.NetworkState.{NetworkState}
use Rattle.network_server.specs.Entries.{entries}
use Rattle.network_server.specs.declared.batch.BatchPart.{BatchPart}
use Rattle.hosted_network.specs.Entering.{OnlyEntered}
use Rattle.hosted_network.specs.Sharing.{AreMarked, IsMarked}
use Rattle.hosted_network.proofs.WrittenLemmas.{marked-entries}
use Rattle.hosted_network.proofs.parts.NetworkParts.read_mark.Goals as goal

none-marked : (held : List Change) (at : Option ℕ) (account network : List ℕ) (channel : Option (List ℕ)) (parts : List BatchPart)
    → channel ≡ None → OnlyEntered channel parts → (changes : List Change) → AreMarked held at account network (entries parts changes)
none-marked held at account network channel parts none k changes =
    marked-entries held at account network channel parts (λ entered e. absurd (cc (none, e))) k changes

one-marked : (held : List Change) (at : Option ℕ) (account network : List ℕ) (channel : Option (List ℕ)) (one : List ℕ) (parts : List BatchPart)
    → channel ≡ Some one → (has_buffer account network one ≡ true → mark held (buffer_of account network one) ≡ at)
    → OnlyEntered channel parts → (changes : List Change) → AreMarked held at account network (entries parts changes)
one-marked held at account network channel one parts is marked k changes =
    marked-entries held at account network channel parts
    (λ entered e. let same : one ≡ entered = cc (is, e) in subst (λ (t : List ℕ). IsMarked held at account network (Entered t)) same marked) k changes

pub returns-in_default-channel-clause-read : goal.returns-in_default-channel-clause-read
returns-in_default-channel-clause-read g c =
    let none : option_copied c.in-Ok.channel ≡ None = search rules in
    none-marked c.args.self.now.held None c.args.self.now.config.account c.args.self.now.config.network (option_copied c.in-Ok.channel) c.args.parts.now none
    c.in-Ok.ensures

pub returns-then-not-has_buffer-clause-read : goal.returns-then-not-has_buffer-clause-read
returns-then-not-has_buffer-clause-read g c =
    let one = c.in-Some.channel.now in
    let is : option_copied c.in-Ok.channel ≡ Some one = ap option_copied c.in-Some.is in
    let account : c.as_bytes-account.result.now ≡ c.args.self.now.config.account = c.as_bytes-account.ensures ∙ ap (λ (v : NetworkState). v.config.account) c.self.view_is in
    let network : c.as_bytes-network.result.now ≡ c.args.self.now.config.network = c.as_bytes-network.ensures ∙ ap (λ (v : NetworkState). v.config.network) c.self.view_is in
    let has_none : has_buffer c.args.self.now.config.account c.args.self.now.config.network one ≡ false =
    sym (λ i. has_buffer (account i) (network i) one) ∙ sym c.has_buffer.ensures ∙ c.if-not-has_buffer.true in
    one-marked c.args.self.now.held None c.args.self.now.config.account c.args.self.now.config.network (option_copied c.in-Ok.channel) one c.args.parts.now is
    (λ has. absurd (cc (has, has_none))) c.in-Ok.ensures

pub returns-in-Ok-marker-clause-read : goal.returns-in-Ok-marker-clause-read
returns-in-Ok-marker-clause-read g c =
    let one = c.in-Some.channel.now in
    let is : option_copied c.in-Ok.channel ≡ Some one = ap option_copied c.in-Some.is in
    let account : c.as_bytes-account.result.now ≡ c.args.self.now.config.account = c.as_bytes-account.ensures ∙ ap (λ (v : NetworkState). v.config.account) c.self.view_is in
    let network : c.as_bytes-network.result.now ≡ c.args.self.now.config.network = c.as_bytes-network.ensures ∙ ap (λ (v : NetworkState). v.config.network) c.self.view_is in
    let held = g.V.NetworkView.held c.marker.new.view in
    one-marked held c.in-Ok-marker.marker c.args.self.now.config.account c.args.self.now.config.network (option_copied c.in-Ok.channel) one c.args.parts.now is
    (λ has. ap (mark held) (sym (c.in-Ok-lawful_buffer.ensures ∙ (λ i. buffer_of (account i) (network i) one))) ∙ sym c.in-Ok-marker.ensures.marker) c.in-Ok.ensures
