-- The buffers of a session.
use Rattle.std.specs.Prelude.{ℕ, Bool, List}
use Rattle.chat_change.specs.Buffers as buffers
use Rattle.chat_query.specs.Scope as scope
use Rattle.chat_query.specs.declared.facts.Facts.{Facts}

-- a session whose account or network is no name has no buffers
abbrev pub has_buffers : Facts → Bool
has_buffers facts = buffers.has_buffers facts.account facts.network

-- a target has a buffer of the session
abbrev pub has_buffer : Facts → List ℕ → Bool
has_buffer facts target = buffers.has_buffer facts.account facts.network target

abbrev pub scope_of : Facts → scope.Scope
scope_of facts = record {
  account = facts.account;
  network = facts.network;
  maximum = facts.maximum;
}
