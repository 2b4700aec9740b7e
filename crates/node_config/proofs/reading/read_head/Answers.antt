use Rattle.node_config.proofs.reading.read_head.Goals as goal

pub returns-clause-values : goal.returns-clause-values
returns-clause-values c = record {
  name = c.in_ok-name.ensures.value;
  node = c.in_ok-node.ensures;
  listen = c.in_ok-listen.ensures;
  peer_listen = c.in_ok-peer_listen.ensures;
  peer_word = c.in_ok-peer_word.ensures;
}
