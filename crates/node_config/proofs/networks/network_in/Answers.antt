use Rattle.node_config.proofs.networks.network_in.Goals as goal

pub returns : goal.returns
returns c = record {
  account = c.in_ok-account.ensures.value;
  name = c.in_ok-name.ensures.value;
  address = c.in_ok-address.ensures;
  nick = c.in_ok-nick.ensures.value;
  user = c.in_ok-user.ensures.value;
  channels = c.in_ok-channels.ensures.value;
}
