use Rattle.std.proofs.Common.{◌∙◌, ap}
use Rattle.chat_state.specs.LatestSince.{latest_since_in}
use Rattle.chat_state.proofs.SinceLemmas.{all_since}
use Rattle.chat_state.proofs.state.State.latest.Goals as goal

pub returns : goal.returns
returns c =
    let history = c.args.self.now.history in
    let account = c.args.account.now in
    let network = c.args.network.now in
    c.latest_since.ensures ∙ ap (latest_since_in history account network) c.first_moment.ensures ∙ all_since history account network
