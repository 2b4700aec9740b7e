use Rattle.std.proofs.Common.{◌≡◌, ◌∙◌, ℕ, List, rules, ap}
use Rattle.std.proofs.lemmas.Fn.{filter_same}
use Rattle.cluster_directory.specs.Entry.{Entry, without_channel, after_part}
use Rattle.cluster_directory.proofs.entry.Entry.part.Goals as goal

pub returns : goal.returns
returns c =
    let e : c.retain.new.self.items ≡ without_channel c.self.inside.channels.items c.args.channel.now = filter_same _ _ _ (λ x b f' k. search rules) _ _ c.retain.ensures.filtered in
    let with : List (List ℕ) → Entry = λ l. record { is_up = c.self.inside.is_up; nick = c.self.inside.nick; channels = l; takes_redact = c.self.inside.takes_redact } in
    ap with e ∙ ap (λ s. after_part s c.args.channel.now) c.self.view_is
