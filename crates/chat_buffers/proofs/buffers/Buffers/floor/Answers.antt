use Rattle.std.proofs.Common.{◌∙◌, sym, ap}
use Rattle.std.specs.Option.{option_map}
use Rattle.chat_change.specs.Extent.{value_of}
use Rattle.chat_change.specs.Key.{floor_change}
use Rattle.chat_buffers.specs.Store.{Numbered}
use Rattle.chat_buffers.proofs.LookupLemmas.{piece_moment}
use Rattle.chat_buffers.proofs.buffers.Buffers.floor.Goals as goal

pub returns : goal.returns
returns c =
    let e = value_of c.args.extent.now in
    ap (option_map (λ (p : Numbered). p.change)) c.own_floor.ensures ∙ piece_moment e c.own_floor.result ∙ ap (option_map (floor_change e)) (sym c.moment_of.ensures)
