use Rattle.std.proofs.Common.{◌≡◌, List, [], ◌∷◌, refl, None}
use Rattle.std.specs.List.{slice_get}
use Rattle.chat_buffers.proofs.record_map.latest_in.Goals as goal

none_stand : {A : Type 0} (xs : List A) → None ≡ slice_get xs 0 → xs ≡ []
none_stand [] e = refl
none_stand (x ∷ xs) e = cc e

pub returns-in-None : goal.returns-in-None
returns-in-None c = none_stand c.args.records.now c.in-None.ensures.first
