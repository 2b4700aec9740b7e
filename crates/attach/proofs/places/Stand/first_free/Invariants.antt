use Rattle.std.proofs.Common.{◌≡◌, None}
use Rattle.attach.proofs.places.Stand.first_free.Given as goal

abbrev pub invariant-loop-place : goal.invariant-loop-place
invariant-loop-place l = (l.hold.place ≡ None) × (l.hold.table ≡ l.initial.hold.table)
