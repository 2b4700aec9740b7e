use Rattle.std.proofs.Common.{◌≡◌, ◌+◌, length, take}
use Rattle.std.specs.List.{count_by, zip}
use Rattle.std.specs.Int.{abs_diff}
use Rattle.cluster_directory.specs.Secret.{differs}
use Rattle.cluster_directory.proofs.secret.Secret.differing.Given as goal

-- the places so far, and the difference of the lengths
abbrev pub invariant-loop-i : goal.invariant-loop-i
invariant-loop-i l =
    l.differing ≡ count_by differs (take l.i (zip l.secret l.given)) + abs_diff (length l.secret) (length l.given)
