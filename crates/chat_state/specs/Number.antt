-- Numbers as keys of the index.
use Rattle.std.proofs.Common.{ℕ, ◌≡◌, ◌<◌, ◌-◌, ◌^◌, sym, arith}
use Rattle.std.specs.declared.cmp.Ordering.{Ordering}
use Rattle.std.specs.declared.cmp.Ordering.TheVariants.{Less}
use Rattle.std.specs.Ordering.{nat_cmp, flip_args}
use Rattle.std.specs.Cmp.{nat_cmp_is}

-- the greatest first
abbrev pub number_cmp : ℕ → ℕ → Ordering
number_cmp = flip_args nat_cmp

-- as the greatest comes first, the prefix is the less the greater the number is
abbrev pub number_prefix : ℕ → ℕ
number_prefix n = 2 ^ 64 - 1 - n

turned : (m a b : ℕ) → m - a < m - b → b < a
turned m a b h = omega arith

-- of two numbers with different prefixes, the one with the smaller comes first
pub number_ascends : (k l : ℕ) → number_prefix k < number_prefix l → number_cmp k l ≡ Less
number_ascends k l h = sym (nat_cmp_is l k Less (turned (2 ^ 64 - 1) k l h))
