use Rattle.std.proofs.Common.{◌≡◌, ℕ, ◌<◌, eqb, ◌==◌, List, length, map, take, ap, ◌∙◌, arith, w8}
use Rattle.std.specs.List.{position_or_len}
use Rattle.std.proofs.lemmas.List.{length-take-le}
use Rattle.std.proofs.lemmas.Simd.{bitmask_splat, trailing_mask_l}
use lib.Count.{count_trailing_zeros}
use lib.Lanes.{mask_l}
use Rattle.byte_text.proofs.search.place_near.Goals as goal

-- the lowest mark is the first byte of that value
lowest_mark : (v : List ℕ) (byte m : ℕ) → length v ≡ 16 → m ≡ mask_l (map (λ b. b == byte) v) → (m ≡ 0 → ⊥) → count_trailing_zeros 64 m ≡ position_or_len (λ b. b == byte) v
lowest_mark v byte m long e some =
    let marked : 0 < mask_l (map (λ b. b == byte) v) = omega (arith, e, some) in
    ap (count_trailing_zeros 64) e ∙ trailing_mask_l (λ b. b == byte) 64 v (omega (arith, long)) marked

pub returns-else-found-eq0 : goal.returns-else-found-eq0
returns-else-found-eq0 c =
    let v = take 16 c.args.bytes.now in
    let long : length v ≡ 16 = length-take-le 16 c.args.bytes.now c.requires in
    lowest_mark v c.args.byte _ long (bitmask_splat w8 eqb v 16 c.args.byte long (omega arith)) c.if-found-eq0.false
