-- The order of texts is total, and only equal texts tie.
use Rattle.std.specs.FinMap.{slice_cmp-IsAntisymmetric}
use Rattle.std.specs.Cmp.{IsTotalOrder}
use Rattle.std.proofs.lemmas.Cmp.{nat_cmp_total, lists_total}
use Rattle.std.proofs.lemmas.Map.Lookups.{CmpEqualImpliesEq, exact_unsigned}
use Rattle.byte_text.specs.Order.{text_cmp}

pub text_total : IsTotalOrder text_cmp
text_total = lists_total nat_cmp_total

pub text_exact : CmpEqualImpliesEq text_cmp
text_exact = slice_cmp-IsAntisymmetric exact_unsigned
