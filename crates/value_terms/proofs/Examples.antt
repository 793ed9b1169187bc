-- Normal forms, computed.
use Rattle.std.proofs.Common.{refl}
use Rattle.value_terms.specs.Sums.{simple, sum_of, opposite, negated}
use Rattle.value_terms.specs.Bits.{bit_plain, bit, quotient, same_simple, same_two, same_flag, same_scaled, same, choice}
use Rattle.value_terms.specs.Masks.{ordered, mask_plain, mask_number, mask, exclusive_number, exclusive}
use Rattle.value_terms.specs.Carries.{exceeds, carry_number, carry_ordered, carry_any, carry}
use Rattle.value_terms.specs.Samples.{Samples}

pub samples : Samples
unfolding simple sum_of opposite negated bit_plain bit quotient same_simple same_two same_flag same_scaled same choice ordered mask_plain mask_number mask exclusive_number exclusive exceeds carry_number carry_ordered carry_any carry
samples = record {
  in_order = refl;
  back = refl;
  twice = refl;
  doubled = refl;
  difference = refl;
  exclusive_or = refl;
  shifted = refl;
  masked = refl;
  tested = refl;
  nothing = refl;
  half = refl;
  compared = refl;
  complemented = refl;
  turned = refl;
  raised = refl;
  left = refl;
  incremented = refl;
  chosen = refl;
  divided = refl;
  other = refl;
}
