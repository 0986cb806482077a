use Rattle.std.proofs.Common.{◌+ℤ◌, ◌*ℤ◌, ◌∙◌, sym}
use Rattle.std.specs.Int.{w16, int_wrap}
use Rattle.std.proofs.lemmas.Int.{int_wrap-add_left, int_wrap-add_right, int_wrap-add_same, int_wrap-mul_left}
use Rattle.jxlm_bits.specs.Numbers.{unpack}
use Rattle.jxlm_base.specs.Inner.SampleLaws.{int_wrap-narrow}
use Rattle.jxlm_base.proofs.laws.narrow_samples_are_wide_ones_reduced.Goals as goal

pub returns-clause-unpacked : goal.returns-clause-unpacked
returns-clause-unpacked c = λ token. int_wrap-narrow (unpack token)

pub returns-clause-added : goal.returns-clause-added
returns-clause-added c = λ a b. int_wrap-narrow (a +ℤ b) ∙ sym (int_wrap-add_left w16 a b) ∙ sym (int_wrap-add_right w16 (int_wrap w16 a) b)

pub returns-clause-multiplied : goal.returns-clause-multiplied
returns-clause-multiplied c = λ a m d. int_wrap-narrow (a *ℤ m +ℤ d) ∙ sym (int_wrap-add_same w16 (int_wrap w16 a *ℤ m) (a *ℤ m) d (int_wrap-mul_left w16 a m))
