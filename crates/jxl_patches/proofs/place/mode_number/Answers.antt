use Rattle.std.proofs.Common.{◌≡◌, Some, false, refl, arith}
use Rattle.std.specs.Prelude.{nat_lt}
use Rattle.std.proofs.lemmas.Bool.{le-ltb}
use Rattle.jxlm_bits.specs.Bits.{position_of}
use Rattle.jxl_patches.proofs.place.mode_number.Goals as goal

pub returns-else-value-lt8-clause-gives : goal.returns-else-value-lt8-clause-gives
returns-else-value-lt8-clause-gives g c =
    let v = c.in_ok-value.value in
    let no : nat_lt v 8 ≡ false = le-ltb v 8 (omega (arith, c.if-value-lt8.false)) in
    record { place = Some (position_of c.token.new.bits); refuses = rw (c.in_ok-value.ensures.gives, no) refl; stands = refl }
