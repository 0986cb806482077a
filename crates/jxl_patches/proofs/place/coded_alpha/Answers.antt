use Rattle.std.proofs.Common.{◌≡◌, ◌+◌, Some, false, refl, arith}
use Rattle.std.specs.Prelude.{nat_lt}
use Rattle.std.proofs.lemmas.Bool.{le-ltb}
use Rattle.jxlm_bits.specs.Bits.{position_of}
use Rattle.jxl_patches.proofs.place.coded_alpha.Goals as goal

pub returns-else-from-kinds-clause-gives : goal.returns-else-from-kinds-clause-gives
returns-else-from-kinds-clause-gives g c =
    let v = c.in_ok-value.value in
    let no : nat_lt (v + 1) c.args.kinds ≡ false = le-ltb (v + 1) c.args.kinds (omega (arith, c.from.ensures, c.if-from-kinds.false)) in
    record { place = Some (position_of c.token.new.bits); refuses = rw (c.in_ok-value.ensures.gives, no) refl; stands = refl }
