use Rattle.std.proofs.Common.{◌≡◌, Some, false, refl, arith}
use Rattle.std.specs.Prelude.{nat_le}
use Rattle.std.proofs.lemmas.Bool.{lt-leb}
use Rattle.jxlm_bits.specs.Bits.{position_of}
use Rattle.jxl_patches.specs.Patches.{most_rectangles}
use Rattle.jxl_patches.proofs.source.rectangle_count.Goals as goal

pub returns-else-from-most-clause-gives : goal.returns-else-from-most-clause-gives
returns-else-from-most-clause-gives g c =
    let v = c.in_ok-value.value in
    let no : nat_le v (most_rectangles c.args.size) ≡ false = lt-leb v (most_rectangles c.args.size) (omega (arith, c.most.ensures.value, c.if-from-most.false)) in
    record { place = Some (position_of c.token.new.bits); refuses = rw (c.in_ok-value.ensures.gives, no) refl; stands = refl }
