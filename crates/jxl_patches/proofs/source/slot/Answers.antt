use Rattle.std.proofs.Common.{◌≡◌, None, Some, false, get_or, refl, rules}
use Rattle.std.specs.Prelude.{is_some}
use Rattle.jxlm_bits.specs.Bits.{position_of}
use Rattle.jxl_patches.specs.SavedParts.{sizes_in}
use Rattle.jxl_patches.proofs.source.slot.Goals as goal

pub returns-else-is_some-clause-gives : goal.returns-else-is_some-clause-gives
returns-else-is_some-clause-gives g c =
    let v = c.in_ok-value.value in
    let no : is_some (get_or (sizes_in c.args.slots.now) v None) ≡ false = search rules in
    record { place = Some (position_of c.token.new.bits); refuses = rw (c.in_ok-value.ensures.gives, no) refl; stands = refl }
