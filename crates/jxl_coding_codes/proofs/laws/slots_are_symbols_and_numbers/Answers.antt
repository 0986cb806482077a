use Rattle.jxl_coding_codes.proofs.BucketSlots.{alias_slots}
use Rattle.jxl_coding_codes.proofs.laws.slots_are_symbols_and_numbers.Goals as goal

pub returns : goal.returns
returns c = alias_slots
