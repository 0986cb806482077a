use Rattle.jxlm_bits.proofs.GrammarLaws.{exact-number, exact-flag, exact-u32}
use Rattle.jxlm_bits.proofs.bit_laws.fields_are_read_exactly.Goals as goal

pub returns : goal.returns
returns c = record { number = exact-number; flag = exact-flag; u32 = exact-u32 }
