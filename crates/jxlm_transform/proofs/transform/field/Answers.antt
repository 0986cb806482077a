use Rattle.jxlm_bits.specs.Bits.{bytes_of, position_of}
use Rattle.jxlm_bits.proofs.FieldRanges.{at_least, at_most}
use Rattle.jxlm_transform.proofs.transform.field.Goals as goal

pub returns-clause-minimum : goal.returns-clause-minimum
returns-clause-minimum c = at_least _ _ _ _ (bytes_of c.args.bits.now) (position_of c.args.bits.now) _ _ c.read_u32.ensures.gives

pub returns-clause-maximum : goal.returns-clause-maximum
returns-clause-maximum c = at_most _ _ _ _ (bytes_of c.args.bits.now) (position_of c.args.bits.now) _ _ c.read_u32.ensures.gives
