use Rattle.std.proofs.Common.{◌∙◌}
use Rattle.jxl_picture.proofs.Singles.{magnitude_is, mantissa_small, negative_is, positive_is}
use Rattle.jxl_picture.proofs.floats.narrow_bits.Goals as goal

pub wide_magnitude-magnitude-requires-clause-mantissa : goal.wide_magnitude-magnitude-requires-clause-mantissa
wide_magnitude-magnitude-requires-clause-mantissa c = mantissa_small c.args.depth c.args.bits c.requires.float

pub returns-then-bits-depth-eq0 : goal.returns-then-bits-depth-eq0
returns-then-bits-depth-eq0 c =
    positive_is c.args.depth c.args.bits c.requires.float c.if-bits-depth-eq0.true c.wide_magnitude-magnitude.result (c.wide_magnitude-magnitude.ensures.gives ∙ magnitude_is c.args.depth c.args.bits c.requires.float)

pub returns-else-bits-depth-eq0 : goal.returns-else-bits-depth-eq0
returns-else-bits-depth-eq0 c =
    negative_is c.args.depth c.args.bits c.requires.float c.if-bits-depth-eq0.false c.wide_magnitude-magnitude.result (c.wide_magnitude-magnitude.ensures.gives ∙ magnitude_is c.args.depth c.args.bits c.requires.float)
