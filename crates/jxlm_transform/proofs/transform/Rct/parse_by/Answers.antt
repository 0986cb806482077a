use Rattle.std.proofs.Common.{◌∙◌, sym}
use Rattle.jxlm_bits.specs.Bits.{bytes_of, position_of}
use Rattle.jxlm_transform.proofs.TransformLaws.{rct_kept, rct_refused}
use Rattle.jxlm_transform.proofs.transform.Rct.parse_by.Goals as goal

pub returns-then-has_colour_kind-clause-gives : goal.returns-then-has_colour_kind-clause-gives
returns-then-has_colour_kind-clause-gives c =
    rct_kept (bytes_of c.args.bits.now) (position_of c.args.bits.now) c.args.tables c.in_ok-colour.colour (position_of c.parse.new.bits) c.in_ok-colour.ensures.gives (sym c.has_colour_kind.ensures ∙ c.if-has_colour_kind.true)

pub returns-else-has_colour_kind-clause-gives : goal.returns-else-has_colour_kind-clause-gives
returns-else-has_colour_kind-clause-gives c =
    rct_refused (bytes_of c.args.bits.now) (position_of c.args.bits.now) c.args.tables c.in_ok-colour.colour (position_of c.parse.new.bits) c.in_ok-colour.ensures.gives (sym c.has_colour_kind.ensures ∙ c.if-has_colour_kind.false)
