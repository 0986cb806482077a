use Rattle.std.proofs.Common.{rules}
use Rattle.jxl_encode_image.specs.Inner.Placing.{LieAlone}
use Rattle.jxl_encode_image.proofs.palettes.with_palettes.Goals as goal

pub loop-plan-init : goal.loop-plan-init
loop-plan-init g c = (c.requires, λ given image h. h)

pub with_palette-requires : goal.with_palette-requires
with_palette-requires g c = let lie : LieAlone c.loop-plan.image.channels c.loop-plan.image.store.items = c.loop-plan.invariant.0 in search (rules, lie)

pub loop-plan-preserved : goal.loop-plan-preserved
loop-plan-preserved g c = (c.in_ok-image.ensures.lie, λ given image h. c.in_ok-image.ensures.goes given image (c.loop-plan.invariant.1 given image h))

pub returns : goal.returns
returns g c = record { lie = c.loop-plan.invariant.0; goes = c.loop-plan.invariant.1 }
