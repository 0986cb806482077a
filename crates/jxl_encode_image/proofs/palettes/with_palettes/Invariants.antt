use Rattle.jxl_encode_image.specs.Inner.Placing.{GoesOnTo, LieAlone}
use Rattle.jxl_encode_image.proofs.palettes.with_palettes.Given as goal

abbrev pub invariant-loop-plan : goal.invariant-loop-plan
invariant-loop-plan g l =
    LieAlone l.image.channels l.image.store.items
    × GoesOnTo g.S.Sealed.to_int g.S.Sealed.width l.fn.image.channels l.fn.image.store.items l.fn.image.transforms.items l.image.channels l.image.store.items l.image.transforms.items
