use Rattle.jxl_modular.proofs.Laid.{coded_sizes}
use Rattle.jxl_modular.proofs.PartNests.{part_nests}
use Rattle.jxl_modular.proofs.image.ModularImageDestination.read_part.Goals as goal

pub pieces-requires-clause-sides : goal.pieces-requires-clause-sides
pieces-requires-clause-sides g c = coded_sizes _ c.self.invariant.laid

pub read_layer-requires-after_bounds : goal.read_layer-requires-after_bounds
read_layer-requires-after_bounds g c κs within =
    let are = c.in_ok-pieces.ensures in
    rw (c.new.ensures.items, ← c.self.view_is)
    (part_nests _ c.self.invariant.laid c.args.passes.now c.args.part c.in_ok-pieces.pieces.items are.channels are.regions)

pub returns-clause-read : goal.returns-clause-read
returns-clause-read g c =
    let are = c.in_ok-pieces.ensures in
    rw (← c.self.view_is) (rw (are.channels, are.regions, c.new.ensures.items, ← c.self.view_is) at c.read_layer.ensures.read)

pub returns-clause-err : goal.returns-clause-err
returns-clause-err g c =
    let are = c.in_ok-pieces.ensures in
    rw (← c.self.view_is) (rw are.channels at c.read_layer.ensures.err)
