use Rattle.std.proofs.Common.{◌≡◌, map, take, ℤ}
use Rattle.jxlm_base.specs.Grid.{Grid}
use Rattle.jxl_netpbm.specs.Rasters.{Layer}
use Rattle.jxl_netpbm.specs.Layers.{layers_of}
use Rattle.jxl_netpbm.proofs.format.colour_layers.Given as goal

abbrev pub invariant-loop-grid : goal.invariant-loop-grid
invariant-loop-grid l =
    layers_of l.layers.items ≡ map {B = Layer} (λ (g : Grid ℤ). record { grid = g; own = l.own }) (take l.grid-index l.channels)
