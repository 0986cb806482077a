use Rattle.std.proofs.Common.{ap}
use Rattle.jxlm_transform.specs.Channels.{infos, regions}
use Rattle.jxl_modular.proofs.LayerNests.{layer_nests}
use Rattle.jxl_modular.proofs.image.ModularImageDestination.read_within.Goals as goal

pub read_layer-requires-after_bounds : goal.read_layer-requires-after_bounds
read_layer-requires-after_bounds g c κs within =
    let stands = rw (← c.outer.view_is) at c.requires in
    layer_nests c.outer.inside.part c.outer.inside.given.items c.outer.inside.tables.items c.outer.invariant c.args.self.now.store stands.lie stands.count c.into_channels.result.items (ap (λ v. infos v.items) c.into_channels.ensures) (ap (λ v. regions v.items) c.into_channels.ensures)
