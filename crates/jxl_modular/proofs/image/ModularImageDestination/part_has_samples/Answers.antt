use Rattle.jxlm_groups.proofs.PartChannels.{counts_cells}
use Rattle.jxlm_transform.specs.Lists.{list_of}
use Rattle.jxl_modular.proofs.image.ModularImageDestination.part_has_samples.Goals as goal

pub returns : goal.returns
returns g c =
    let iff = c.has_pieces.ensures in
    let counts = counts_cells c.self.inside.group_dim c.args.passes.now (list_of c.self.inside.coded) c.args.part in
    rw (← c.self.view_is) (λ t. counts.1 (iff.0 t), λ h. iff.1 (counts.0 h))
