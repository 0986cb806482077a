use Rattle.jxl_modular.proofs.Shown.{shown_only, shown_sizes}
use Rattle.jxl_modular.proofs.image.ModularImageDestination.shown.Goals as goal

pub returns-clause-only : goal.returns-clause-only
returns-clause-only g c =
    shown_only g.S.Sealed.to_int g.S.Sealed.width c.args.self.now c.in_ok-copy.copy c.undo_transforms.new.self c.in_ok-copy.ensures.ok c.in_ok-undo_transforms.ensures.same
    c.into_image_channels.result.items c.into_image_channels.ensures.grids c.in_ok-undo_transforms.ensures.only

pub returns-clause-sizes : goal.returns-clause-sizes
returns-clause-sizes g c =
    shown_sizes g.S.Sealed.to_int g.S.Sealed.width c.args.self.now c.in_ok-copy.copy c.undo_transforms.new.self c.in_ok-copy.ensures.ok c.in_ok-undo_transforms.ensures.same
    c.into_image_channels.result.items c.into_image_channels.ensures.sizes
