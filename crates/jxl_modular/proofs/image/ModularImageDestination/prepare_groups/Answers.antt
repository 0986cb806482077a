use Rattle.std.proofs.Common.{rules}
use Rattle.jxl_modular.proofs.OtherParts.{each_once}
use Rattle.jxl_modular.proofs.image.ModularImageDestination.prepare_groups.Goals as goal

pub returns : goal.returns
returns g c = (
  search rules,
  record {
    rests = search rules;
    same_reference = search rules;
    unchanged = search rules;
    passes = search rules;
    cut = search rules;
    once = rw c.in_ok-passes.ensures (each_once _ c.in_ok-check_cut.ensures.laid _ (record { groups = c.requires.possible; cells = c.in_ok-check_cut.ensures.ok }));
    new = search rules;
    err = search rules;
  },
)
