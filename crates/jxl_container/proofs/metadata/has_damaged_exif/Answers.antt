use Rattle.std.proofs.Common.{Option, ap, ◌∙◌}
use Rattle.std.specs.Prelude.{is_some}
use Rattle.jxl_container.specs.declared.boxes.FileBox.{FileBox}
use Rattle.jxl_container.proofs.Searches.{is_some-found}
use Rattle.jxl_container.proofs.metadata.has_damaged_exif.Goals as goal

pub returns : goal.returns
returns c =
    let first = c.first_box.ensures.first in
    (first.0, first.1, c.is_some.ensures ∙ ap (λ (o : Option FileBox). is_some o) first.2 ∙ is_some-found _ first.0)
