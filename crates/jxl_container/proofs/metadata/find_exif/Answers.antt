use Rattle.std.proofs.Common.{Option, ap, ◌∙◌}
use Rattle.std.specs.Prelude.{slice_range}
use Rattle.std.specs.Option.{option_map}
use Rattle.jxl_container.specs.Metadata.{exif_start}
use Rattle.jxl_container.specs.declared.boxes.FileBox.{FileBox}
use Rattle.jxl_container.proofs.metadata.find_exif.Goals as goal

pub returns : goal.returns
returns c =
    let first = c.first_box.ensures.first in
    (first.0, first.1, c.exif_of.ensures ∙ ap (λ (o : Option FileBox). option_map (λ b. slice_range c.args.file.now (exif_start c.args.file.now b) b.end) o) first.2)
