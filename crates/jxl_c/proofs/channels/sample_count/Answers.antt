use Rattle.std.proofs.Common.{◌^◌, ◌<◌, ap, ◌∙◌, sym, subst}
use Rattle.jxl_image_header.specs.Images.{image_of}
use Rattle.jxl_image_header.specs.declared.size.Size.{Size}
use Rattle.jxl_c_picture.specs.Channels.{sample_count, shown_as}
use Rattle.jxl_c.proofs.channels.sample_count.Goals as goal

pub sample_count-requires-clause-small : goal.sample_count-requires-clause-small
sample_count-requires-clause-small c = subst (λ (s : Size). sample_count (shown_as s (image_of c.args.header.now)) < 2 ^ 64) (sym c.shown_size.ensures) c.requires.small

pub returns : goal.returns
returns c = c.sample_count.ensures ∙ ap (λ (s : Size). sample_count (shown_as s (image_of c.args.header.now))) c.shown_size.ensures
