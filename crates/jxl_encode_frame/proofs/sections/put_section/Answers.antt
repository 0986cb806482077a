use Rattle.jxl_codestream.specs.LayoutParts.{parts_of}
use Rattle.jxl_encode_frame.proofs.Numbers.{put_found, put_others}
use Rattle.jxl_encode_frame.proofs.sections.put_section.Goals as goal

pub returns-clause-found : goal.returns-clause-found
returns-clause-found c = rw c.section.ensures (put_found (parts_of c.args.layout.now) c.args.part c.requires.there c.args.sections.now c.requires.count c.args.bytes)

pub returns-clause-others : goal.returns-clause-others
returns-clause-others c = rw c.section.ensures (put_others (parts_of c.args.layout.now) c.args.part c.requires.there c.args.sections.now c.requires.count c.args.bytes)
