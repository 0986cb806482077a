-- What a frame is cut into, as its numbers.
use Rattle.jxl_codestream.specs.Layouts.{Layout}
use Rattle.jxl_codestream.specs.declared.layout.Layout.{Layout as LayoutInMemory}

abbrev pub parts_of : LayoutInMemory → Layout
parts_of l = record { groups = l.groups; lf_groups = l.lf_groups; passes = l.passes }
