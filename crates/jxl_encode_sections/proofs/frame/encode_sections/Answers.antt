use Rattle.std.proofs.Common.{◌≡◌, List, length, refl, subst, sym, arith}
use Rattle.std.specs.List.{All}
use Rattle.std.proofs.lemmas.List.{length-map}
use Rattle.jxlm_base.specs.Regions.{store_meanings}
use Rattle.jxlm_transform.specs.Transforms.{Transform}
use Rattle.jxl_codestream.specs.LayoutParts.{parts_of}
use Rattle.jxl_encode_image.specs.Preparations.{IsSpelled, image_transforms, transform_listed}
use Rattle.jxl_encode_sections.proofs.CodedLists.{cells_are_cut, one_is_global}
use Rattle.jxl_encode_sections.proofs.EncodedFrames.{encoded, there}
use Rattle.jxl_encode_sections.proofs.frame.encode_sections.Goals as goal

pub sections_of_coded-requires-clause-transforms : goal.sections_of_coded-requires-clause-transforms
sections_of_coded-requires-clause-transforms g c = λ κs within.
    let coded = c.in_ok-coded.ensures in
    let few = coded.ready.accepted.few in
    let same = subst (λ (ts : List Transform). length ts ≡ length (image_transforms c.in_ok-coded.coded.transforms.items)) (sym coded.transforms_are) refl in
    let long = length-map c.in_ok-coded.coded.transforms.items transform_listed in
    omega (arith, few, same, long)

pub sections_of_coded-requires-clause-spelled : goal.sections_of_coded-requires-clause-spelled
sections_of_coded-requires-clause-spelled g c = λ κs within. let coded = c.in_ok-coded.ensures in subst (All IsSpelled) coded.transforms_are coded.ready.accepted.spelled

pub sections_of_coded-requires-clause-there : goal.sections_of_coded-requires-clause-there
sections_of_coded-requires-clause-there g c κs within =
    let frame = c.requires.layout in
    let l = parts_of c.args.cut.now.layout.now in
    let ts = c.in_ok-coded.coded.transforms.items in
    let image = store_meanings g.S.Sealed.to_int c.args.grids.items in
    let channels = c.in_ok-coded.coded.channels in
    let store = c.in_ok-coded.coded.store.items in
    let coded = c.in_ok-coded.ensures in
    there g.S.Sealed.to_int g.S.Sealed.width (image_transforms ts) c.args.given.now image channels store coded c.args.cut.now.group_dim c.requires.group_dim c.requires.valid frame.0 frame.1 l frame.2
    (one_is_global g.S.Sealed.to_int g.S.Sealed.width ts c.args.given.now image channels store coded c.args.cut.now.group_dim c.requires.group_dim c.requires.valid frame.0 frame.1 l frame.2)

pub returns-clause-ok : goal.returns-clause-ok
returns-clause-ok g c =
    let frame = c.requires.layout in
    let l = parts_of c.args.cut.now.layout.now in
    let ts = c.in_ok-coded.coded.transforms.items in
    let image = store_meanings g.S.Sealed.to_int c.args.grids.items in
    let channels = c.in_ok-coded.coded.channels in
    let store = c.in_ok-coded.coded.store.items in
    let coded = c.in_ok-coded.ensures in
    let one = one_is_global g.S.Sealed.to_int g.S.Sealed.width ts c.args.given.now image channels store coded c.args.cut.now.group_dim c.requires.group_dim c.requires.valid frame.0 frame.1 l frame.2 in
    let cells = cells_are_cut g.S.Sealed.to_int g.S.Sealed.width ts c.args.given.now image channels store coded c.args.cut.now.group_dim c.requires.cells in
    let is = c.in_ok-sections.ensures.ok in
    encoded g.S.Sealed.to_int g.S.Sealed.width (image_transforms ts) c.args.given.now image channels store coded c.args.cut.now.group_dim c.requires.group_dim c.requires.valid frame.0 frame.1 l frame.2 one
    cells c.args.tree.now.nodes.now c.args.tree.now.clusters.now c.args.tree.now.limits is.tree is.is_tree c.requires.depth is.tokens is.are c.in_ok-sections.sections.items is.by
