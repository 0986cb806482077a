use Rattle.std.proofs.Common.{◌≡◌, ◌∙◌, ℤ, List, map, sym, subst, arith}
use Rattle.std.specs.Prelude.{IfErr}
use Rattle.jxlm_base.specs.Grid.{Grid}
use Rattle.jxlm_transform.proofs.ValidParams.{powers_are_group_dims}
use Rattle.jxlm_tree.specs.declared.ma.MaConfigParams.{MaConfigParams}
use Rattle.jxl_codestream.specs.LayoutParts.{parts_of}
use Rattle.jxl_encode_tree.specs.Trees.{IsNoTree}
use Rattle.jxl_image_header.specs.Images.{image_of}
use Rattle.jxl_picture.specs.Pictures.{IsWhole}
use Rattle.jxl_encode.specs.Frames.{AreSectionsOf}
use Rattle.jxl_encode.proofs.Given.{few_extra, grids_of}
use Rattle.jxl_encode.proofs.Cells.{each_has_cells}
use Rattle.jxl_encode.proofs.Codings.{if_ok, sections_of}
use Rattle.jxl_encode.proofs.frame.sections_by_tree.Goals as goal

pub limits_of-requires : goal.limits_of-requires
limits_of-requires c = few_extra (image_of c.args.input.now.picture.now.header) c.requires.codable.writable

pub encode_sections-requires-clause-sides : goal.encode_sections-requires-clause-sides
encode_sections-requires-clause-sides c =
    let image = image_of c.args.input.now.picture.now.header in
    let same : c.in_ok-grids.grids.items ≡ c.args.input.now.picture.now.channels.items = c.in_ok-grids.ensures.same ∙ c.deref.ensures.value in
    λ l. grids_of image c.args.input.now.given.now c.in_ok-grids.grids.items c.requires.given (subst (λ (gs : List (Grid ℤ)). IsWhole image gs) (sym same) c.requires.whole) c.in_ok-grids.ensures.full

pub encode_sections-requires-clause-group_dim : goal.encode_sections-requires-clause-group_dim
encode_sections-requires-clause-group_dim c = λ l. powers_are_group_dims 8 (omega arith) (omega arith)

pub encode_sections-requires-clause-cells : goal.encode_sections-requires-clause-cells
encode_sections-requires-clause-cells c = λ l. each_has_cells (image_of c.args.input.now.picture.now.header) c.args.input.now.given.now c.requires.codable.supported c.requires.given

pub returns-clause-ok : goal.returns-clause-ok
returns-clause-ok c =
    let same : c.in_ok-grids.grids.items ≡ c.args.input.now.picture.now.channels.items = c.in_ok-grids.ensures.same ∙ c.deref.ensures.value in
    if_ok _ (λ v. AreSectionsOf c.args.input.now.picture.now (map (λ s. s.items) v.items))
    (λ v a. sections_of c.args.input.now.picture.now c.args.input.now.given.now (parts_of c.args.input.now.layout.now) c.limits_of.result c.in_ok-grids.grids.items (map (λ s. s.items) v.items)
    c.requires.given.list c.requires.layout c.limits_of.ensures same a)
    c.encode_sections.result c.encode_sections.ensures.ok

pub returns-clause-err : goal.returns-clause-err
returns-clause-err c =
    subst (λ (limits : MaConfigParams). IfErr c.encode_sections.result (λ e. IsNoTree c.args.nodes.now c.args.clusters.now limits e)) c.limits_of.ensures c.encode_sections.ensures.err
