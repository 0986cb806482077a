use Rattle.std.proofs.Common.{◌≤◌, List, length, subst, sym, arith}
use Rattle.std.specs.List.{All}
use Rattle.jxlm_encode.proofs.Listings.{clustered_counted}
use Rattle.jxlm_transform.specs.Lists.{list_of}
use Rattle.jxl_codestream.specs.LayoutParts.{parts_of}
use Rattle.jxl_encode_image.specs.Images.{samples_in}
use Rattle.jxl_encode_image.specs.Preparations.{IsSpelled, image_transforms}
use Rattle.jxl_encode_image.specs.declared.transform.ImageTransform.{ImageTransform}
use Rattle.jxl_encode_sections.specs.Inner.Frames.{AreByTokens}
use Rattle.jxl_encode_sections.specs.Inner.Parts.{CodedSamples}
use Rattle.jxl_encode_sections.proofs.EncodedFrames.{global_below, groups_below, numbers, others}
use Rattle.jxl_encode_sections.proofs.frame.sections_of_coded.Goals as goal

pub shorter_sections-requires-clause-first : goal.shorter_sections-requires-clause-first
shorter_sections-requires-clause-first g c =
    let coded : CodedSamples = record { list = list_of c.args.coded.now.channels; samples = samples_in g.S.Sealed.to_int c.args.coded.now.channels c.args.coded.now.store.items } in
    global_below g.S.Sealed.width c.args.cut.now.group_dim coded c.in_ok-config.config.tree (parts_of c.args.cut.now.layout.now) c.in_ok-tokens.tokens c.in_ok-tokens.ensures c.args.tree.now.nodes.now c.args.tree.now.clusters.now
    c.args.tree.now.limits c.in_ok-config.ensures.ok c.in-Ok.many (sym c.in-Ok.ensures.count)

pub shorter_sections-requires-clause-tokens : goal.shorter_sections-requires-clause-tokens
shorter_sections-requires-clause-tokens g c =
    let coded : CodedSamples = record { list = list_of c.args.coded.now.channels; samples = samples_in g.S.Sealed.to_int c.args.coded.now.channels c.args.coded.now.store.items } in
    groups_below g.S.Sealed.width c.args.cut.now.group_dim coded c.in_ok-config.config.tree (parts_of c.args.cut.now.layout.now) c.in_ok-tokens.tokens c.in_ok-tokens.ensures c.args.tree.now.nodes.now c.args.tree.now.clusters.now
    c.args.tree.now.limits c.in_ok-config.ensures.ok c.in-Ok.many (sym c.in-Ok.ensures.count)

pub shorter_sections-requires-clause-nodes : goal.shorter_sections-requires-clause-nodes
shorter_sections-requires-clause-nodes g c =
    let is = c.in_ok-config.ensures.ok in
    let count = clustered_counted c.args.tree.now.clusters.now c.in_ok-config.config.tree c.args.tree.now.nodes.now is.listed in
    let limit = is.limit in
    let most = c.requires.nodes in
    omega (arith, count, limit, most)

pub shorter_sections-requires-clause-numbers : goal.shorter_sections-requires-clause-numbers
shorter_sections-requires-clause-numbers g c =
    let coded : CodedSamples = record { list = list_of c.args.coded.now.channels; samples = samples_in g.S.Sealed.to_int c.args.coded.now.channels c.args.coded.now.store.items } in
    numbers g.S.Sealed.width c.args.cut.now.group_dim coded c.in_ok-config.config.tree (parts_of c.args.cut.now.layout.now) c.in_ok-tokens.tokens c.in_ok-tokens.ensures

pub shorter_sections-requires-clause-others : goal.shorter_sections-requires-clause-others
shorter_sections-requires-clause-others g c =
    let coded : CodedSamples = record { list = list_of c.args.coded.now.channels; samples = samples_in g.S.Sealed.to_int c.args.coded.now.channels c.args.coded.now.store.items } in
    others g.S.Sealed.width c.args.cut.now.group_dim coded c.in_ok-config.config.tree (parts_of c.args.cut.now.layout.now) c.in_ok-tokens.tokens c.in_ok-tokens.ensures

pub shorter_sections-requires-clause-transforms : goal.shorter_sections-requires-clause-transforms
shorter_sections-requires-clause-transforms g c = subst (λ (ts : List ImageTransform). length ts ≤ 273) (sym c.deref.ensures.value) c.requires.transforms

pub shorter_sections-requires-clause-spelled : goal.shorter_sections-requires-clause-spelled
shorter_sections-requires-clause-spelled g c = subst (λ (ts : List ImageTransform). All IsSpelled (image_transforms ts)) (sym c.deref.ensures.value) c.requires.spelled

pub returns-clause-ok : goal.returns-clause-ok
returns-clause-ok g c = record {
  tree = c.in_ok-config.config.tree;
  is_tree = c.in_ok-config.ensures.ok;
  tokens = c.in_ok-tokens.tokens;
  are = c.in_ok-tokens.ensures;
  by = subst (λ (ts : List ImageTransform). AreByTokens c.args.tree.now.nodes.now c.args.tree.now.clusters.now (image_transforms ts) (parts_of c.args.cut.now.layout.now) c.in_ok-tokens.tokens c.in_ok-sections.sections.items)
      c.deref.ensures.value c.in_ok-sections.ensures;
}
