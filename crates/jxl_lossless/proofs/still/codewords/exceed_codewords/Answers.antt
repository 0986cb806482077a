use Rattle.std.proofs.Common.{◌≡◌, [], false, None, Option, Some, arith, refl, subst, sym}
use Rattle.jxlm_bits.specs.Bits.{bytes_of, position_of}
use Rattle.jxlm_groups.specs.Passes.{passes_of}
use Rattle.jxlm_nested.specs.NestedParts.{nested_list}
use Rattle.jxlm_tree_depth.specs.Openings.{AreCoded, OpensCoded, list_of_part}
use Rattle.jxlm_tree_depth.specs.declared.channels.CodedChannels.{CodedChannels}
use Rattle.jxl_lossless.specs.Codewords.{HasCodewords}
use Rattle.jxl_lossless.proofs.Codewords.{coded_have, none_has, none_own}
use Rattle.jxl_lossless.proofs.Headers.{at_some}
use Rattle.jxl_lossless.proofs.still.codewords.exceed_codewords.Goals as goal

pub returns-then-own-most : goal.returns-then-own-most
returns-then-own-most c = λ head q e. (
  c.own_codewords-own.result,
  (c.in_ok-tree.tree, c.in_ok-tree.ensures, c.own_codewords-own.ensures),
  (0, [], tt, omega arith),
)

pub returns-then-all_use_global : goal.returns-then-all_use_global
returns-then-all_use_global c = λ head q e.
    let (ns, has, none) = none_own (list_of_part c.args.given.now.group_dim (passes_of c.args.pass_shifts.now.entries) head.coded.list) c.args.sections.now (c.all_use_global.ensures c.if-all_use_global.true) in (
      c.own_codewords-own.result,
      (c.in_ok-tree.tree, c.in_ok-tree.ensures, c.own_codewords-own.ensures),
      (ns, has, omega (arith, none)),
    )

pub sections_exceed-requires-clause-coded : goal.sections_exceed-requires-clause-coded
sections_exceed-requires-clause-coded c = at_some AreCoded c.in_ok-opened.opened c.in-Some.coded c.in-Some.is c.in_ok-opened.ensures.coded

pub returns-in-Some : goal.returns-in-Some
returns-in-Some c =
    let given = nested_list c.args.given.now.channels.items in
    let dim = c.args.given.now.group_dim in
    let bytes = bytes_of c.args.first in
    let p = position_of c.args.first in
    let passes = passes_of c.args.pass_shifts.now.entries in
    let has : HasCodewords given bytes p c.own_codewords-own.result = (c.in_ok-tree.tree, c.in_ok-tree.ensures, c.own_codewords-own.ensures) in
    let opens : OpensCoded c.args.has_global given dim passes bytes p (Some c.in-Some.coded) =
    subst (λ (o : Option CodedChannels). OpensCoded c.args.has_global given dim passes bytes p o) c.in-Some.is
    (subst (λ ps. OpensCoded c.args.has_global given dim ps bytes p c.in_ok-opened.opened) c.in_ok-passes.ensures c.in_ok-opened.ensures.opens) in
    coded_have c.args.has_global given dim bytes p passes c.args.most c.args.sections.now c.own_codewords-own.result c.in-Some.coded c.sections_exceed.result opens has c.sections_exceed.ensures

pub returns-in-None : goal.returns-in-None
returns-in-None c =
    let given = nested_list c.args.given.now.channels.items in
    let dim = c.args.given.now.group_dim in
    let bytes = bytes_of c.args.first in
    let p = position_of c.args.first in
    let passes = passes_of c.args.pass_shifts.now.entries in
    let opens : OpensCoded c.args.has_global given dim passes bytes p None =
    subst (λ (o : Option CodedChannels). OpensCoded c.args.has_global given dim passes bytes p o) c.in-None.is
    (subst (λ ps. OpensCoded c.args.has_global given dim ps bytes p c.in_ok-opened.opened) c.in_ok-passes.ensures c.in_ok-opened.ensures.opens) in
    none_has c.args.has_global given dim bytes p passes c.args.most c.args.sections.now false opens
