use Rattle.std.proofs.Common.{◌≡◌, ◌∙◌, inl, false, None, Option, Some, is_some, subst, sym}
use Rattle.std.specs.Option.{option_copied}
use Rattle.jxlm_bits.specs.Bits.{bytes_of, position_of}
use Rattle.jxlm_groups.specs.Passes.{passes_of}
use Rattle.jxlm_nested.specs.NestedParts.{nested_list}
use Rattle.jxlm_nested.proofs.StartLaws.{lent_some}
use Rattle.jxlm_tree_depth.specs.Depths.{DepthSays, IsShallowAt}
use Rattle.jxlm_tree_depth.specs.Openings.{AreCoded, OpensCoded, list_of_part}
use Rattle.jxlm_tree_depth.specs.declared.channels.CodedChannels.{CodedChannels}
use Rattle.jxl_lossless.proofs.Depths.{all_global, coded_say, none_say}
use Rattle.jxl_lossless.proofs.Headers.{at_some}
use Rattle.jxl_lossless.proofs.still.depths.some_deep.Goals as goal

pub returns-then-branch : goal.returns-then-branch
returns-then-branch g c = λ head q e.
    inl (subst (DepthSays g.D.Decoder.meaning (option_copied c.args.global) (nested_list c.args.given.now.channels.items) c.args.deepest (bytes_of c.args.first) (position_of c.args.first)) c.if-branch.true c.in_ok-has_deep_tree.ensures)

pub returns-then-all_use_global : goal.returns-then-all_use_global
returns-then-all_use_global g c = λ head q e. (
  subst (DepthSays g.D.Decoder.meaning (option_copied c.args.global) (nested_list c.args.given.now.channels.items) c.args.deepest (bytes_of c.args.first) (position_of c.args.first)) c.if-branch.false c.in_ok-has_deep_tree.ensures,
  all_global g.D.Decoder.meaning (option_copied c.args.global) (list_of_part c.args.given.now.group_dim (passes_of c.args.pass_shifts.now.entries) head.coded.list) c.args.deepest c.args.sections.now (c.all_use_global.ensures c.if-all_use_global.true),
)

pub some_section_deep-requires : goal.some_section_deep-requires
some_section_deep-requires g c = record { coded = at_some AreCoded c.in_ok-opened.opened c.in-Some.coded c.in-Some.is c.in_ok-opened.ensures.coded }

pub returns-in-Some : goal.returns-in-Some
returns-in-Some g c =
    let d = g.D.Decoder.meaning in
    let global = option_copied c.args.global in
    let given = nested_list c.args.given.now.channels.items in
    let dim = c.args.given.now.group_dim in
    let bytes = bytes_of c.args.first in
    let p = position_of c.args.first in
    let passes = passes_of c.args.pass_shifts.now.entries in
    let low : IsShallowAt d global given c.args.deepest bytes p = subst (DepthSays d global given c.args.deepest bytes p) c.if-branch.false c.in_ok-has_deep_tree.ensures in
    let has : c.is_some.result ≡ is_some global = c.is_some.ensures ∙ sym (lent_some c.args.global) in
    let opens : OpensCoded (is_some global) given dim passes bytes p (Some c.in-Some.coded) =
    subst (λ (o : Option CodedChannels). OpensCoded (is_some global) given dim passes bytes p o) c.in-Some.is
    (subst (λ ps. OpensCoded (is_some global) given dim ps bytes p c.in_ok-opened.opened) c.in_ok-passes.ensures
    (subst (λ b. OpensCoded b given dim c.in_ok-passes.passes.items bytes p c.in_ok-opened.opened) has c.in_ok-opened.ensures.opens)) in
    coded_say d global given dim bytes p passes c.args.deepest c.args.sections.now c.in-Some.coded c.some_section_deep.result opens low c.some_section_deep.ensures

pub returns-in-None : goal.returns-in-None
returns-in-None g c =
    let d = g.D.Decoder.meaning in
    let global = option_copied c.args.global in
    let given = nested_list c.args.given.now.channels.items in
    let dim = c.args.given.now.group_dim in
    let bytes = bytes_of c.args.first in
    let p = position_of c.args.first in
    let passes = passes_of c.args.pass_shifts.now.entries in
    let has : c.is_some.result ≡ is_some global = c.is_some.ensures ∙ sym (lent_some c.args.global) in
    let opens : OpensCoded (is_some global) given dim passes bytes p None =
    subst (λ (o : Option CodedChannels). OpensCoded (is_some global) given dim passes bytes p o) c.in-None.is
    (subst (λ ps. OpensCoded (is_some global) given dim ps bytes p c.in_ok-opened.opened) c.in_ok-passes.ensures
    (subst (λ b. OpensCoded b given dim c.in_ok-passes.passes.items bytes p c.in_ok-opened.opened) has c.in_ok-opened.ensures.opens)) in
    none_say d global given dim bytes p passes c.args.deepest c.args.sections.now false opens
