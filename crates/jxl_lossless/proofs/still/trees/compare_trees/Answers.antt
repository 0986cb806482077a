use Rattle.std.proofs.Common.{◌≡◌, ◌∙◌, Bool, false, is_some, subst, sym, true}
use Rattle.std.specs.Option.{option_copied}
use Rattle.jxlm_bits.specs.Bits.{bytes_of, position_of}
use Rattle.jxlm_groups.specs.Passes.{passes_of}
use Rattle.jxlm_nested.specs.NestedParts.{nested_list}
use Rattle.jxlm_nested.proofs.StartLaws.{lent_some}
use Rattle.jxl_lossless.specs.Inner.Codewords.{CodewordsSay}
use Rattle.jxl_lossless.specs.Inner.Depths.{TreesSay}
use Rattle.jxl_lossless.proofs.still.trees.compare_trees.Goals as goal

pub returns-then-many-clause-err : goal.returns-then-many-clause-err
returns-then-many-clause-err g c =
    let global = option_copied c.args.global in
    let given = nested_list c.args.given.now.channels.items in
    let dim = c.args.given.now.group_dim in
    let bytes = bytes_of c.args.first in
    let p = position_of c.args.first in
    let passes = passes_of c.args.pass_shifts.now.entries in
    let has : c.is_some-has_global.result ≡ is_some global = c.is_some-has_global.ensures ∙ sym (lent_some c.args.global) in
    subst (λ (b : Bool). CodewordsSay (is_some global) given dim bytes p passes c.args.limits.codewords c.args.sections.now b) c.if-many.true
    (subst (λ (h : Bool). CodewordsSay h given dim bytes p passes c.args.limits.codewords c.args.sections.now c.in_ok-many.many) has c.in_ok-many.ensures)

pub returns-then-deep-clause-err : goal.returns-then-deep-clause-err
returns-then-deep-clause-err g c =
    let global = option_copied c.args.global in
    let given = nested_list c.args.given.now.channels.items in
    let dim = c.args.given.now.group_dim in
    let bytes = bytes_of c.args.first in
    let p = position_of c.args.first in
    let passes = passes_of c.args.pass_shifts.now.entries in
    let has : c.is_some-has_global.result ≡ is_some global = c.is_some-has_global.ensures ∙ sym (lent_some c.args.global) in (
      subst (λ (b : Bool). CodewordsSay (is_some global) given dim bytes p passes c.args.limits.codewords c.args.sections.now b) c.if-many.false
          (subst (λ (h : Bool). CodewordsSay h given dim bytes p passes c.args.limits.codewords c.args.sections.now c.in_ok-many.many) has c.in_ok-many.ensures),
      subst (λ (b : Bool). TreesSay g.D.Decoder.meaning global given dim bytes p passes c.args.limits.depth c.args.sections.now b) c.if-deep.true c.in_ok-deep.ensures,
    )

pub returns-clause-ok : goal.returns-clause-ok
returns-clause-ok g c =
    let global = option_copied c.args.global in
    let given = nested_list c.args.given.now.channels.items in
    let dim = c.args.given.now.group_dim in
    let bytes = bytes_of c.args.first in
    let p = position_of c.args.first in
    let passes = passes_of c.args.pass_shifts.now.entries in
    let has : c.is_some-has_global.result ≡ is_some global = c.is_some-has_global.ensures ∙ sym (lent_some c.args.global) in
    record {
      few = subst (λ (b : Bool). CodewordsSay (is_some global) given dim bytes p passes c.args.limits.codewords c.args.sections.now b) c.if-many.false
          (subst (λ (h : Bool). CodewordsSay h given dim bytes p passes c.args.limits.codewords c.args.sections.now c.in_ok-many.many) has c.in_ok-many.ensures);
      shallow = subst (λ (b : Bool). TreesSay g.D.Decoder.meaning global given dim bytes p passes c.args.limits.depth c.args.sections.now b) c.if-deep.false c.in_ok-deep.ensures;
    }
