use Rattle.std.proofs.Common.{◌≡◌, ◌<◌, ◌≤◌, Some, true, arith, refl, rules, subst}
use Rattle.jxlm_bits.specs.Bits.{bytes_of, position_of}
use Rattle.jxl_codestream.specs.Starts.{section_start}
use Rattle.jxl_codestream.specs.Fronts.{StandsAt}
use Rattle.jxlm_tree.specs.Tree.{depth}
use Rattle.jxl_lossless.proofs.Trees.{a_deep_tree, a_tree}
use Rattle.jxl_lossless.proofs.tree.shared_tree.Goals as goal

pub returns-else-tree_depth-deepest-clause-ok : goal.returns-else-tree_depth-deepest-clause-ok
returns-else-tree_depth-deepest-clause-ok g c =
    let first = bytes_of c.args.bits.now in
    let p = position_of c.args.bits.now in
    let q = position_of c.section_start.new.bits in
    let there : c.in-Ok.there ≡ true = search rules in
    let stands : StandsAt section_start first p true q = subst (λ b. StandsAt section_start first p b q) there c.in-Ok.ensures.gives in
    let within : depth c.in-Ok-parse.tree.tree ≤ c.args.deepest = search (rules, arith) in
    a_tree g.D.Decoder.meaning c.args.size c.args.channels c.args.deepest first p q stands (bytes_of c.section_start.new.bits) c.in-Ok.ensures.bytes c.tree_limit.result c.tree_limit.ensures c.in-Ok-parse.tree
    (position_of c.parse.new.bits) c.in-Ok-parse.ensures.gives within

pub returns-then-tree_depth-deepest-clause-err : goal.returns-then-tree_depth-deepest-clause-err
returns-then-tree_depth-deepest-clause-err g c =
    let first = bytes_of c.args.bits.now in
    let p = position_of c.args.bits.now in
    let q = position_of c.section_start.new.bits in
    let there : c.in-Ok.there ≡ true = search rules in
    let stands : StandsAt section_start first p true q = subst (λ b. StandsAt section_start first p b q) there c.in-Ok.ensures.gives in
    let beyond : c.args.deepest < depth c.in-Ok-parse.tree.tree = search (rules, arith) in
    a_deep_tree g.D.Decoder.meaning c.args.size c.args.channels c.args.deepest first p q stands (bytes_of c.section_start.new.bits) c.in-Ok.ensures.bytes c.tree_limit.result c.tree_limit.ensures c.in-Ok-parse.tree
    (position_of c.parse.new.bits) c.in-Ok-parse.ensures.gives beyond

pub returns-in-Err-clause-err : goal.returns-in-Err-clause-err
returns-in-Err-clause-err g c =
    let first = bytes_of c.args.bits.now in
    let q = position_of c.section_start.new.bits in (
      q,
      record {
        place = Some q;
        refuses = c.in-Err.ensures.gives;
        stands = refl;
      },
    )
