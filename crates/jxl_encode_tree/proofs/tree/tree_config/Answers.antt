use Rattle.std.proofs.Common.{◌∙◌, ℕ, Result, refl, sym, subst, arith}
use Rattle.std.specs.Prelude.{IsOk}
use Rattle.std.proofs.lemmas.Bool.{false≢true}
use Rattle.jxlm_bits.specs.declared.decoder.DecoderError.{DecoderError}
use Rattle.jxlm_encode.proofs.Listings.{clustered_counted, half_are_leaves, ones_clustered}
use Rattle.jxl_encode_tree.proofs.ClusteredTrees.{if_ok, plainly_listed}
use Rattle.jxl_encode_tree.proofs.tree.tree_config.Goals as goal

pub returns-then-nodes-limits-clause-err : goal.returns-then-nodes-limits-clause-err
returns-then-nodes-limits-clause-err c = λ t is.
    let count = clustered_counted c.args.clusters.now t c.args.nodes.now is.listed in
    let limit = is.limit in
    omega (arith, count, limit, c.if-nodes-limits.true)

pub returns-then-not-lists_one_tree-clause-err : goal.returns-then-not-lists_one_tree-clause-err
returns-then-not-lists_one_tree-clause-err c = λ t is.
    false≢true (sym c.if-not-lists_one_tree.true ∙ c.lists_one_tree.ensures.1 (plainly_listed c.args.clusters.now c.args.nodes.now t is.listed))

pub returns-then-clusters-nodes-clause-err : goal.returns-then-clusters-nodes-clause-err
returns-then-clusters-nodes-clause-err c = λ t is.
    let half = half_are_leaves c.args.nodes.now (plainly_listed c.args.clusters.now c.args.nodes.now t is.listed) in
    let leaves = is.leaves in
    omega (arith, half, leaves, c.if-clusters-nodes.true)

pub read_back-requires-clause-leaves : goal.read_back-requires-clause-leaves
read_back-requires-clause-leaves c =
    let half = half_are_leaves c.args.nodes.now (c.lists_one_tree.ensures.0 c.if-not-lists_one_tree.false) in
    omega (arith, half, c.if-clusters-nodes.false)

pub returns-clause-ok : goal.returns-clause-ok
returns-clause-ok c =
    let half = half_are_leaves c.args.nodes.now (c.lists_one_tree.ensures.0 c.if-not-lists_one_tree.false) in
    if_ok c.read_back.result _ _
    (λ config read.
    let count = clustered_counted c.args.clusters.now config.tree c.args.nodes.now read.listed in
    record {
      listed = read.listed;
      properties = c.has_tokens.ensures.0 c.if-not-has_tokens.false;
      leaves = omega (arith, half, c.if-clusters-nodes.false);
      used = subst (λ (r : Result ℕ DecoderError). IsOk r) c.in-Ok.ensures.count refl;
      limit = omega (arith, count, c.if-nodes-limits.false);
      within = read.within;
    })
    c.read_back.ensures.ok

pub returns-clause-multipliers : goal.returns-clause-multipliers
returns-clause-multipliers c = if_ok c.read_back.result _ _ (λ config read. ones_clustered c.args.clusters.now config.tree c.args.nodes.now read.listed) c.read_back.ensures.ok
