use Rattle.std.proofs.Common.{◌∙◌, ℕ, List, sym, ap, length, map}
use Rattle.std.proofs.lemmas.List.{length-map}
use Rattle.jxl_encode_tree.specs.Inner.Contexts.{cluster_in}
use Rattle.jxl_encode_tree.proofs.CodedNodes.{few_tokens, same_counts, tokens_below}
use Rattle.jxl_encode_tree.proofs.nodes.node_tokens.Goals as goal

pub tokens_in-requires : goal.tokens_in-requires
tokens_in-requires c = record {
  same =
      ap length (c.deref-2.ensures.value ∙ c.in_ok-clusters.ensures) ∙ length-map c.deref.result.now (cluster_in c.args.separate)
      ∙ ap length (c.deref.ensures.value ∙ c.in_ok-contexts.ensures) ∙ same_counts c.args.nodes.now ∙ sym (ap length (c.deref-3.ensures.value ∙ c.in_ok-values.ensures));
}

pub returns-clause-below : goal.returns-clause-below
returns-clause-below c =
    tokens_below c.args.separate c.args.nodes.now c.in_ok-tokens.tokens.items
    (c.in_ok-tokens.ensures.clusters ∙ c.deref-2.ensures.value ∙ c.in_ok-clusters.ensures
    ∙ ap (λ (xs : List ℕ). map (cluster_in c.args.separate) xs) (c.deref.ensures.value ∙ c.in_ok-contexts.ensures))

pub returns-clause-few : goal.returns-clause-few
returns-clause-few c = few_tokens c.args.nodes.now c.in_ok-tokens.tokens.items (c.in_ok-tokens.ensures.values ∙ c.deref-3.ensures.value ∙ c.in_ok-values.ensures)
