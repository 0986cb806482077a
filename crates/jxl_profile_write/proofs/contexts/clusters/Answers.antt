use Rattle.std.proofs.Common.{◌∙◌, ◌++◌, ◌∷◌, [], List, ℕ, ap, sym, arith}
use Rattle.std.proofs.lemmas.List.FromFn.{map-range_with_len_more}
use Rattle.jxl_profile_write.specs.Inner.Tokens.{cluster_in}
use Rattle.jxl_profile_write.proofs.contexts.clusters.Goals as goal

pub loop-context-preserved : goal.loop-context-preserved
loop-context-preserved c =
    let i = c.loop-context.context in
    c.in_ok-push.ensures.items ∙ ap (λ (x : ℕ). c.loop-context.clusters.items ++ x ∷ []) c.cluster_of.ensures ∙ ap (λ (xs : List ℕ). xs ++ cluster_in c.args.separate i ∷ []) c.loop-context.invariant
    ∙ sym (map-range_with_len_more (cluster_in c.args.separate) 0 i i (omega arith))
