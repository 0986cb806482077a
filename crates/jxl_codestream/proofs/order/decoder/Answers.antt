use Rattle.std.proofs.Common.{List, ℕ, length, ap, ◌∙◌}
use Rattle.jxl_codestream.proofs.order.decoder.Goals as goal

pub returns-clause-clusters : goal.returns-clause-clusters
returns-clause-clusters g c =
    let contexts = g.met.D.Decoder.lawful.parse_clusters _ _ _ _ c.in_ok-decoder.ensures.gives in
    ap (λ (xs : List ℕ). length xs) c.begin.ensures.keeps.clusters ∙ contexts
