use Rattle.std.proofs.Common.{◌≡◌, arith}
use Rattle.jxlm_transform.specs.Channels.{infos}
use Rattle.jxlm_header.specs.Opening.{node_limit}
use Rattle.jxlm_encode.proofs.Listings.{nodes_counted}
use Rattle.jxlm_encode.proofs.listing.tree_of.Goals as goal

pub returns-then-nodes-limit-clause-err : goal.returns-then-nodes-limit-clause-err
returns-then-nodes-limit-clause-err c = λ t given.
    let count = nodes_counted t c.args.nodes.now given.listed in
    let limit = given.limit in
    let same : c.node_limit-limit.result ≡ node_limit (infos c.args.channels.now) = c.node_limit-limit.ensures in
    omega (arith, count, limit, same, c.if-nodes-limit.true)
