use Rattle.std.proofs.Common.{◌+◌, ◌/◌, length, sym}
use Rattle.jxlm_encode.proofs.Listings.{half_are_leaves}
use Rattle.jxlm_encode.proofs.TreesRead.{gamma_tree_written}
use Rattle.jxlm_encode.proofs.listing.write_gamma_tree.Goals as goal

pub returns : goal.returns
returns c =
    let nodes = c.args.nodes.now in
    gamma_tree_written c.write_gamma_decoder-2.result _ _ _ _ c.args.tokens.now nodes (length nodes / 2 + 1) c.requires.tokens (sym (half_are_leaves nodes c.requires.lists)) c.in_ok-write_gamma_decoder.ensures
    c.in_ok-write_gamma_tokens.ensures c.write_gamma_decoder-2.ensures
