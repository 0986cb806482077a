use Rattle.std.proofs.Common.{rules}
use Rattle.jxlbench.proofs.Alike.{one_size_alike}
use Rattle.jxlbench.proofs.decoding.image.Goals as goal

pub decode_cut_picture-requires-clause-alike : goal.decode_cut_picture-requires-clause-alike
decode_cut_picture-requires-clause-alike g c κs within =
    one_size_alike c.args.request.channels c.args.request.width c.args.request.height c.without_tree-params.result.channels.items (search rules)
