use Rattle.std.proofs.Common.{ap, ◌∙◌}
use Rattle.std.specs.Vec.Iter.{into_iter_items, into_iter_len}
use Rattle.std.proofs.lemmas.Iterator.{items_from_collect}
use Rattle.std.proofs.lemmas.Iterator.Adapters.{YieldsList-from_skip, YieldsList-from_vec}
use Rattle.jxlmod_commands.proofs.run.all_but_first.Goals as goal

pub returns : goal.returns
returns c =
    items_from_collect c.collect.result c.collect.ensures.ran (YieldsList-from_skip 1 (YieldsList-from_vec (into_iter_items c.args.all) (ap into_iter_items c.skip.ensures.source) (ap into_iter_len c.skip.ensures.source ∙ c.args.all.rest.ok.0)) c.skip.ensures.count)
