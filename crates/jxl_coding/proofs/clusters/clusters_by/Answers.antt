use Rattle.jxl_coding.specs.Inner.Seen.{codes_of}
use Rattle.jxl_coding.proofs.clusters.clusters_by.Goals as goal

pub returns-clause-gives : goal.returns-clause-gives
returns-clause-gives c = rw (← c.in_ok-state.ensures.ok (codes_of c.args.tables.now)) c.stream_clusters.ensures.gives
