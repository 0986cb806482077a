use Rattle.jxl_patches_write.proofs.Adding.{run_added}
use Rattle.jxl_patches_write.proofs.runs.add_run.Goals as goal

pub returns : goal.returns
returns c =
    run_added c.args.run.now c.args.kinds c.first_of-first.result c.later_count-value.result c.args.tokens.now.items c.add_source.new.tokens.items c.push.new.self.items c.add_places.new.tokens.items
    c.first_of-first.ensures.is c.later_count-value.ensures c.requires.same c.requires.some c.requires.writable c.in_ok-add_source.ensures c.in_ok-push.ensures.items c.in_ok-add_places.ensures
