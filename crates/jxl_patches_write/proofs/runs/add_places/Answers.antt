use Rattle.std.proofs.Common.{◌+◌, get_or, take, arith}
use Rattle.jxl_patches.specs.Patches.{nowhere}
use Rattle.jxl_patches_write.specs.Inner.Given.{IsNthPlace, GivePlaces}
use Rattle.jxl_patches_write.proofs.Adding.{adds_after}
use Rattle.jxl_patches_write.proofs.Places.{places_more}
use Rattle.jxl_patches_write.proofs.runs.add_places.Goals as goal

pub loop-n-preserved : goal.loop-n-preserved
loop-n-preserved c =
    let run = c.args.run.now in
    let n = c.loop-n.n in
    let kinds = c.args.kinds in
    adds_after (GivePlaces kinds (get_or run 0 nowhere).source n (take n run)) (IsNthPlace run n kinds) (GivePlaces kinds (get_or run 0 nowhere).source (n + 1) (take (n + 1) run)) c.args.tokens.now.items
    c.loop-n.tokens.items c.add_nth.new.tokens.items c.loop-n.invariant c.in_ok-add_nth.ensures (λ xs ys before read_as. places_more run n kinds xs ys (omega arith) c.requires.same before read_as)
