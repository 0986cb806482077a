use Rattle.std.proofs.Common.{◌≡◌, false, None, Some, is_some}
use Rattle.jxl_frame_names.specs.Places.{place_at}
use Rattle.jxl_frame_names.proofs.Places.{first, no_more, only, second}
use Rattle.jxl_frame_names.proofs.pattern.only_place.Goals as goal
use Rattle.jxl_frame_names.proofs.pattern.only_place.Goals.{in-Some+else-is_some, in_default}

pub returns-then-is_some-clause-none : goal.returns-then-is_some-clause-none
returns-then-is_some-clause-none c =
    let at : place_at c.args.name.now c.loop-start.start ≡ Some c.in-Some.place = cc in
    second c.args.name.now c.loop-start.start c.loop-start.found c.in-Some.place c.loop-start.invariant (cc) at

pub loop-start-preserved : goal.loop-start-preserved
loop-start-preserved c = elim c.match-place_at.branch [
  | in-Some+else-is_some w ↦
      let at : place_at c.args.name.now c.loop-start.start ≡ Some w.in-Some.place = cc in
      let unfound : is_some c.loop-start.found ≡ false = cc in
      rw w.found-is (first c.args.name.now c.loop-start.start c.loop-start.found w.in-Some.place c.loop-start.invariant unfound at)
  | in_default w ↦
      let at : place_at c.args.name.now c.loop-start.start ≡ None = cc in
      rw w.found-is (no_more c.args.name.now c.loop-start.start c.loop-start.found c.loop-start.invariant at)
]

pub returns-clause-only : goal.returns-clause-only
returns-clause-only c = only c.args.name.now c.loop-start.start c.loop-start-test.false c.loop-start.found c.loop-start.invariant
