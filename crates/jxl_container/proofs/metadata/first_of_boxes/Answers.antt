use Rattle.std.proofs.Common.{◌≡◌, ◌∷◌, ◌++◌, [], length, None, Some, ◌∙◌, sym, arith, rules}
use Rattle.jxl_container.specs.Files.{Follow}
use Rattle.jxl_container.proofs.FileLaws.{reach-more, follow-all, next-fails, all-follow, seen-more}
use Rattle.jxl_container.proofs.Searches.{first-more, inside-more, searched}
use Rattle.jxl_container.proofs.metadata.first_of_boxes.Goals as goal

pub loop-place-preserved : goal.loop-place-preserved
loop-place-preserved c =
    let i = c.loop-place.invariant in
    let b = c.in-Ok.found in
    let bytes = c.args.file.now in
    record {
      boxes = i.boxes ++ b ∷ [];
      reach = reach-more bytes [] 12 i.boxes c.loop-place.place b i.reach c.in-Ok.ensures.stands (c.in-Ok.ensures.fits i.boxes i.seen_is);
      seen_is = c.in-Ok.ensures.seen ∙ (rw i.seen_is (sym (seen-more bytes i.boxes b)));
      first_is = c.first_with-first.ensures ∙ (rw i.first_is (sym (first-more c.args.sought bytes i.boxes b)));
      inside = rw c.first_with-first.ensures (inside-more c.args.sought bytes b c.in-Ok.ensures.contents c.in-Ok.ensures.inside.1 c.loop-place.first i.inside);
      whole = search rules;
      within = search rules;
    }

pub returns-in-Err-clause-first : goal.returns-in-Err-clause-first
returns-in-Err-clause-first c =
    let i = c.loop-place.invariant in
    let bytes = c.args.file.now in
    let fails = c.in-Err.ensures.err i.boxes i.seen_is in
    let all : Follow bytes [] 12 i.boxes (Some c.in-Err.field-0) = follow-all bytes [] 12 i.boxes c.loop-place.place (Some c.in-Err.field-0) i.reach (next-fails bytes i.boxes c.loop-place.place c.in-Err.field-0 c.loop-place-test.true fails) in
    (i.boxes, searched bytes i.boxes (Some c.in-Err.field-0) c.requires.boxed all, i.first_is)

pub returns-clause-first : goal.returns-clause-first
returns-clause-first c =
    let i = c.loop-place.invariant in
    let bytes = c.args.file.now in
    let ends : c.loop-place.place ≡ length bytes = omega (arith, c.loop-place-test.false, i.within) in
    let all : Follow bytes [] 12 i.boxes None = follow-all bytes [] 12 i.boxes c.loop-place.place None i.reach (all-follow bytes i.boxes c.loop-place.place ends) in
    (i.boxes, searched bytes i.boxes None c.requires.boxed all, i.first_is)
