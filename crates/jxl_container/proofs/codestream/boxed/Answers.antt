use Rattle.std.proofs.Common.{◌≡◌, ◌∷◌, ◌++◌, [], length, None, Some, ◌∙◌, sym, arith, rules}
use Rattle.jxl_container.specs.Files.{Follow}
use Rattle.jxl_container.proofs.FileLaws.{reach-more, follow-all, next-fails, all-follow, contents-are, seen-more, parts-more, finished_err, finished_ok}
use Rattle.jxl_container.proofs.codestream.boxed.Goals as goal

pub loop-place-preserved : goal.loop-place-preserved
loop-place-preserved c =
    let i = c.loop-place.invariant in
    let b = c.in-Ok.found in
    let bytes = c.args.file.now in
    record {
      boxes = i.boxes ++ b ∷ [];
      reach = reach-more bytes [] 12 i.boxes c.loop-place.place b i.reach c.in-Ok.ensures.stands (c.in-Ok.ensures.fits i.boxes i.seen_is);
      seen_is = c.in-Ok.ensures.seen ∙ (rw i.seen_is (sym (seen-more bytes i.boxes b)));
      parts_are = c.in_ok-append-in-Ok.ensures.ok ∙ (rw i.parts_are (sym (parts-more bytes i.boxes b)));
      whole = search rules;
      within = search rules;
    }

pub returns-in-Err-clause-ok : goal.returns-in-Err-clause-ok
returns-in-Err-clause-ok c =
    let i = c.loop-place.invariant in
    let bytes = c.args.file.now in
    let fails = c.in-Err.ensures.err i.boxes i.seen_is in
    let all : Follow bytes [] 12 i.boxes (Some c.in-Err.error) = follow-all bytes [] 12 i.boxes c.loop-place.place (Some c.in-Err.error) i.reach (next-fails bytes i.boxes c.loop-place.place c.in-Err.error c.loop-place-test.true fails) in
    finished_ok bytes i.boxes (Some c.in-Err.error) c.finish.result (rw (i.seen_is, i.parts_are, sym (contents-are bytes i.boxes (Some c.in-Err.error))) at c.finish.ensures) all

pub returns-in-Err-clause-err : goal.returns-in-Err-clause-err
returns-in-Err-clause-err c =
    let i = c.loop-place.invariant in
    let bytes = c.args.file.now in
    let fails = c.in-Err.ensures.err i.boxes i.seen_is in
    let all : Follow bytes [] 12 i.boxes (Some c.in-Err.error) = follow-all bytes [] 12 i.boxes c.loop-place.place (Some c.in-Err.error) i.reach (next-fails bytes i.boxes c.loop-place.place c.in-Err.error c.loop-place-test.true fails) in
    finished_err bytes i.boxes (Some c.in-Err.error) c.finish.result (rw (i.seen_is, i.parts_are, sym (contents-are bytes i.boxes (Some c.in-Err.error))) at c.finish.ensures) all

pub returns-clause-ok : goal.returns-clause-ok
returns-clause-ok c =
    let i = c.loop-place.invariant in
    let bytes = c.args.file.now in
    let ends : c.loop-place.place ≡ length bytes = omega (arith, c.loop-place-test.false, i.within) in
    let all : Follow bytes [] 12 i.boxes None = follow-all bytes [] 12 i.boxes c.loop-place.place None i.reach (all-follow bytes i.boxes c.loop-place.place ends) in
    finished_ok bytes i.boxes None c.finish-2.result (rw (i.seen_is, i.parts_are, sym (contents-are bytes i.boxes None)) at c.finish-2.ensures) all

pub returns-clause-err : goal.returns-clause-err
returns-clause-err c =
    let i = c.loop-place.invariant in
    let bytes = c.args.file.now in
    let ends : c.loop-place.place ≡ length bytes = omega (arith, c.loop-place-test.false, i.within) in
    let all : Follow bytes [] 12 i.boxes None = follow-all bytes [] 12 i.boxes c.loop-place.place None i.reach (all-follow bytes i.boxes c.loop-place.place ends) in
    finished_err bytes i.boxes None c.finish-2.result (rw (i.seen_is, i.parts_are, sym (contents-are bytes i.boxes None)) at c.finish-2.ensures) all
