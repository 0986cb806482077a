use Rattle.std.proofs.Common.{◌≡◌, suc, ◌+◌, ◌^◌, ◌≤◌, refl, arith}
use Rattle.std.proofs.Math.Nat.{pow-suc, pow-le-pow_right}
use Rattle.jxl_codestream.proofs.Counted.{find_first, lower_at, higher_at, find_last, pow_next}
use Rattle.jxl_codestream.proofs.order.find.Goals as goal
use Rattle.jxl_codestream.proofs.order.find.Goals.{then-rest-left, else-rest-left}

pub loop-init : goal.loop-init
loop-init c = record {
  first = refl;
  within = omega arith;
  found = λ taken h e counted lt. let same : c.args.levels ≡ h = omega (arith, e) in find_first taken h c.args.digit (rw same at lt);
}

pub bounds-counts-first : goal.bounds-counts-first
bounds-counts-first c =
    let le : 2 ^ suc c.loop.counter ≤ 2 ^ c.args.levels = pow-le-pow_right {n = 2} (omega arith) (omega (arith, c.loop-test.true)) in
    omega (arith, le, pow-suc 2 c.loop.counter, c.loop.invariant.first, c.loop.invariant.within, c.requires.nodes)

pub loop-preserved : goal.loop-preserved
loop-preserved c =
    let twice = pow_next c.loop.counter in
    elim c.if-rest-left.branch [
      | then-rest-left w ↦ record {
        first = omega (arith, twice, c.loop.invariant.first);
        within = omega (arith, twice, c.loop.invariant.within, w.place-is);
        found = λ taken h e counted lt.
            let depth : c.loop.counter + suc h ≡ c.args.levels = omega (arith, e) in
            let before = c.loop.invariant.found taken (suc h) depth counted lt in
            higher_at c.args.counts.now taken c.args.levels c.loop.counter h c.loop.first c.loop.place c.loop.rest c.args.digit c.loop.invariant.first depth c.loop.invariant.within counted before.0 before.1
            c.if-rest-left.place c.if-rest-left.rest w.place-is w.rest-is w.if-rest-left.true;
      }
      | else-rest-left w ↦ record {
        first = omega (arith, twice, c.loop.invariant.first);
        within = omega (arith, twice, c.loop.invariant.within, w.place-is);
        found = λ taken h e counted lt.
            let depth : c.loop.counter + suc h ≡ c.args.levels = omega (arith, e) in
            let before = c.loop.invariant.found taken (suc h) depth counted lt in
            lower_at c.args.counts.now taken c.args.levels c.loop.counter h c.loop.first c.loop.place c.loop.rest c.args.digit c.loop.invariant.first depth c.loop.invariant.within counted before.0 before.1
            c.if-rest-left.place c.if-rest-left.rest w.place-is w.rest-is w.if-rest-left.false;
      }
    ]

pub returns-clause-found : goal.returns-clause-found
returns-clause-found c = λ taken counted lt.
    let all : c.loop.counter ≡ c.args.levels = omega arith in
    let end = c.loop.invariant.found taken 0 (omega (arith, all)) counted lt in
    find_last taken (2 ^ c.args.levels) c.loop.place c.loop.rest c.args.digit (rw all at c.loop.invariant.within) end.0 end.1
