use Rattle.std.proofs.Common.{arith}
use Rattle.jxlm_lanes.proofs.ColourRows.{start, more, end}
use Rattle.jxlm_kernels.proofs.colour.finish_from.Goals as goal

pub loop-i-init : goal.loop-i-init
loop-i-init g c = (omega arith, start g.S.Arithmetic.width g.S.Arithmetic.to_int c.args.ty c.args.from c.args.a.now c.args.b.now c.args.c.now)

pub loop-i-preserved : goal.loop-i-preserved
loop-i-preserved g c =
    let le = c.loop-i.invariant.0 in (
      omega arith,
      more g.S.Arithmetic.width g.S.Arithmetic.to_int c.args.ty c.args.from c.loop-i.i c.args.a.now c.args.b.now c.args.c.now c.loop-i.a c.loop-i.b c.loop-i.c
          c.index-a-i.result c.index-b-i.result c.index-c-i.result c.known.result c.known-in-loop-i.result c.known-in-loop-i-2.result c.finished-d.result.0 c.finished-d.result.1 c.finished-d.result.2
          le c.loop-i.invariant.1 c.loop-i-test.true c.requires.second c.requires.third c.loop-i.auto.a c.loop-i.auto.b c.loop-i.auto.c
          c.index-a-i.is c.index-b-i.is c.index-c-i.is c.known.ensures.same c.known-in-loop-i.ensures.same c.known-in-loop-i-2.ensures.same
          (record { first = c.known.ensures.fits; second = c.known-in-loop-i.ensures.fits; third = c.known-in-loop-i-2.ensures.fits })
          c.finished-d.ensures,
    )

pub returns : goal.returns
returns g c =
    end g.S.Arithmetic.width g.S.Arithmetic.to_int c.args.ty c.args.from c.loop-i.i c.args.a.now c.args.b.now c.args.c.now c.loop-i.a c.loop-i.b c.loop-i.c
    c.loop-i.invariant.1 c.loop-i-test.false
