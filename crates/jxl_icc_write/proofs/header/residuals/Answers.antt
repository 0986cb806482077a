use Rattle.std.proofs.Common.{rules, arith, ◌≡◌, ◌+◌, ◌%◌, ◌<◌, length, take, refl, sym, subst}
use Rattle.std.specs.Prelude.{slice_index}
use Rattle.jxl_icc.specs.Header.{predicted}
use Rattle.jxl_icc_write.specs.Inner.Streams.{AreResiduals}
use Rattle.jxl_icc_write.proofs.Headers.{no_residuals, residuals_next}
use Rattle.jxl_icc_write.proofs.header.residuals.Goals as goal

pub loop-i-init : goal.loop-i-init
loop-i-init c = (search rules, subst (AreResiduals c.args.icc.now) (sym c.new-residuals.ensures.items) (no_residuals c.args.icc.now))

pub loop-i-preserved : goal.loop-i-preserved
loop-i-preserved c =
    let icc = c.args.icc.now in
    let i = c.loop-i.i in
    let inside : i < length icc = omega arith in
    let byte : (c.residual.result + predicted (length icc) (take i icc) i) % 256 ≡ slice_index icc i = search rules in (
      search rules,
      residuals_next icc c.loop-i.residuals.items c.push.new.self.items (take i icc) c.residual.result (length icc) i c.loop-i.invariant.1 c.loop-i.invariant.0 inside refl refl byte c.in_ok-push.ensures.items,
    )
