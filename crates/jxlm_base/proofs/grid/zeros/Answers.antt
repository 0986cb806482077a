use Rattle.std.proofs.Common.{◌≡◌, ◌+◌, ◌*◌, ◌++◌, ◌-◌, pos, subst, arith}
use Rattle.std.specs.Prelude.{replicate, take}
use Rattle.jxlm_base.proofs.Resized.{copies, resized}
use Rattle.jxlm_base.proofs.grid.zeros.Goals as goal

pub loop-preserved : goal.loop-preserved
loop-preserved g c =
    let z = g.S.Sealed.from_int (pos 0) in
    let zero = g.met.S.Sealed.default_is_zero c.default-zero.result c.default-zero.ensures in
    let many = copies (c.loop.counter * 256) c.loop.cells.len z c.loop.cells.items c.loop.invariant c.loop.cells.ok.0 in
    let is = c.len.ensures in
    let now : c.len.result + 256 ≡ (c.loop.counter + 1) * 256 = omega (arith, many, is) in
    let e = subst (λ m. c.resize.new.self.items ≡ take m c.loop.cells.items ++ replicate (m - c.loop.cells.len) c.default-zero.result) now c.in_ok-resize.ensures.items in
    resized (c.loop.counter * 256) ((c.loop.counter + 1) * 256) c.loop.cells.len z c.default-zero.result c.loop.cells.items c.resize.new.self.items
    c.loop.invariant c.loop.cells.ok.0 zero (omega arith) e

pub returns : goal.returns
returns g c =
    let zero = g.met.S.Sealed.default_is_zero c.default-zero.result c.default-zero.ensures in
    resized (c.loop.counter * 256) c.args.count c.loop.cells.len (g.S.Sealed.from_int (pos 0)) c.default-zero.result c.loop.cells.items c.resize-2.new.self.items
    c.loop.invariant c.loop.cells.ok.0 zero (omega arith) c.in_ok-resize-2.ensures.items
