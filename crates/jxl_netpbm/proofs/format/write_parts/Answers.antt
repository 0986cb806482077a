use Rattle.std.proofs.Common.{List, ℕ, ◌++◌, subst}
use Rattle.std.specs.Io.KnownBytes.{Appends}
use Rattle.jxl_netpbm.specs.Inner.Rows.{rows_text}
use Rattle.jxl_netpbm.specs.Output.{AppendsLess}
use Rattle.jxl_netpbm.proofs.Writing.{less_begun, less_first, less_second}
use Rattle.jxl_netpbm.proofs.format.write_parts.Goals as goal

pub returns-in-Err-clause-err : goal.returns-in-Err-clause-err
returns-in-Err-clause-err g c =
    let held = g.W.Write.contents c.args.output.now in
    let after = g.W.Write.contents c.write_whole.new.output in
    less_begun held after (c.args.head.now ++ rows_text c.args.raster.now c.args.raster.now.height)
    (less_first held after c.args.head.now (rows_text c.args.raster.now c.args.raster.now.height)
    (subst (λ (t : List ℕ). AppendsLess held after t) c.as_bytes.ensures.value c.in-Err.ensures.short))

pub returns-in-Err-clause-short : goal.returns-in-Err-clause-short
returns-in-Err-clause-short g c = λ other.
    let held = g.W.Write.contents c.args.output.now in
    let after = g.W.Write.contents c.write_whole.new.output in
    less_first held after c.args.head.now (rows_text c.args.raster.now c.args.raster.now.height)
    (subst (λ (t : List ℕ). AppendsLess held after t) c.as_bytes.ensures.value c.in-Err.ensures.short)

pub returns-clause-err : goal.returns-clause-err
returns-clause-err g c =
    let held = g.W.Write.contents c.args.output.now in
    let now = g.W.Write.contents c.write_whole.new.output in
    let after = g.W.Write.contents c.write_rows.new.output in
    less_begun held after (c.args.head.now ++ rows_text c.args.raster.now c.args.raster.now.height)
    (less_second held now after c.args.head.now (rows_text c.args.raster.now c.args.raster.now.height)
    (subst (λ (t : List ℕ). Appends held now t) c.as_bytes.ensures.value c.in_default-write_whole.ensures.ok)
    c.in-Err-write_rows.ensures.short)

pub returns-clause-short : goal.returns-clause-short
returns-clause-short g c = λ other.
    let held = g.W.Write.contents c.args.output.now in
    let now = g.W.Write.contents c.write_whole.new.output in
    let after = g.W.Write.contents c.write_rows.new.output in
    less_second held now after c.args.head.now (rows_text c.args.raster.now c.args.raster.now.height)
    (subst (λ (t : List ℕ). Appends held now t) c.as_bytes.ensures.value c.in_default-write_whole.ensures.ok)
    c.in-Err-write_rows.ensures.short
