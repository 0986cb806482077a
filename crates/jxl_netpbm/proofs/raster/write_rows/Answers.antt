use Rattle.std.proofs.Common.{◌≤◌, ◌+◌, ℕ, take, ap, subst, sym, arith}
use Rattle.std.specs.Io.KnownBytes.{Appends}
use Rattle.jxl_netpbm.specs.Output.{AppendsLess}
use Rattle.jxl_netpbm.specs.Inner.Rows.{row_text, rows_text}
use Rattle.jxl_netpbm.proofs.Growing.{below_more}
use Rattle.jxl_netpbm.proofs.Writing.{IsPending, less_rows, on_err, on_err_so, pending_less, pending_more, pending_none, pending_written}
use Rattle.jxl_netpbm.proofs.raster.write_rows.Goals as goal
use Rattle.jxl_netpbm.proofs.raster.write_rows.Goals.{then-piece-end+in_ok-write_whole, else-piece-end}

pub returns-in_err-write_whole-clause-short : goal.returns-in_err-write_whole-clause-short
returns-in_err-write_whole-clause-short g c =
    let held = g.W.Write.contents c.args.output.now in
    let now = g.W.Write.contents c.loop-k.output in
    let after = g.W.Write.contents c.write_whole.new.output in
    let raster = c.args.raster.now in
    let made = take c.put_row-end.result c.put_row-end.new.bytes in
    let pending : IsPending held now made (rows_text raster (c.loop-k.k + 1)) =
    pending_more held now (take c.loop-k.end c.loop-k.piece) (rows_text raster c.loop-k.k) c.loop-k.invariant.pending made (row_text raster c.loop-k.k) (rows_text raster (c.loop-k.k + 1)) c.put_row-end.ensures.text (below_more (row_text raster) c.loop-k.k) in
    let begun : AppendsLess now after made = c.in_err-write_whole.ensures.short in
    on_err c.from_residual.result _ (less_rows held after (row_text raster) (c.loop-k.k + 1) raster.height (let less = c.loop-k-test.true in omega (arith, less)) (pending_less held now made (rows_text raster (c.loop-k.k + 1)) pending after begun))

pub loop-k-preserved : goal.loop-k-preserved
loop-k-preserved g c =
    let held = g.W.Write.contents c.args.output.now in
    let now = g.W.Write.contents c.loop-k.output in
    let raster = c.args.raster.now in
    let bytes = c.put_row-end.new.bytes in
    let made = take c.put_row-end.result bytes in
    let text = rows_text raster (c.loop-k.k + 1) in
    let pending : IsPending held now made text =
    pending_more held now (take c.loop-k.end c.loop-k.piece) (rows_text raster c.loop-k.k) c.loop-k.invariant.pending made (row_text raster c.loop-k.k) text c.put_row-end.ensures.text (below_more (row_text raster) c.loop-k.k) in
    let placed : c.put_row-end.result ≤ c.loop-k.end + c.args.room = subst (λ (n : ℕ). c.put_row-end.result ≤ c.loop-k.end + n) (sym c.requires.row) c.put_row-end.ensures.end in
    elim c.if-piece-end.branch [
      | then-piece-end+in_ok-write_whole w ↦
          let after = g.W.Write.contents w.write_whole.new.output in
          let wrote : Appends now after made = w.in_ok-write_whole.ensures.ok in
          record {
            room = omega (arith, w.end-is, c.requires.room, c.put_row-end.auto.bytes, c.loop-k.auto.piece);
            pending = subst (λ (o : _). IsPending held (g.W.Write.contents o) (take c.if-piece-end.end bytes) text) (sym w.output-is)
                (pending_none held after (take c.if-piece-end.end bytes) text (pending_written held now made text pending after wrote) (ap (λ (n : ℕ). take n bytes) w.end-is));
          }
      | else-piece-end w ↦ record {
        room = omega (arith, w.end-is, w.if-piece-end.false, placed, c.loop-k.invariant.room, c.put_row-end.auto.bytes, c.loop-k.auto.piece);
        pending = subst (λ (o : _). IsPending held (g.W.Write.contents o) (take c.if-piece-end.end bytes) text) (sym w.output-is)
            (subst (λ (n : ℕ). IsPending held now (take n bytes) text) (sym w.end-is) pending);
      }
    ]

pub returns-clause-short : goal.returns-clause-short
returns-clause-short g c =
    let held = g.W.Write.contents c.args.output.now in
    let now = g.W.Write.contents c.loop-k.output in
    let after = g.W.Write.contents c.write_whole-2.new.output in
    let raster = c.args.raster.now in
    let made = take c.loop-k.end c.loop-k.piece in
    on_err_so c.write_whole-2.result _ _
    (λ b. less_rows held after (row_text raster) c.loop-k.k raster.height c.loop-k.auto.k-end
    (pending_less held now made (rows_text raster c.loop-k.k) c.loop-k.invariant.pending after b))
    c.write_whole-2.ensures.short
