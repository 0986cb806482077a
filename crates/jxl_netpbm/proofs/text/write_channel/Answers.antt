use Rattle.std.proofs.Common.{◌≡◌, ℕ, List, subst, take, rules}
use Rattle.std.specs.Io.KnownBytes.{Appends}
use Rattle.std.proofs.KnownBytes.{Appends-trans}
use Rattle.jxl_text.specs.Printing.{heading, rows_text, channel_text}
use Rattle.jxl_netpbm.specs.Output.{AppendsLess}
use Rattle.jxl_netpbm.proofs.Writing.{less_first, less_second, on_err, on_err_so, on_ok_so}
use Rattle.jxl_netpbm.proofs.text.write_channel.Goals as goal

pub returns-in_err-write_whole-clause-short : goal.returns-in_err-write_whole-clause-short
returns-in_err-write_whole-clause-short g c =
    let held = g.W.Write.contents c.args.output.now in
    let after = g.W.Write.contents c.write_whole.new.output in
    let grid = c.args.channel.now in
    let name = heading c.args.number grid.width grid.height in
    let made : take c.put_heading-end.result c.put_heading-end.new.bytes ≡ name = search rules in
    let begun : AppendsLess held after (take c.put_heading-end.result c.put_heading-end.new.bytes) = c.in_err-write_whole.ensures.short in
    on_err c.from_residual.result (AppendsLess held after (channel_text c.args.number grid)) (less_first held after name (rows_text grid grid.height) (subst (λ (t : List ℕ). AppendsLess held after t) made begun))

pub returns-clause-ok : goal.returns-clause-ok
returns-clause-ok g c =
    let held = g.W.Write.contents c.args.output.now in
    let now = g.W.Write.contents c.write_whole.new.output in
    let after = g.W.Write.contents c.write_rows.new.output in
    let grid = c.args.channel.now in
    let name = heading c.args.number grid.width grid.height in
    let made : take c.put_heading-end.result c.put_heading-end.new.bytes ≡ name = search rules in
    let first : Appends held now (take c.put_heading-end.result c.put_heading-end.new.bytes) = c.in_ok-write_whole.ensures.ok in
    on_ok_so c.write_rows.result _ (Appends held after (channel_text c.args.number grid))
    (λ p. Appends-trans held now after name (rows_text grid grid.height) (subst (λ (t : List ℕ). Appends held now t) made first) (subst (λ (n : ℕ). Appends now after (rows_text grid n)) c.height.ensures.value p)) c.write_rows.ensures.ok

pub returns-clause-short : goal.returns-clause-short
returns-clause-short g c =
    let held = g.W.Write.contents c.args.output.now in
    let now = g.W.Write.contents c.write_whole.new.output in
    let after = g.W.Write.contents c.write_rows.new.output in
    let grid = c.args.channel.now in
    let name = heading c.args.number grid.width grid.height in
    let made : take c.put_heading-end.result c.put_heading-end.new.bytes ≡ name = search rules in
    let first : Appends held now (take c.put_heading-end.result c.put_heading-end.new.bytes) = c.in_ok-write_whole.ensures.ok in
    on_err_so c.write_rows.result _ (AppendsLess held after (channel_text c.args.number grid))
    (λ b. less_second held now after name (rows_text grid grid.height) (subst (λ (t : List ℕ). Appends held now t) made first) (subst (λ (n : ℕ). AppendsLess now after (rows_text grid n)) c.height.ensures.value b)) c.write_rows.ensures.short
