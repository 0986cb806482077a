use Rattle.std.proofs.Common.{◌≡◌, ◌++◌, ◌∙◌, ap, subst, ℕ, ℤ, List, rules}
use Rattle.std.specs.Prelude.{◌≢◌, IfErr, OnErr, OnOk}
use Rattle.std.specs.Io.KnownBytes.{Appends}
use Rattle.jxlm_base.specs.Grid.{Grid}
use Rattle.jxl_image_header.specs.Images.{image_of}
use Rattle.jxl_netpbm.specs.Formats.{colours_of, pfm_head}
use Rattle.jxl_netpbm.specs.Output.{AppendsBeginning, AppendsLess}
use Rattle.jxl_netpbm.specs.Rasters.{float_rows}
use Rattle.jxl_netpbm.specs.declared.output.WriteError.TheVariants.{OutOfMemory}
use Rattle.jxl_netpbm.proofs.Writing.{begun_none, on_err}
use Rattle.jxl_netpbm.proofs.format.write_pfm.Goals as goal

pub returns-in_err-head-clause-err : goal.returns-in_err-head-clause-err
returns-in_err-head-clause-err g c = on_err c.from_residual.result _ (begun_none _ _)

pub returns-clause-ok : goal.returns-clause-ok
returns-clause-ok g c =
    let image = image_of c.args.picture.now.header in
    let size = c.args.picture.now.header.size in
    let head : c.as_str.result.now ≡ pfm_head image = search rules in
    let front : c.split_at.result.0.now ≡ colours_of image c.args.picture.now.channels.items = search rules in
    subst (λ (t : List ℕ). OnOk c.write_parts.result (Appends (g.W.Write.contents c.args.output.now) (g.W.Write.contents c.write_parts.new.output) t))
    (ap (λ (t : List ℕ). t ++ float_rows image.bit_depth c.split_at.result.0.now size.width size.height size.height) head ∙ ap (λ (gs : List (Grid ℤ)). pfm_head image ++ float_rows image.bit_depth gs size.width size.height size.height) front)
    c.write_parts.ensures.ok

pub returns-clause-err : goal.returns-clause-err
returns-clause-err g c =
    let image = image_of c.args.picture.now.header in
    let size = c.args.picture.now.header.size in
    let head : c.as_str.result.now ≡ pfm_head image = search rules in
    let front : c.split_at.result.0.now ≡ colours_of image c.args.picture.now.channels.items = search rules in
    subst (λ (t : List ℕ). OnErr c.write_parts.result (AppendsBeginning (g.W.Write.contents c.args.output.now) (g.W.Write.contents c.write_parts.new.output) t))
    (ap (λ (t : List ℕ). t ++ float_rows image.bit_depth c.split_at.result.0.now size.width size.height size.height) head ∙ ap (λ (gs : List (Grid ℤ)). pfm_head image ++ float_rows image.bit_depth gs size.width size.height size.height) front)
    c.write_parts.ensures.err

pub returns-clause-short : goal.returns-clause-short
returns-clause-short g c =
    let image = image_of c.args.picture.now.header in
    let size = c.args.picture.now.header.size in
    let head : c.as_str.result.now ≡ pfm_head image = search rules in
    let front : c.split_at.result.0.now ≡ colours_of image c.args.picture.now.channels.items = search rules in
    subst (λ (t : List ℕ). IfErr c.write_parts.result (λ e. e ≢ OutOfMemory → AppendsLess (g.W.Write.contents c.args.output.now) (g.W.Write.contents c.write_parts.new.output) t))
    (ap (λ (t : List ℕ). t ++ float_rows image.bit_depth c.split_at.result.0.now size.width size.height size.height) head ∙ ap (λ (gs : List (Grid ℤ)). pfm_head image ++ float_rows image.bit_depth gs size.width size.height size.height) front)
    c.write_parts.ensures.short
