use Rattle.std.proofs.Common.{◌≡◌, ◌++◌, ◌∙◌, ℕ, ℤ, ap, subst, List, sym, rules}
use Rattle.std.specs.Prelude.{◌≢◌, IfErr, OnErr, OnOk}
use Rattle.std.specs.Io.KnownBytes.{Appends}
use Rattle.jxlm_base.specs.Grid.{Grid}
use Rattle.jxl_netpbm.specs.Output.{AppendsBeginning, AppendsLess}
use Rattle.jxl_image_header.specs.Images.{Image, image_of}
use Rattle.jxl_netpbm.specs.Formats.{colour_layers, most_of, pnm_head, pnm_text}
use Rattle.jxl_netpbm.specs.Rasters.{Layer, raster_text}
use Rattle.jxl_netpbm.specs.Layers.{layers_of}
use Rattle.std.specs.List.{All}
use Rattle.jxl_netpbm.proofs.LayerLaws.{Cover, colours_cover, covers_held}
use Rattle.jxl_netpbm.specs.declared.output.WriteError.TheVariants.{OutOfMemory}
use Rattle.jxl_netpbm.proofs.Writing.{begun_none, on_err}
use Rattle.jxl_netpbm.proofs.format.write_pnm.Goals as goal

pub returns-in_err-layers-clause-err : goal.returns-in_err-layers-clause-err
returns-in_err-layers-clause-err g c = on_err c.from_residual.result _ (begun_none _ _)

pub returns-in_err-head-clause-err : goal.returns-in_err-head-clause-err
returns-in_err-head-clause-err g c = on_err c.from_residual-in_err-head.result _ (begun_none _ _)

-- what is written is the text of the picture
pnm_is : (magic head : List ℕ) (image : Image) (channels : List (Grid ℤ)) (most : ℕ) (layers : List Layer) → head ≡ pnm_head magic image → most ≡ most_of image → layers ≡ colour_layers image channels →
    head ++ raster_text most layers image.size.width image.size.height ≡ pnm_text magic image channels
pnm_is magic head image channels most layers e f h =
    ap (λ (t : List ℕ). t ++ raster_text most layers image.size.width image.size.height) e ∙ ap (λ (n : ℕ). pnm_head magic image ++ raster_text n layers image.size.width image.size.height) f
    ∙ ap (λ (ls : List Layer). pnm_head magic image ++ raster_text (most_of image) ls image.size.width image.size.height) h

pub returns-clause-ok : goal.returns-clause-ok
returns-clause-ok g c =
    let image = image_of c.args.picture.now.header in
    let channels = c.args.picture.now.channels.items in
    let head : c.as_str.result.now ≡ pnm_head c.args.magic.now image = search rules in
    let most : c.maximum-most.result ≡ most_of image = search rules in
    let same : layers_of c.deref-2.result.now ≡ colour_layers image channels = search rules in
    subst (λ (t : List ℕ). OnOk c.write_numbers.result (Appends (g.W.Write.contents c.args.output.now) (g.W.Write.contents c.write_numbers.new.output) t))
    (pnm_is c.args.magic.now c.as_str.result.now image channels c.maximum-most.result (layers_of c.deref-2.result.now) head most same) c.write_numbers.ensures.ok

pub returns-clause-err : goal.returns-clause-err
returns-clause-err g c =
    let image = image_of c.args.picture.now.header in
    let channels = c.args.picture.now.channels.items in
    let head : c.as_str.result.now ≡ pnm_head c.args.magic.now image = search rules in
    let most : c.maximum-most.result ≡ most_of image = search rules in
    let same : layers_of c.deref-2.result.now ≡ colour_layers image channels = search rules in
    subst (λ (t : List ℕ). OnErr c.write_numbers.result (AppendsBeginning (g.W.Write.contents c.args.output.now) (g.W.Write.contents c.write_numbers.new.output) t))
    (pnm_is c.args.magic.now c.as_str.result.now image channels c.maximum-most.result (layers_of c.deref-2.result.now) head most same) c.write_numbers.ensures.err

pub returns-clause-short : goal.returns-clause-short
returns-clause-short g c =
    let image = image_of c.args.picture.now.header in
    let channels = c.args.picture.now.channels.items in
    let head : c.as_str.result.now ≡ pnm_head c.args.magic.now image = search rules in
    let most : c.maximum-most.result ≡ most_of image = search rules in
    let same : layers_of c.deref-2.result.now ≡ colour_layers image channels = search rules in
    subst (λ (t : List ℕ). IfErr c.write_numbers.result (λ e. e ≢ OutOfMemory → AppendsLess (g.W.Write.contents c.args.output.now) (g.W.Write.contents c.write_numbers.new.output) t))
    (pnm_is c.args.magic.now c.as_str.result.now image channels c.maximum-most.result (layers_of c.deref-2.result.now) head most same) c.write_numbers.ensures.short

pub write_numbers-requires-clause-within : goal.write_numbers-requires-clause-within
write_numbers-requires-clause-within g c =
    let image = image_of c.args.picture.now.header in
    let same : layers_of c.deref-2.result.now ≡ colour_layers image c.args.picture.now.channels.items = search rules in
    covers_held image.size.width image.size.height c.deref-2.result.now
    (subst (λ (ls : List Layer). All (Cover image.size.width image.size.height) ls) (sym same) (colours_cover image c.args.picture.now.channels.items c.requires.whole c.requires.depth))
