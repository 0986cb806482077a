use Rattle.std.proofs.Common.{map, subst, sym}
use Rattle.std.proofs.lemmas.List.{length-map}
use Rattle.jxlm_lanes.proofs.ColourRows.{Cells, all_rows}
use Rattle.jxlm_kernels.proofs.colour.finish_rows.Goals as goal

pub returns : goal.returns
returns g c =
    let f = g.S.Arithmetic.to_int in
    let w = g.S.Arithmetic.width in
    let a = c.args.a.now in
    let b = c.args.b.now in
    let d = c.args.c.now in
    let x = c.finish_from.new.a in
    let y = c.finish_from.new.b in
    let z = c.finish_from.new.c in
    all_rows w c.args.ty (map f a) (map f b) (map f d) (map f x) (map f y) (map f z)
    (subst (λ n. Cells w f c.args.ty 0 n a b d x y z) (sym (length-map a f)) c.finish_from.ensures)
