use Rattle.jxlm_groups.proofs.PartChannels.{counts_cells}
use Rattle.jxl_modular.specs.Image.{coded_list}
use Rattle.jxl_modular.proofs.image.ModularImageDestination.is_complete.Goals as goal

pub returns-clause-ok : goal.returns-clause-ok
returns-clause-ok g c =
    let held = c.in_ok-parts.ensures.ok in
    let each = c.has_each_part.ensures.each in
    let cells = counts_cells c.args.self.now.group_dim c.args.passes.now (coded_list c.args.self.now) in (
      λ e part some. let r = (cells part).0 some in (held part).0 (each.0 e part r.n r.x r.y r.has),
      λ complete. each.1 (λ part n x y h. (held part).1 (complete part ((cells part).1 (record { n = n; x = x; y = y; has = h })))),
    )
