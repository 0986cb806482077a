use Rattle.std.proofs.Common.{refl, ap, take, drop, length, ◌++◌, ◌*◌, arith}
use Rattle.std.proofs.lemmas.Grind.{common_steps}
use Rattle.jxlm_base.specs.Grid.{grid}
use Rattle.jxlm_base.proofs.grid.AlignedGrid.get_row_mut.Goals as goal

pub returns : goal.returns
returns g c = (
  (
    refl,
    λ w.
        let is = c.self.view_is in
        let len = c.self.inside.cells.ok.0 in
        rw (← is) (ap (λ n. grid c.self.inside.width c.self.inside.height (take n (let front = take (c.args.y * c.self.inside.width) c.self.inside.cells.items ++ (w ++ drop (length w) (drop (c.args.y * c.self.inside.width) c.self.inside.cells.items)) in front ++ drop (length front) c.self.inside.cells.items))) len),
  ),
  record {
    writes_back = tt;
    value = let is = c.self.view_is in let e = c.slice_mut.ensures.value in rw (← is) e;
    len = let is = c.self.view_is in rw (← is) (grind (arith, common_steps));
  },
)
