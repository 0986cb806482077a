use Rattle.std.proofs.Common.{◌≡◌, ℕ, ◌+◌, ◌*◌, ◌<◌, inl, inr, arith, ◌∙◌, refl, ap, subst}
use Rattle.std.specs.Prelude.{slice_get}
use Rattle.std.proofs.lemmas.Bool.{cases_lt}
use Rattle.jxlm_base.specs.Grid.{cell}
use Rattle.jxlm_base.specs.Subgrid.{whole}
use Rattle.jxlm_base.proofs.RowWrites.{part_cells}
use Rattle.jxlm_base.proofs.squeeze.turn_rows.Goals as goal

pub loop-j-init : goal.loop-j-init
loop-j-init g c = record { len = refl; turned = λ i j p q. absurd (omega arith) }

pub loop-j-preserved : goal.loop-j-preserved
loop-j-preserved g c =
    let s = c.args.subgrid.now in
    let rows : ℕ = c.args.rows in
    let y : ℕ = c.args.y in
    let k : ℕ = c.loop-j.j in
    let inv = c.loop-j.invariant in
    let row = c.cells.result.now in
    let wide = c.width-width.ensures in
    let columns = s.columns_inside in
    let len = c.cells.ensures.len in
    let zero : s.x + 0 ≡ s.x = omega arith in
    let read : (i : ℕ) → i < s.width → slice_get row i ≡ cell (whole s) (s.x + i) (s.y + (y + k)) = λ i p.
    part_cells (whole s) (s.x + 0) (s.y + (y + k)) c.width-width.result i row c.cells.ensures.value (omega arith) (omega arith) ∙ ap (λ z. cell (whole s) (z + i) (s.y + (y + k))) zero
    in
    record {
      len = c.turn_row.ensures.len ∙ inv.len;
      turned = λ i j p q.
          elim (cases_lt j k) [
            | inl lt ↦ c.turn_row.ensures.kept i j lt ∙ inv.turned i j p lt
            | inr ge ↦
                let same : k ≡ j = omega arith in
                subst (λ j. slice_get c.turn_row.new.turned (i * rows + j) ≡ cell (whole s) (s.x + i) (s.y + (y + j))) same (c.turn_row.ensures.turned i (omega arith) ∙ read i p)
          ];
    }
