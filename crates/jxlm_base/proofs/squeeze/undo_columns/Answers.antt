use Rattle.std.proofs.Common.{◌≡◌, ℕ, ◌+◌, ◌<◌, ◌≤◌, inr, arith, ◌∙◌, refl, subst}
use Rattle.std.specs.Int.{Width}
use Rattle.jxlm_base.specs.Grid.{at as at_of, meanings}
use Rattle.jxlm_lanes.specs.Squeeze.{AreSamples}
use Rattle.jxlm_lanes.specs.Pairs.{IsUnsqueezed}
use Rattle.jxlm_base.specs.Subgrid.{whole, IsSameOutside}
use Rattle.jxlm_base.proofs.RowWrites.{outside_none, outside_columns_more}
use Rattle.jxlm_base.proofs.Undo.{moved, undone_columns_more, column_samples_more, all_columns, column_samples_all, no_columns, no_samples}
use Rattle.jxlm_base.proofs.squeeze.undo_columns.Goals as goal

pub returns-then-height-eq0 : goal.returns-then-height-eq0
returns-then-height-eq0 g c =
    let s = c.args.subgrid.now in
    let f = g.S.Pairs.to_int in
    let w : Width = g.S.Pairs.width in
    let none : s.height ≡ 0 = omega (arith, c.height-height.ensures) in
    record {
      len = refl;
      kept = record {
        place = record { loan = refl; at = record { left = refl; top = refl; columns = refl; rows = refl } };
        cells = outside_none s.x s.y s.width s.height (whole s) s.full;
      };
      undone = no_columns f w (whole s) (whole s) s.x s.y s.width s.height (inr none);
      samples = no_samples f w (whole s) (whole s) s.x s.y s.width s.height (inr none);
    }

pub loop-x-init : goal.loop-x-init
loop-x-init g c =
    let s = c.args.subgrid.now in
    let f = g.S.Pairs.to_int in
    let w : Width = g.S.Pairs.width in
    record {
      within = omega arith;
      len = refl;
      place = record { loan = refl; at = record { left = refl; top = refl; columns = refl; rows = refl } };
      cells = outside_none s.x s.y 0 s.height (whole s) s.full;
      undone = λ x h. absurd (omega arith);
      samples = λ x h. absurd (omega arith);
    }

pub loop-x-preserved : goal.loop-x-preserved
loop-x-preserved g c =
    let s = c.args.subgrid.now in
    let f = g.S.Pairs.to_int in
    let w : Width = g.S.Pairs.width in
    let k : ℕ = c.loop-x.x in
    let n : ℕ = c.min-columns.result in
    let one = whole c.loop-x.subgrid in
    let two = whole c.undo_strip.new.subgrid in
    let inv = c.loop-x.invariant in
    let at = inv.place.at in
    let wide = c.width-width.ensures in
    let below = inv.within in
    let least = c.min-columns.ensures in
    let within : k + n ≤ s.width = omega (arith, below, least, wide) in
    let p = c.undo_strip.ensures.place in
    let s1 = c.loop-x.subgrid in
    let Cells : ℕ → ℕ → ℕ → Type 0 = λ x y h. IsSameOutside (x + k) y n h one two in
    let Undone : ℕ → ℕ → ℕ → Type 0 = λ x y h. (j : ℕ) → j < n → IsUnsqueezed w h (λ i. at_of (meanings f one) (x + (k + j)) (y + i)) (λ i. at_of (meanings f two) (x + (k + j)) (y + i)) in
    let Fits : ℕ → ℕ → ℕ → Type 0 = λ x y h. (j : ℕ) → j < n → AreSamples w h (λ i. at_of (meanings f one) (x + (k + j)) (y + i)) in
    let cells = moved Cells s1.x s1.y s1.height s.x s.y s.height at.left at.top at.rows c.undo_strip.ensures.cells in
    let undone = moved Undone s1.x s1.y s1.height s.x s.y s.height at.left at.top at.rows c.undo_strip.ensures.undone in
    let samples = moved Fits s1.x s1.y s1.height s.x s.y s.height at.left at.top at.rows c.undo_strip.ensures.samples in
    let columns = s.columns_inside in
    let inside : s.x + (k + n) ≤ (whole s).width = omega (arith, within, columns) in
    record {
      within = within;
      len = c.undo_strip.ensures.len ∙ inv.len;
      place = record { loan = p.loan ∙ inv.place.loan; at = record { left = p.at.left ∙ at.left; top = p.at.top ∙ at.top; columns = p.at.columns ∙ at.columns; rows = p.at.rows ∙ at.rows } };
      cells = outside_columns_more s.x s.y s.height k n (whole s) one two inv.cells cells;
      undone = undone_columns_more f w (whole s) one two s.x s.y k n s.height inside s.rows_inside inv.cells cells inv.undone undone;
      samples = column_samples_more f w (whole s) one two s.x s.y k n s.height inside s.rows_inside inv.cells cells inv.samples samples;
    }

pub returns : goal.returns
returns g c =
    let s = c.args.subgrid.now in
    let f = g.S.Pairs.to_int in
    let w : Width = g.S.Pairs.width in
    let inv = c.loop-x.invariant in
    let at = inv.place.at in
    let one = whole c.loop-x.subgrid in
    let wide = c.width-width.ensures in
    let below = inv.within in
    let e : c.loop-x.x ≡ s.width = omega (arith, below, wide) in
    let cells = subst (λ k. IsSameOutside s.x s.y k s.height (whole s) one) e inv.cells in
    let undone = λ (j : ℕ) (h : j < s.width). inv.undone j (omega (arith, e)) in
    let samples = λ (j : ℕ) (h : j < s.width). inv.samples j (omega (arith, e)) in
    record {
      len = inv.len;
      kept = record { place = inv.place; cells = cells };
      undone = rw (at.left, at.top, at.columns, at.rows) (all_columns f w (whole s) one s.x s.y s.width s.height undone samples);
      samples = rw (at.left, at.top, at.columns, at.rows) (column_samples_all f w (whole s) one s.x s.y s.width s.height undone samples);
    }
