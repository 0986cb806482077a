use Rattle.std.proofs.Common.{◌≡◌, ℕ, ◌+◌, ◌<◌, ◌≤◌, inl, arith, ◌∙◌, refl, subst}
use Rattle.std.specs.Int.{Width}
use Rattle.jxlm_base.specs.Grid.{at as at_of, meanings}
use Rattle.jxlm_lanes.specs.Squeeze.{AreSamples}
use Rattle.jxlm_lanes.specs.Pairs.{IsUnsqueezed}
use Rattle.jxlm_base.specs.Subgrid.{whole, IsSameOutside}
use Rattle.jxlm_base.proofs.RowWrites.{outside_none, outside_rows_more}
use Rattle.jxlm_base.proofs.Undo.{moved, undone_rows_more, row_samples_more, all_rows, row_samples_all, no_rows, no_samples}
use Rattle.jxlm_base.proofs.squeeze.undo_rows.Goals as goal

pub returns-then-width-eq0 : goal.returns-then-width-eq0
returns-then-width-eq0 g c =
    let s = c.args.subgrid.now in
    let f = g.S.Pairs.to_int in
    let w : Width = g.S.Pairs.width in
    let none : s.width ≡ 0 = omega (arith, c.width-width.ensures) in
    record {
      len = refl;
      kept = record {
        place = record { loan = refl; at = record { left = refl; top = refl; columns = refl; rows = refl } };
        cells = outside_none s.x s.y s.width s.height (whole s) s.full;
      };
      undone = no_rows f w (whole s) (whole s) s.x s.y s.width s.height (inl none);
      samples = no_samples f w (whole s) (whole s) s.x s.y s.width s.height (inl none);
    }

pub loop-y-init : goal.loop-y-init
loop-y-init g c =
    let s = c.args.subgrid.now in
    let f = g.S.Pairs.to_int in
    let w : Width = g.S.Pairs.width in
    record {
      within = omega arith;
      len = refl;
      place = record { loan = refl; at = record { left = refl; top = refl; columns = refl; rows = refl } };
      cells = outside_none s.x s.y s.width 0 (whole s) s.full;
      undone = λ y h. absurd (omega arith);
      samples = λ y h. absurd (omega arith);
    }

pub undo_some_rows-y-requires : goal.undo_some_rows-y-requires
undo_some_rows-y-requires g c =
    let inv = c.loop-y.invariant in
    let len = inv.len in
    let high = c.height-height.ensures in
    let wide = c.width-width.ensures in
    let rows = inv.place.at.rows in
    let columns = inv.place.at.columns in
    let room = c.requires in record { in_rows = omega (arith, high, rows); some_columns = omega (arith, wide, columns); room = omega (arith, len, columns, room) }

pub loop-y-preserved : goal.loop-y-preserved
loop-y-preserved g c =
    let s = c.args.subgrid.now in
    let f = g.S.Pairs.to_int in
    let w : Width = g.S.Pairs.width in
    let k : ℕ = c.loop-y.y in
    let n : ℕ = c.undo_some_rows-y.result in
    let one = whole c.loop-y.subgrid in
    let two = whole c.undo_some_rows-y.new.subgrid in
    let inv = c.loop-y.invariant in
    let at = inv.place.at in
    let high = at.rows in
    let more = c.undo_some_rows-y.ensures.inside in
    let within : k + n ≤ s.height = omega (arith, high, more) in
    let p = c.undo_some_rows-y.ensures.place in
    let s1 = c.loop-y.subgrid in
    let Cells : ℕ → ℕ → ℕ → Type 0 = λ x y h. IsSameOutside x (y + k) h n one two in
    let Undone : ℕ → ℕ → ℕ → Type 0 = λ x y h. (j : ℕ) → j < n → IsUnsqueezed w h (λ i. at_of (meanings f one) (x + i) (y + (k + j))) (λ i. at_of (meanings f two) (x + i) (y + (k + j))) in
    let Fits : ℕ → ℕ → ℕ → Type 0 = λ x y h. (j : ℕ) → j < n → AreSamples w h (λ i. at_of (meanings f one) (x + i) (y + (k + j))) in
    let cells = moved Cells s1.x s1.y s1.width s.x s.y s.width at.left at.top at.columns c.undo_some_rows-y.ensures.cells in
    let undone = moved Undone s1.x s1.y s1.width s.x s.y s.width at.left at.top at.columns c.undo_some_rows-y.ensures.undone in
    let samples = moved Fits s1.x s1.y s1.width s.x s.y s.width at.left at.top at.columns c.undo_some_rows-y.ensures.samples in
    let rows = s.rows_inside in
    let inside : s.y + (k + n) ≤ (whole s).height = omega (arith, within, rows) in
    record {
      within = within;
      len = c.undo_some_rows-y.ensures.len ∙ inv.len;
      place = record { loan = p.loan ∙ inv.place.loan; at = record { left = p.at.left ∙ at.left; top = p.at.top ∙ at.top; columns = p.at.columns ∙ at.columns; rows = p.at.rows ∙ at.rows } };
      cells = outside_rows_more s.x s.y s.width k n (whole s) one two inv.cells cells;
      undone = undone_rows_more f w (whole s) one two s.x s.y s.width k n s.columns_inside inside inv.cells cells inv.undone undone;
      samples = row_samples_more f w (whole s) one two s.x s.y s.width k n s.columns_inside inside inv.cells cells inv.samples samples;
    }

pub returns : goal.returns
returns g c =
    let s = c.args.subgrid.now in
    let f = g.S.Pairs.to_int in
    let w : Width = g.S.Pairs.width in
    let inv = c.loop-y.invariant in
    let at = inv.place.at in
    let one = whole c.loop-y.subgrid in
    let high = c.height-height.ensures in
    let below = inv.within in
    let e : c.loop-y.y ≡ s.height = omega (arith, below, high) in
    let cells = subst (λ k. IsSameOutside s.x s.y s.width k (whole s) one) e inv.cells in
    let undone = λ (j : ℕ) (h : j < s.height). inv.undone j (omega (arith, e)) in
    let samples = λ (j : ℕ) (h : j < s.height). inv.samples j (omega (arith, e)) in
    record {
      len = inv.len;
      kept = record { place = inv.place; cells = cells };
      undone = rw (at.left, at.top, at.columns, at.rows) (all_rows f w (whole s) one s.x s.y s.width s.height undone samples);
      samples = rw (at.left, at.top, at.columns, at.rows) (row_samples_all f w (whole s) one s.x s.y s.width s.height undone samples);
    }
