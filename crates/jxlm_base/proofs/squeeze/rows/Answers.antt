use Rattle.std.proofs.Common.{◌≡◌, ◌⊎◌, refl, rules}
use Rattle.jxlm_base.specs.Subgrid.{whole}
use Rattle.jxlm_base.proofs.RowWrites.{outside_none}
use Rattle.jxlm_base.proofs.Undo.{no_rows, no_samples}
use Rattle.jxlm_base.proofs.squeeze.rows.Goals as goal

pub returns-then-is_empty-clause-kept : goal.returns-then-is_empty-clause-kept
returns-then-is_empty-clause-kept g c =
    let s = c.args.subgrid.now in
    record {
      place = record { loan = refl; at = record { left = refl; top = refl; columns = refl; rows = refl } };
      cells = outside_none s.x s.y s.width s.height (whole s) s.full;
    }

pub returns-then-is_empty-clause-undone : goal.returns-then-is_empty-clause-undone
returns-then-is_empty-clause-undone g c =
    let s = c.args.subgrid.now in
    let none : (s.width ≡ 0) ⊎ (s.height ≡ 0) = search rules in
    no_rows g.S.Pairs.to_int g.S.Pairs.width (whole s) (whole s) s.x s.y s.width s.height none

pub returns-then-is_empty-clause-samples : goal.returns-then-is_empty-clause-samples
returns-then-is_empty-clause-samples g c =
    let s = c.args.subgrid.now in
    let none : (s.width ≡ 0) ⊎ (s.height ≡ 0) = search rules in
    no_samples g.S.Pairs.to_int g.S.Pairs.width (whole s) (whole s) s.x s.y s.width s.height none

pub returns-in_err-scratch-clause-kept : goal.returns-in_err-scratch-clause-kept
returns-in_err-scratch-clause-kept g c =
    let s = c.args.subgrid.now in
    record {
      place = record { loan = refl; at = record { left = refl; top = refl; columns = refl; rows = refl } };
      cells = outside_none s.x s.y s.width s.height (whole s) s.full;
    }

pub returns-in_err-room-clause-kept : goal.returns-in_err-room-clause-kept
returns-in_err-room-clause-kept g c =
    let s = c.args.subgrid.now in
    record {
      place = record { loan = refl; at = record { left = refl; top = refl; columns = refl; rows = refl } };
      cells = outside_none s.x s.y s.width s.height (whole s) s.full;
    }
