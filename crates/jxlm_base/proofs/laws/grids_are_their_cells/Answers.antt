use Rattle.jxlm_base.proofs.Cells.{grid_same}
use Rattle.jxlm_base.proofs.GridLaws.{IsFull-grid_by, cell-grid_by}
use Rattle.jxlm_base.proofs.laws.grids_are_their_cells.Goals as goal

pub returns-clause-full : goal.returns-clause-full
returns-clause-full g c = IsFull-grid_by

pub returns-clause-each : goal.returns-clause-each
returns-clause-each g c = cell-grid_by

pub returns-clause-one : goal.returns-clause-one
returns-clause-one g c = grid_same
