use Rattle.std.proofs.Common.{◌≡◌, take}
use Rattle.std.specs.List.{All}
use Rattle.jxlm_base.specs.Grid.{IsFull}
use Rattle.jxl_encode_ways.proofs.grids.copies_of.Given as goal

abbrev pub invariant-loop-grid : goal.invariant-loop-grid
invariant-loop-grid l = record { same : l.copies.items ≡ take l.grid-index l.grids; full : All IsFull l.copies.items }
