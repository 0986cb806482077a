-- Two parts share no cell of a store, and what changes one keeps the grids of the other.
use Rattle.std.proofs.Common.{◌+◌, List, get_or, refl, arith}
use Rattle.jxlm_base.specs.Grid.{at}
use Rattle.jxlm_base.specs.Outside.{buffer_at}
use Rattle.jxlm_base.specs.Regions.{grid_of}
use Rattle.jxlm_base.specs.declared.subgrid.Region.{Region}
use Rattle.jxlm_base.proofs.GridLaws.{grid_by_same}
use Rattle.jxlm_groups.specs.Pieces.{pieces}
use Rattle.jxlm_groups.specs.Parts.{HaveCell, OtherPartsStay, PartsShareNoCell}
use Rattle.jxlm_groups.proofs.Apart.{have_at, map_same, parts_apart}
use Rattle.jxlm_groups.proofs.HeldCells.{no_common}
use Rattle.jxlm_groups.proofs.PieceFacts.{each_inside}

pub share_no_cell : PartsShareNoCell
share_no_cell dim passes l coded one other sides apart unlike =
    parts_apart dim passes l coded apart (λ name. each_inside dim passes l coded sides name) one other unlike

pub others_stay : OtherPartsStay
others_stay dim passes l one other old new unlike keeps =
    let qs : List Region = pieces dim passes l other in
    map_same (grid_of new) (grid_of old) qs (λ k d lk.
    let r : Region = get_or qs k d in
    grid_by_same r.width r.height (λ i j. at (buffer_at new r.buffer) (r.x + i) (r.y + j)) (λ i j. at (buffer_at old r.buffer) (r.x + i) (r.y + j)) (λ i j a b.
    keeps.cells r.buffer (r.x + i) (r.y + j) (λ h.
    let here : HaveCell qs r.buffer (r.x + i) (r.y + j) = have_at qs k d r.buffer (r.x + i) (r.y + j) lk (record { buffer = refl; left = omega arith; right = omega (arith, a); top = omega arith; bottom = omega (arith, b) }) in
    no_common dim passes l one other unlike r.buffer (r.x + i) (r.y + j) h here)))
