-- An image's parts hold each coded cell once, and what is decoded in one keeps the grids of each other.
use Rattle.std.proofs.Common.{ℤ, List, ap, sym}
use Rattle.jxlm_groups.specs.declared.part.SectionPart.{SectionPart}
use Rattle.jxlm_groups.specs.declared.pass.Pass.{Pass}
use Rattle.jxlm_groups.proofs.Apart.{part_kept, parts_apart}
use Rattle.jxlm_groups.proofs.Parts.{parts_hold}
use Rattle.jxl_modular.specs.Groups.{HasEachCellOnce, IsCut, KeepsOtherGrids, held_in}
use Rattle.jxl_modular.specs.Image.{Image, coded_list}
use Rattle.jxl_modular.specs.Inner.Laid.{IsLaidOut}
use Rattle.jxl_modular.specs.SameButCells.{SameButIn}
use Rattle.jxl_modular.proofs.Laid.{coded_apart}
use Rattle.jxl_modular.proofs.PieceLies.{held_inside, held_lie}

module _ {S D : Type 0} (x : Image S D) (laid : IsLaidOut x) (passes : List Pass) where
  pub each_once : IsCut x passes → HasEachCellOnce x passes
  each_once cut = record {
    once =
        parts_hold x.group_dim passes laid.asked.params x.steps (coded_list x) laid.groups laid.asked.valid laid.steps
        (rw (← laid.asked.are) cut.groups) (rw (← laid.asked.are) laid.list) cut.cells;
    apart = λ one other unlike. parts_apart x.group_dim passes (coded_list x) x.coded (coded_apart x laid) (held_inside x laid passes) one other unlike;
  }

  pub others_stay : (to_int : S → ℤ) (part : SectionPart) (new : Image S D) → SameButIn (held_in x passes part) x new → KeepsOtherGrids to_int passes part x new
  others_stay to_int part new same other unlike =
      rw ((ap (λ (z : Image S D). z.group_dim) same.cells.rest), (ap (λ (z : Image S D). z.channels) same.cells.rest), (ap (λ (z : Image S D). z.nb_meta) same.cells.rest), (ap (λ (z : Image S D). z.coded) same.cells.rest))
      (part_kept x.group_dim passes (coded_list x) x.coded (coded_apart x laid) (held_inside x laid passes) part other (λ e. unlike (sym e)) to_int x.store new.store
      (held_lie x laid passes other) same.outside)
