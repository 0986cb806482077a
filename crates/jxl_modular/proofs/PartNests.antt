-- Where a header of its own can be read for a part of an image that is cut into groups.
use Rattle.std.proofs.Common.{◌≡◌, List, [], ◌++◌, sym, subst, arith, append-nil}
use Rattle.std.specs.List.{All}
use Rattle.jxlm_base.specs.Grid.{Grid}
use Rattle.jxlm_base.specs.Regions.{AllLie, LieApart}
use Rattle.jxlm_base.specs.declared.subgrid.Region.{Region}
use Rattle.jxlm_groups.specs.declared.part.SectionPart.{SectionPart}
use Rattle.jxlm_groups.specs.declared.pass.Pass.{Pass}
use Rattle.jxlm_transform.specs.declared.channels.PlacedChannel.{PlacedChannel}
use Rattle.jxlm_groups.proofs.HeldCells.{unlike_buffers}
use Rattle.jxlm_groups.proofs.PieceFacts.{channels_sides, held_apart}
use Rattle.jxlm_transform.specs.Channels.{AreRegionsOf, Channel, IsNarrow, infos, regions}
use Rattle.jxl_modular.specs.Groups.{channels_in, held_in, pieces_of}
use Rattle.jxl_modular.specs.Image.{Image, coded_list}
use Rattle.jxl_modular.specs.Inner.Laid.{IsLaidOut}
use Rattle.jxl_modular.specs.Inner.LayerCode.{CanNest}
use Rattle.jxl_modular.proofs.Laid.{coded_apart}
use Rattle.jxl_modular.proofs.NestedImage.{nested_narrow}
use Rattle.jxl_modular.proofs.PieceLies.{held_inside, held_lie}

pub part_nests : {S D : Type 0} (x : Image S D) → IsLaidOut x → (passes : List Pass) (part : SectionPart) (pieces : List PlacedChannel) →
    infos pieces ≡ channels_in x passes part → regions pieces ≡ held_in x passes part → CanNest pieces x.store []
part_nests {S} x laid passes part pieces same_infos are =
    let apart : LieApart (held_in x passes part) = held_apart x.coded (pieces_of x passes part) (coded_apart x laid) (held_inside x laid passes part) (unlike_buffers x.group_dim passes (coded_list x) part) in
    record {
      sizes =
          subst (λ (cs : List Channel). AreRegionsOf cs (regions pieces)) (sym same_infos)
          (subst (λ (rs : List Region). AreRegionsOf (channels_in x passes part) rs) (sym are) (channels_sides x.group_dim passes (coded_list x) x.coded part));
      narrow = subst (λ (cs : List Channel). All IsNarrow cs) (sym same_infos) (nested_narrow x laid passes part);
      lie =
          subst (λ (rs : List Region). AllLie rs (x.store ++ [])) (sym are)
          (subst (λ (store : List (Grid S)). AllLie (held_in x passes part) store) (sym (append-nil x.store)) (held_lie x laid passes part));
      apart = subst (λ (rs : List Region). LieApart rs) (sym are) apart;
      narrow_tables = λ k d lt. absurd (omega (arith, lt));
    }
