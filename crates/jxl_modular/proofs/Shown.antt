-- What is shown of an image is the image of its clone.
use Rattle.std.proofs.Common.{◌≡◌, ℕ, List, ℤ, length, take, ap, sym, subst}
use Rattle.std.specs.Int.{Width}
use Rattle.jxlm_base.specs.Grid.{Grid}
use Rattle.jxlm_base.specs.Regions.{store_meanings}
use Rattle.jxlm_chain.specs.Chain as chain
use Rattle.jxlm_transform.specs.Channels.{AreGridsOf, Channel}
use Rattle.jxlm_transform.specs.ChannelSteps.{Step}
use Rattle.jxl_modular.specs.Image.{Image, IsOnlyImage, coded_grids, given_list, image_grids}
use Rattle.jxl_modular.specs.SameButCells.{SameButCells}

module _ {S D : Type 0} (to_int : S → ℤ) (w : Width) (x copy after : Image S D) (is : copy ≡ x) (same : SameButCells copy after) (channels : List (Grid S)) where
  pub shown_only : channels ≡ take (length after.given) after.store → IsOnlyImage w after (image_grids to_int after) (coded_grids to_int copy) →
      IsOnlyImage w x (store_meanings to_int channels) (coded_grids to_int x)
  shown_only taken only =
      let of_copy : IsOnlyImage w copy (image_grids to_int after) (coded_grids to_int copy) =
      subst (λ (n : ℕ). chain.IsOnlyImage w n copy.steps (given_list copy) (image_grids to_int after) (coded_grids to_int copy)) (ap (λ (z : Image S D). z.bit_depth) same.rest)
      (subst (λ (ss : List Step). chain.IsOnlyImage w after.bit_depth ss (given_list copy) (image_grids to_int after) (coded_grids to_int copy)) (ap (λ (z : Image S D). z.steps) same.rest)
      (subst (λ (cs : List Channel). chain.IsOnlyImage w after.bit_depth after.steps (record { channels = cs; nb_meta = 0 }) (image_grids to_int after) (coded_grids to_int copy)) (ap (λ (z : Image S D). z.given) same.rest) only)) in
      subst (λ (gs : List (Grid S)). IsOnlyImage w x (store_meanings to_int gs) (coded_grids to_int x)) (sym taken)
      (subst (λ (y : Image S D). IsOnlyImage w y (image_grids to_int after) (coded_grids to_int y)) is of_copy)

  pub shown_sizes : AreGridsOf after.given channels → AreGridsOf x.given channels
  shown_sizes sizes =
      subst (λ (y : Image S D). AreGridsOf y.given channels) is (subst (λ (cs : List Channel). AreGridsOf cs channels) (ap (λ (z : Image S D). z.given) same.rest) sizes)
