-- Cells of a place's rectangle, mixed with those of a channel.
use Rattle.std.proofs.Common.{◌≡◌, ℕ, ℤ, pos, ◌+◌, ◌<◌, List, length, get_or, refl, ap, ◌∙◌, subst}
use Rattle.jxlm_base.specs.Grid.{Grid, at}
use Rattle.jxl_image_header.specs.Images.{Image}
use Rattle.jxl_patches.specs.Patched.{mixed_sample}
use Rattle.jxl_patches.specs.Inner.Rows.{IsRowMixed, mixed_cell, mixed_row}
use Rattle.jxl_patches.specs.declared.dictionary.Place.{Place}
use Rattle.jxl_patches.specs.declared.dictionary.PatchMode.{PatchMode}
use Rattle.jxl_patches.proofs.Putting.{mixed_by}

module _ (image : Image) (colours : ℕ) (mode : PatchMode) (c : ℕ) where
  -- points with the same numbers
  pub same_mixed : (s t a b u v d e : ℤ) → s ≡ t → a ≡ b → u ≡ v → d ≡ e →
      mixed_sample image colours mode c (record { sample = s; alpha = a }) (record { sample = u; alpha = d }) ≡ mixed_sample image colours mode c (record { sample = t; alpha = b }) (record { sample = v; alpha = e })
  same_mixed s t a b u v d e p q r w =
      ap (λ (z : ℤ). mixed_sample image colours mode c (record { sample = z; alpha = a }) (record { sample = u; alpha = d })) p
      ∙ ap (λ (z : ℤ). mixed_sample image colours mode c (record { sample = t; alpha = z }) (record { sample = u; alpha = d })) q
      ∙ ap (λ (z : ℤ). mixed_sample image colours mode c (record { sample = t; alpha = b }) (record { sample = z; alpha = d })) r
      ∙ ap (λ (z : ℤ). mixed_sample image colours mode c (record { sample = t; alpha = b }) (record { sample = v; alpha = z })) w

  -- a row that was mixed, as cells
  pub row_of_cells : (p : Place) (source source_alpha alpha : Grid ℤ) (j : ℕ) (from from_alpha below old new : List ℤ) →
      ((i : ℕ) → i < p.source.width → get_or from i (pos 0) ≡ at source (p.source.x0 + i) (p.source.y0 + j)) →
      ((i : ℕ) → i < p.source.width → get_or from_alpha i (pos 0) ≡ at source_alpha (p.source.x0 + i) (p.source.y0 + j)) →
      ((i : ℕ) → i < p.source.width → get_or below i (pos 0) ≡ at alpha i j) → length from ≡ p.source.width →
      IsRowMixed (mixed_row image colours mode c from from_alpha below) p.x (length from) old new →
      IsRowMixed (λ i v. mixed_cell image colours mode c p source source_alpha alpha i j v) p.x p.source.width old new
  row_of_cells p source source_alpha alpha j from from_alpha below old new s a b long mix =
      mixed_by (mixed_row image colours mode c from from_alpha below) (λ i v. mixed_cell image colours mode c p source source_alpha alpha i j v) p.x p.source.width old new
      (λ i v lt. same_mixed _ _ _ _ v v _ _ (s i lt) (a i lt) refl (b i lt))
      (subst (λ n. IsRowMixed (mixed_row image colours mode c from from_alpha below) p.x n old new) long mix)
