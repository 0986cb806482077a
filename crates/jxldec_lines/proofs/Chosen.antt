-- The format in which a picture is written suits it.
use Rattle.std.proofs.Common.{◌≡◌, Bool, true, false, Option, Some, None, refl, subst}
use Rattle.std.specs.Prelude.{if◌then◌else◌}
use Rattle.jxl_image_header.specs.Images.{Image}
use Rattle.jxl_netpbm.specs.Formats.{suits, usual, usual_whole}
use Rattle.jxl_netpbm.specs.declared.format.Format.{Format}
use Rattle.jxl_netpbm.specs.declared.format.Format.TheVariants.{Pfm}
use Rattle.std.specs.Option.{option_map}
use Rattle.jxldec_lines.specs.Formats.{chosen, suits_output}
use Rattle.jxldec_lines.specs.declared.format.OutputFormat.{OutputFormat}
use Rattle.jxldec_lines.specs.declared.format.OutputFormat.TheVariants.{Netpbm}

if_some : {X : Type 0} (b : Bool) (x y : X) → (if b then Some x else None) ≡ Some y → (b ≡ true) × (x ≡ y)
if_some true x y e = (refl, cc)
if_some false x y e = let bad : ⊥ = cc in absurd bad

usual_suits : (image : Image) (format : Format) → usual image ≡ Some format → suits format image ≡ true
usual_suits image format e = by (suits Pfm image) refl e where
  by : (b : Bool) → suits Pfm image ≡ b → (if b then Some Pfm else if suits (usual_whole image) image then Some (usual_whole image) else None) ≡ Some format → suits format image ≡ true
  by true is e = let same : Pfm ≡ format = cc in subst (λ g. suits g image ≡ true) same is
  by false is e = let p = if_some (suits (usual_whole image) image) (usual_whole image) format e in subst (λ g. suits g image ≡ true) p.1 p.0

usual_output : (image : Image) (o : Option Format) (format : OutputFormat) → usual image ≡ o → option_map (λ (f : Format). Netpbm f) o ≡ Some format → suits_output format image ≡ true
usual_output image (Some f) format e same = let at : Netpbm f ≡ format = cc in subst (λ g. suits_output g image ≡ true) at (usual_suits image f e)
usual_output image None format e same = let bad : ⊥ = cc in absurd bad

pub chosen_suits : (asked : Option OutputFormat) (image : Image) (format : OutputFormat) → chosen asked image ≡ Some format → suits_output format image ≡ true
chosen_suits (Some f) image format e = let p = if_some (suits_output f image) f format e in subst (λ g. suits_output g image ≡ true) p.1 p.0
chosen_suits None image format e = usual_output image (usual image) format refl e
