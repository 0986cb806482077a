-- What a format does not hold of what the samples of a picture mean, and the lines that warn of it.
use Rattle.std.specs.Prelude.{ℕ, List, [], ◌++◌, ◌||◌, Bool, true, false, if◌then◌else◌, codes}
use Rattle.jxl_image_header.specs.Images.{Image}
use Rattle.jxl_png_write.specs.Losses.{losses_of}
use Rattle.jxl_png_write.specs.declared.losses.Losses.{Losses}
use Rattle.jxldec_lines.specs.Failures.{line_about}
use Rattle.jxldec_lines.specs.declared.format.OutputFormat.{OutputFormat}
use Rattle.jxldec_lines.specs.declared.format.OutputFormat.TheVariants.{Netpbm, Png}
use Rattle.jxldec_lines.specs.declared.loss.Loss.{Loss}
use Rattle.jxldec_lines.specs.declared.loss.Loss.TheVariants.{Nothing, Profile, Unsaid}

-- what a format does not hold of a picture: PNG alone holds profiles; of other colours it holds what its chunks say
abbrev pub loss_in : OutputFormat → Image → Loss
loss_in (Netpbm format) image = if image.colour_encoding.want_icc then Profile else Nothing
loss_in Png image = Unsaid (losses_of image)

-- a profile that is saved is not left out
abbrev pub unless_saved : Bool → Loss → Loss
unless_saved saved Profile = if saved then Nothing else Profile
unless_saved saved Nothing = Nothing
unless_saved saved (Unsaid losses) = Unsaid losses

-- digits or bits are lost in a PNG file, or how bright samples are
abbrev pub has_rounding : Losses → Bool
has_rounding losses = losses.exponent || (losses.digits || (losses.tone || losses.alpha))

-- there is a line to warn of it
abbrev pub has_loss : Loss → Bool
has_loss Nothing = false
has_loss Profile = true
has_loss (Unsaid losses) = losses.function || (losses.coordinates || (losses.intent || (losses.multiplied || has_rounding losses)))

-- a line about what has this name, if it applies
unfoldable pub line_if : List ℕ → Bool → List ℕ → List ℕ
line_if name applies text = if applies then line_about name text else []

-- the lines on what a PNG file rounds, and on how bright samples are
unfoldable pub rounded_lines : List ℕ → Losses → List ℕ
rounded_lines name losses =
    line_if name losses.exponent (codes "exponent of the transfer function rounded")
    ++ (line_if name losses.digits (codes "coordinates of colours rounded")
    ++ (line_if name losses.tone (codes "tone mapping left out")
    ++ line_if name losses.alpha (codes "alpha rounded to the depth of the file")))

-- the lines on what no chunk of a PNG file says
unfoldable pub unsaid_lines : List ℕ → Losses → List ℕ
unsaid_lines name losses =
    line_if name losses.function (codes "transfer function left out")
    ++ (line_if name losses.coordinates (codes "negative coordinates of colours left out")
    ++ (line_if name losses.intent (codes "rendering intent left out")
    ++ (line_if name losses.multiplied (codes "colours stay multiplied by alpha")
    ++ rounded_lines name losses)))

-- the lines on what a format does not hold
unfoldable pub loss_lines : List ℕ → Loss → List ℕ
loss_lines name Nothing = []
loss_lines name Profile = line_about name (codes "colour profile left out")
loss_lines name (Unsaid losses) = unsaid_lines name losses
