-- The kinds of channels, one by one.
use Rattle.std.specs.Prelude.{ℕ, List, Bool, if◌then◌else◌}
use Rattle.jxl_image_header.specs.declared.channel.ExtraChannel.{ExtraChannel}
use Rattle.jxldec_lines.specs.Warnings.{kinds, kinds_but_alpha}

-- what is still to be written, where the first alpha of the picture's size has been passed or not
abbrev pub rest_kinds : Bool → List ExtraChannel → List ℕ
rest_kinds passed cs = if passed then kinds cs else kinds_but_alpha cs
