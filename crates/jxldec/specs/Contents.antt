-- What is written of a file.
use Rattle.std.specs.Prelude.{◌≡◌, ℕ, List, [], true}
use Rattle.jxl_image_header.specs.Images.{image_of}
use Rattle.jxl_netpbm.specs.Formats.{suits, text_of}
use Rattle.jxl_picture.specs.Pictures.{IsWhole}
use Rattle.jxldec.specs.declared.content.Content.{Content}
use Rattle.jxldec.specs.declared.content.Content.TheVariants.{Headers, Nothing, Picture, Png}

-- the bytes that are written: those that the headers tell, the PNG file or the text of the picture in the format, or none
abbrev pub content_text : Content → List ℕ
content_text (Headers text) = text.items
content_text Nothing = []
content_text (Png file) = file.items
content_text (Picture picture format) = text_of format (image_of picture.header) picture.channels.items

-- the picture has all samples of its channels, and the format suits it
abbrev pub IsWritable : Content → Type 0
IsWritable (Headers text) = Unit {0}
IsWritable Nothing = Unit {0}
IsWritable (Png file) = Unit {0}
IsWritable (Picture picture format) = IsWhole (image_of picture.header) picture.channels.items × (suits format (image_of picture.header) ≡ true)
