-- What the program writes for the bytes of its input.
use Rattle.std.specs.Prelude.{ℕ, ◌≡◌, ℤ, pos, List, None}
use Rattle.std.specs.Int.{Width, w16, w32}
use Rattle.jxlm_base.specs.Grid.{Grid}
use Rattle.jxlm_bits.specs.Decoding.{Meaning}
use Rattle.jxlm_transform.specs.Channels.{ChannelList}
use Rattle.jxl_modular.specs.Picture.{IsPicture}
use Rattle.jxlm_section_split.specs.CutPicture.{IsCutPicture}
use Rattle.jxl_text.specs.Printing.{image_text}
use Rattle.jxlmod_commands.specs.Channels.{channels_asked}
use Rattle.jxlmod_commands.specs.Encoding.{IsEncodedText, decoder_of}
use Rattle.jxlmod_commands.specs.declared.arguments.Command.{Command}
use Rattle.jxlmod_commands.specs.declared.arguments.Command.TheVariants.{Decode, Sections, Encode}
use Rattle.jxlmod_commands.specs.declared.arguments.Samples.{Samples}
use Rattle.jxlmod_commands.specs.declared.arguments.Samples.TheVariants.{I16, I32}

-- how wide the samples are
abbrev pub width_of : Samples → Width
width_of I16 = w16
width_of I32 = w32

-- the text is that of the picture at the start of the bytes, in the format of a decoder, at stream index 0
pub record IsPictureText {V : Type 0} (d : Meaning V) (w : Width) (width height channels : ℕ) (bytes : List ℕ) (bit_depth : ℕ) (text : List ℕ) : Type 0 where
  pub grids : List (Grid ℤ)
  pub place : ℕ
  pub picture : IsPicture d w None bytes 0 (channels_asked width height channels) 0 bit_depth grids place
  pub printed : text ≡ image_text grids

-- the text is that of the picture of these channels that is cut into sections, which stand at the start of the bytes
pub record IsCutPictureText {V : Type 0} (d : Meaning V) (w : Width) (given : ChannelList) (group_dim bit_depth : ℕ) (bytes text : List ℕ) : Type 0 where
  pub grids : List (Grid ℤ)
  pub picture : IsCutPicture d w given group_dim bit_depth bytes grids
  pub printed : text ≡ image_text grids

-- what is written for the bytes and a command
abbrev pub Prints : List ℕ → Command → List ℕ → Type 0
Prints bytes (Decode format width height channels bit_depth samples) text = IsPictureText (decoder_of format) (width_of samples) width height channels bytes bit_depth text
Prints bytes (Sections format width height channels bit_depth samples group_dim) text =
    IsCutPictureText (decoder_of format) (width_of samples) (channels_asked width height channels) group_dim bit_depth bytes text
Prints bytes (Encode format samples) made = IsEncodedText format (width_of samples) bytes made
