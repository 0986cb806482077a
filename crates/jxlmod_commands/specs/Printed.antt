-- What is made of the bytes of the program's input.
use Rattle.std.specs.Prelude.{ℕ, ℤ, pos, List, None, false, Result, Ok, Err}
use Rattle.std.specs.Int.{Width}
use Rattle.jxlm_bits.specs.ErrorKind.{UnlessMemory, kind_of}
use Rattle.jxlm_bits.specs.Decoding.{Meaning}
use Rattle.jxlm_bits.specs.declared.error.Error.{Error}
use Rattle.jxlm_transform.specs.Channels.{ChannelList}
use Rattle.jxl_modular.specs.Picture.{PictureFails}
use Rattle.jxlm_section_split.specs.CutErrors.{CutPictureFails}
use Rattle.jxlmod_commands.specs.Channels.{channels_asked}
use Rattle.jxlmod_commands.specs.Encoding.{decoder_of}
use Rattle.jxlmod_commands.specs.PictureText.{Prints, width_of}
use Rattle.jxlmod_commands.specs.declared.arguments.Command.{Command}
use Rattle.jxlmod_commands.specs.declared.arguments.Command.TheVariants.{Decode, Sections, Encode}
use Rattle.jxlmod_commands.specs.declared.refusal.Refusal.{Refusal}
use Rattle.jxlmod_commands.specs.declared.refusal.Refusal.TheVariants.{Image, Text, Encoder}
use Rattle.jxlmod_commands.specs.Encoding.{EncodingFails}

-- there is no picture at the start of the bytes, by this error, or it was out of memory
pub record IsPictureError {V : Type 0} (d : Meaning V) (w : Width) (width height channels : ℕ) (bytes : List ℕ) (error : Error) : Type 0 where
  pub place : ℕ
  pub steps : ℕ
  pub fails : PictureFails d w None bytes 0 (channels_asked width height channels) 0 (kind_of error) place 0 steps

-- there is no picture that is cut into sections at the start of the bytes, by this error, or it was out of memory
abbrev pub IsCutPictureError : {V S : Type 0} → Meaning V → Width → (S → ℤ) → S → ChannelList → ℕ → ℕ → List ℕ → Error → Type 0
IsCutPictureError d w to_int zero given group_dim bit_depth bytes error =
    UnlessMemory (kind_of error) (CutPictureFails d w to_int zero given group_dim bit_depth bytes false (kind_of error))

-- the refusal is that of an image, by an error that this holds of
abbrev pub IsOfImage : (Error → Type 0) → Refusal → Type 0
IsOfImage holds (Image error) = holds error
IsOfImage holds (Text error) = ⊥
IsOfImage holds (Encoder error) = ⊥

-- there is nothing to write for the bytes and a command, by this error
abbrev pub FailsToPrint : List ℕ → Command → Refusal → Type 0
FailsToPrint bytes (Decode format width height channels bit_depth samples) refusal = IsOfImage (IsPictureError (decoder_of format) (width_of samples) width height channels bytes) refusal
FailsToPrint bytes (Sections format width height channels bit_depth samples group_dim) refusal =
    IsOfImage (IsCutPictureError (decoder_of format) (width_of samples) (λ v. v) (pos 0) (channels_asked width height channels) group_dim bit_depth bytes) refusal
FailsToPrint bytes (Encode format samples) refusal = EncodingFails (width_of samples) bytes refusal

-- what is returned for the bytes and a command
abbrev pub PrintGives : List ℕ → Command → Result (List ℕ) Refusal → Type 0
PrintGives bytes command (Ok made) = Prints bytes command made
PrintGives bytes command (Err refusal) = FailsToPrint bytes command refusal
