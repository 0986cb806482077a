-- What reading an image gives: its header and its tree (ISO/IEC 18181-1, Modular: Modular header, MA tree).
use Rattle.std.specs.Prelude.{◌≡◌, ℕ, List, [], ◌∷◌, ◌⊎◌, Option, None, Some, Result, Ok, Err}
use Rattle.std.specs.Option.{option_copied}
use Rattle.jxlm_bits.specs.Decoding.{Meaning}
use Rattle.jxlm_bits.specs.ErrorKind.{UnlessMemory, kind_of}
use Rattle.jxlm_bits.specs.Grammar.{IsErrorAt}
use Rattle.jxlm_bits.specs.declared.error.Error.{Error}
use Rattle.jxlm_transform.specs.Channels.{image_list}
use Rattle.jxlm_transform.specs.declared.param.ModularChannelParams.{ModularChannelParams}
use Rattle.jxlm_transform.specs.declared.param.ModularParams.{ModularParams}
use Rattle.jxl_modular.specs.Fresh.{fresh}
use Rattle.jxl_modular.specs.Image.{Image}
use Rattle.jxlm_header.specs.Opening.{Opening}
use Rattle.jxl_modular.specs.declared.root.Modular.{Modular}
pub use Rattle.jxlm_nested.specs.Starts.{IsStartAt, IsTreeErrorAt, Start, coded_part, opening_at}

-- the image that there is; with no channels there is none
abbrev pub image_of : {S D : Type 0} → Modular S D → Option (Image S D)
image_of m = m.inner

module _ {S D : Type 0} (d : Meaning D) (zero : S) (bytes : List ℕ) (p : ℕ) (params : ModularParams D) where
  -- an image stands at position p up to position q: its header and its tree; its cells are 0
  pub record IsImageAt (image : Image S D) (q : ℕ) : Type 0 where
    pub head : Opening
    pub start : IsStartAt d (option_copied params.ma_config) bytes (image_list params.channels.items) p head image.config q
    pub cells : image ≡ fresh zero (image_list params.channels.items) head image.config params.group_dim params.bit_depth

  -- What reading an image of these channels gives, and where it leaves the reader. With no channels no bit is read,
  -- and there is no image. Else there is the image that the bits code, or the error of the first check that fails; it
  -- may be out of memory at any time.
  abbrev pub ParseGives : List ModularChannelParams → Result (Modular S D) Error → ℕ → Type 0
  ParseGives [] (Ok m) q = (image_of m ≡ None) × (q ≡ p)
  ParseGives [] (Err e) q = ⊥
  ParseGives (c ∷ cs) (Ok m) q = (image : Image S D) × (image_of m ≡ Some image) × IsImageAt image q
  ParseGives (c ∷ cs) (Err e) q =
      UnlessMemory (kind_of e) (IsErrorAt (opening_at (option_copied params.ma_config) bytes (image_list params.channels.items) p) (kind_of e) q ⊎ IsTreeErrorAt d (option_copied params.ma_config) bytes (image_list params.channels.items) p (kind_of e) q)
