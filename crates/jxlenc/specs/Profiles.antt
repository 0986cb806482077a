-- Which profiles a file gets (ISO 15076-1, profile header): the header has 128 bytes.
use Rattle.std.specs.Prelude.{◌≡◌, ◌≢◌, ◌⊎◌, ◌<◌, ◌≤◌, ℕ, List, length, Bool, if◌then◌else◌}
use Rattle.jxl_container.specs.Boxes.{word_at}
use Rattle.jxl_encode.specs.Codable.{IsCodableProfile}
use Rattle.jxlenc.specs.declared.profile.ProfileError.{ProfileError}
use Rattle.jxlenc.specs.declared.profile.ProfileError.TheVariants as errors

-- the colour space of a profile, by its four letters: `GRAY` or `RGB `
abbrev pub space_word : Bool → ℕ
space_word grey = if grey then 0x47524159 else 0x52474220

-- The profile describes colours that are grey, or red, green and blue: a file can hold it, and its header says its own size, the
-- space of these colours, and `acsp`.
pub record Describes (grey : Bool) (icc : List ℕ) : Type 0 where
  pub codable : IsCodableProfile icc
  pub header : 128 ≤ length icc
  pub signature : word_at icc 36 ≡ 0x61637370
  pub size : word_at icc 0 ≡ length icc
  pub space : word_at icc 16 ≡ space_word grey

-- what each error says of a profile
abbrev pub ProfileErrs : Bool → List ℕ → ProfileError → Type 0
ProfileErrs grey icc errors.Length = ¬ (IsCodableProfile icc)
ProfileErrs grey icc errors.Header = (length icc < 128) ⊎ (word_at icc 36 ≢ 0x61637370)
ProfileErrs grey icc errors.Size = (128 ≤ length icc) × (word_at icc 0 ≢ length icc)
ProfileErrs grey icc errors.Space = (128 ≤ length icc) × (word_at icc 16 ≢ space_word grey)
