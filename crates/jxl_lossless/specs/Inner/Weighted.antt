-- Whether a Modular header has a palette of the weighted predictor, as the code looks for it.
use Rattle.std.specs.Prelude.{ℕ, List, Bool, ◌&&◌, true, false, Result, Ok, Err}
use Rattle.std.specs.List.{list_any}
use Rattle.jxlm_bits.specs.Bits.{bytes_of, position_of}
use Rattle.jxlm_bits.specs.Decoding.{Found}
use Rattle.jxlm_bits.specs.ErrorKind.{ErrorAt}
use Rattle.jxlm_transform.specs.Transforms.{Transform, OfPalette}
use Rattle.jxlm_predictor.specs.declared.predictor.Predictor.{Predictor}
use Rattle.jxlm_predictor.specs.declared.predictor.Predictor.TheVariants.{SelfCorrecting}
use Rattle.jxlm_header.specs.Header.{Header, file_header}
use Rattle.jxl_modular.specs.declared.sections.Section.{Section}

-- the weighted (self-correcting) predictor
abbrev pub weighted : Predictor → Bool
weighted SelfCorrecting = true
weighted other = false

-- a palette of that predictor, by which its deltas would be predicted in another way
abbrev pub is_weighted : Transform → Bool
is_weighted (OfPalette t) = weighted t.d_pred
is_weighted t = false

-- whether a Modular header that has such a palette is what was read
abbrev pub found_weighted : Result (Found Header) ErrorAt → Bool
found_weighted (Ok found) = list_any is_weighted found.value.transform
found_weighted (Err e) = false

-- whether such a header stands at bit p; not where none can be read
abbrev pub weighted_at : List ℕ → ℕ → Bool
weighted_at bytes p = found_weighted (file_header.read bytes p)

-- whether a section begins with such a header of its own
abbrev pub section_is_weighted : Section → Bool
section_is_weighted s = s.nested && weighted_at (bytes_of s.bits) (position_of s.bits)
