-- Sections that are too long for a table of contents.
use Rattle.std.proofs.Common.{◌≡◌, ◌∙◌, ℕ, ◌^◌, ◌<◌, ◌≤◌, List, map, refl, ap, inr, subst, sym}
use Rattle.std.specs.Prelude.{Any}
use Rattle.std.specs.Global.{Vec}
use Rattle.std.proofs.Math.ListN.{get_or-map}
use Rattle.std.proofs.lemmas.List.{length-map}
use Rattle.jxl_picture.specs.declared.picture.Picture.{Picture}
use Rattle.jxl_encode.specs.Errors.{EncodeFails, IsLong, sample_count}
use Rattle.jxl_encode.specs.Frames.{AreSectionsOf}
use Rattle.jxl_encode.specs.declared.error.EncodeError.{EncodeError}
use Rattle.jxl_encode.specs.declared.error.EncodeError.TheVariants.{OutOfMemory, TooLarge}

some_long : (vs : List (Vec ℕ)) → Any (λ s. IsLong s.items) vs → Any IsLong (map (λ (s : Vec ℕ). s.items) vs)
some_long vs (k, x, lt, is, long) = (
  k,
  x.items,
  subst (λ n. k < n) (sym (length-map vs (λ (s : Vec ℕ). s.items))) lt,
  get_or-map (λ (s : Vec ℕ). s.items) vs k x ∙ ap (λ (s : Vec ℕ). s.items) is,
  long,
)

-- the error is that of a picture with many samples, or out of memory
pub long_fails : (picture : Picture) (sections : List (Vec ℕ)) (error : EncodeError) → AreSectionsOf picture (map (λ (s : Vec ℕ). s.items) sections) →
    Any (λ s. IsLong s.items) sections → (error ≡ TooLarge → 2 ^ 27 ≤ sample_count picture.channels.items) → EncodeFails picture error
long_fails picture sections TooLarge are long many =
    inr (record { many = many refl; sections = map (λ (s : Vec ℕ). s.items) sections; are = are; long = some_long sections long })
long_fails picture sections OutOfMemory are long many = tt
