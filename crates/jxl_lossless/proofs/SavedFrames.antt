-- Frames that are decoded one after another.
use Rattle.std.proofs.Common.{◌≡◌, ℕ, zero, suc, ◌<◌, ℤ, List, [], ◌∷◌, ◌++◌, length, map, take, drop, refl, arith, ◌∙◌, ap, subst}
use Rattle.std.specs.Prelude.{get_or, Result, Ok, Err, IfOk, IfErr}
use Rattle.std.specs.Global.{Vec}
use Rattle.jxlm_bits.specs.Decoding.{Meaning}
use Rattle.jxlm_base.specs.Grid.{Grid}
use Rattle.jxl_image_header.specs.Images.{Image}
use Rattle.jxl_image_header.specs.declared.size.Size.{Size}
use Rattle.jxl_frame_header.specs.Frames.{frame_size}
use Rattle.jxl_picture.specs.Pictures.{AreChannels, IsWhole}
use Rattle.jxl_codestream.specs.Fronts.{FrameAt}
use Rattle.jxl_patches.specs.Slots.{Slots, no_slots, saved_in}
use Rattle.jxl_lossless.specs.Frames.{FrameFails, IsFrame}
use Rattle.jxl_lossless.specs.Saved.{AreDecoded, AreSaved, FramesFail}
use Rattle.jxl_lossless.proofs.Channels.{whole}
use Rattle.jxl_lossless.specs.declared.error.FileError.{FileError}
use Rattle.jxl_lossless.specs.declared.error.FileError.TheVariants as errors

module _ {D : Type 0} (d : Meaning D) (bytes : List ℕ) (image : Image) where
  -- one frame more
  pub saved_more : (fs : List FrameAt) (f : FrameAt) (old slots new : Slots) (grids : List (Grid ℤ)) (a b c : ℕ) → AreSaved d bytes image fs old slots a b →
      IsFrame d image slots bytes f grids b c → new ≡ saved_in slots f.header.frame_use.save_as_reference (frame_size image.size f.header) grids →
      AreSaved d bytes image (fs ++ f ∷ []) old new a c
  saved_more [] f old slots new grids a b c (same, still) is put = (
    grids,
    c,
    subst (λ n. IsFrame d image old bytes f grids n c) still (subst (λ (s : Slots). IsFrame d image s bytes f grids b c) same is),
    (put ∙ ap (λ (s : Slots). saved_in s f.header.frame_use.save_as_reference (frame_size image.size f.header) grids) same, refl),
  )
  saved_more (g ∷ gs) f old slots new grids a b c (first, m, head, rest) is put =
      (first, m, head, saved_more gs f (saved_in old g.header.frame_use.save_as_reference (frame_size image.size g.header) first) slots new grids m b c rest is put)

  -- a frame that has an error, after others that are decoded
  pub first_bad : (frames decoded others : List FrameAt) (f : FrameAt) (slots : Slots) (before after : ℕ) (e : FileError) → frames ≡ decoded ++ f ∷ others →
      AreSaved d bytes image decoded no_slots slots before after → FrameFails d image slots bytes f e → FramesFail d bytes image frames e
  first_bad frames decoded others f slots before after e are saved fails = by e fails where
    by : (e : FileError) → FrameFails d image slots bytes f e → FramesFail d bytes image frames e
    by errors.OutOfMemory h = tt
    by (errors.Patches e) h = (decoded, f, others, are, slots, before, after, saved, h)
    by (errors.Start e) h = (decoded, f, others, are, slots, before, after, saved, h)
    by (errors.Tree e) h = (decoded, f, others, are, slots, before, after, saved, h)
    by errors.TooManyDecisions h = (decoded, f, others, are, slots, before, after, saved, h)
    by (errors.Samples e) h = (decoded, f, others, are, slots, before, after, saved, h)
    by (errors.File e) h = (decoded, f, others, are, slots, before, after, saved, h)
    by (errors.Front e) h = (decoded, f, others, are, slots, before, after, saved, h)

module _ {D : Type 0} (d : Meaning D) (bytes : List ℕ) (image : Image) (saved : List FrameAt) (shown : FrameAt) (slots : Slots) (begin before : ℕ)
    (are : AreSaved d bytes image saved no_slots slots begin before) where
  -- the frame that is shown, after the saved ones
  pub all_decoded : (after : ℕ) (result : Result (Vec (Grid ℤ)) FileError) → IfOk result (λ v. IsFrame d image slots bytes shown v.items before after) →
      IfOk result (λ v. AreDecoded d bytes image saved shown v.items begin after)
  all_decoded after (Ok v) h = (slots, before, are, h)
  all_decoded after (Err e) h = tt

  pub last_fails : (result : Result (Vec (Grid ℤ)) FileError) → IfErr result (FrameFails d image slots bytes shown) → IfErr result (FramesFail d bytes image (saved ++ shown ∷ []))
  last_fails (Ok v) h = tt
  last_fails (Err e) h = first_bad d bytes image (saved ++ shown ∷ []) saved [] shown slots begin before e refl are h

pub all_whole : (image : Image) (size : Size) (result : Result (Vec (Grid ℤ)) FileError) → size ≡ image.size → IfOk result (λ v. AreChannels image size v.items) →
    IfOk result (λ v. IsWhole image v.items)
all_whole image size (Ok v) same h = whole image size v.items same h
all_whole image size (Err e) same h = tt

-- a list by one of its elements
pub split_at : {X Y : Type 0} → (f : X → Y) (xs : List X) (k : ℕ) (x : X) (z : Y) → k < length xs → get_or xs k x ≡ x → map f xs ++ z ∷ [] ≡ map f (take k xs) ++ f x ∷ (map f (drop (suc k) xs) ++ z ∷ [])
split_at {X = X} {Y = Y} f [] k x z h at = absurd (omega arith)
split_at {X = X} {Y = Y} f (y ∷ ys) zero x z h at = ap (λ (v : X). f v ∷ (map f ys ++ z ∷ [])) at
split_at {X = X} {Y = Y} f (y ∷ ys) (suc k) x z h at = ap (λ (vs : List Y). f y ∷ vs) (split_at f ys k x z (omega arith) at)
