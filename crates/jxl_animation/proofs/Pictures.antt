-- The pictures that frames make, with all channels.
use Rattle.std.proofs.Common.{◌≡◌, ℤ, Bool, true, false, List, Option, Some, None, refl, subst}
use Rattle.std.specs.Prelude.{MatchBool, if◌then◌else◌, is_some, not, ◌&&◌, ◌||◌}
use Rattle.std.specs.Float.{Float}
use Rattle.std.specs.List.{list_all}
use Rattle.jxlm_base.specs.Grid.{Grid}
use Rattle.jxl_image_header.specs.Images.{Image}
use Rattle.jxl_image_header.specs.declared.size.Size.{Size}
use Rattle.jxl_frame_header.specs.Blendings.{is_replace}
use Rattle.jxl_frame_header.specs.Frames.{Frame, frame_size, has_shifts, is_saved}
use Rattle.jxl_frame_header.specs.declared.place.Crop.{Crop}
use Rattle.jxl_picture.specs.Limits.{channel_count}
use Rattle.jxl_picture.specs.Pictures.{AreChannels}
use Rattle.jxl_patches.specs.Slots.{AreOfSize, Slots}
use Rattle.std.specs.Option.{option_map_or}
use Rattle.jxl_lossless.proofs.Channels.{of_one_size}
use Rattle.jxl_layers.specs.Compositions.{IsComposed, IsPictureOf, picture_size}
use Rattle.jxl_layers.specs.Refusals.{is_taken, is_whole}

both : (a b : Bool) → (a && b) ≡ true → (a ≡ true) × (b ≡ true)
both true b e = (refl, e)
both false b e = cc

either_false : (a b : Bool) → (a || b) ≡ false → (a ≡ false) × (b ≡ false)
either_false false b e = (refl, e)
either_false true b e = cc

-- a frame without a crop is as large as the picture
uncropped : (crop : Option Crop) (size : Size) → not (is_some crop) ≡ true → option_map_or (λ (c : Crop). record { width = c.width; height = c.height }) crop size ≡ size
uncropped None size e = refl
uncropped (Some c) size e = cc

taken_size : (saved whole : Bool) (frame size : Size) → (saved || whole) ≡ true → (whole ≡ true → frame ≡ size) → frame ≡ (if saved then frame else size)
taken_size true whole frame size e is = refl
taken_size false whole frame size e is = is e

pub taken_sides : (image : Image) (h : Frame) (channels : List (Grid ℤ)) → is_taken h ≡ true → AreChannels image (frame_size image.size h) channels → AreChannels image (picture_size image.size h) channels
taken_sides image h channels taken are =
    let covers : is_whole h ≡ true → frame_size image.size h ≡ image.size = λ whole. uncropped h.place.crop image.size
    (both (not (is_some h.place.crop)) (is_replace h.blending_info.mode) (both (not (is_some h.place.crop) && is_replace h.blending_info.mode) (list_all (λ b. is_replace b.mode) h.ec_blending_info) whole).0).0 in
    subst (λ (z : Size). AreChannels image z channels) (taken_size (is_saved h) (is_whole h) (frame_size image.size h) image.size taken covers) are

not_taken : (b : Bool) (P Q : Type 0) → b ≡ false → Q → MatchBool b P Q
not_taken true P Q e q = let bad : ⊥ = cc in absurd bad
not_taken false P Q e q = q

is_whole_frame : (b : Bool) (P Q : Type 0) → b ≡ true → P → MatchBool b P Q
is_whole_frame true P Q e p = p
is_whole_frame false P Q e p = let bad : ⊥ = cc in absurd bad

abbrev no_values : Option (List (Grid Float))
no_values = None

pub taken : (image : Image) (h : Frame) (slots : Slots) (channels : List (Grid ℤ)) → is_taken h ≡ true → IsPictureOf image h slots channels None channels
taken image h slots channels e =
    is_whole_frame (is_taken h) ((channels ≡ channels) × (no_values ≡ None)) ((values : List (Grid Float)) × (no_values ≡ Some values) × IsComposed image h slots channels values channels) e (refl, refl)

pub composed : (image : Image) (h : Frame) (slots : Slots) (channels given : List (Grid ℤ)) (values : List (Grid Float)) (pictures : List (Grid ℤ)) → is_taken h ≡ false → given ≡ channels → IsComposed image h slots given values pictures →
    IsPictureOf image h slots channels (Some values) pictures
composed image h slots channels given values pictures isnt is made =
    not_taken (is_taken h) ((pictures ≡ channels) × (Some values ≡ None)) ((vs : List (Grid Float)) × (Some values ≡ Some vs) × IsComposed image h slots channels vs pictures) isnt
    (values, refl, subst (λ (gs : List (Grid ℤ)). IsComposed image h slots gs values pictures) is made)

size_of_picture : (saved : Bool) (frame size : Size) → saved ≡ false → size ≡ (if saved then frame else size)
size_of_picture true frame size e = cc
size_of_picture false frame size e = refl

pub composed_size : (size : Size) (h : Frame) → is_taken h ≡ false → size ≡ picture_size size h
composed_size size h isnt = size_of_picture (is_saved h) (frame_size size h) size (either_false (is_saved h) (is_whole h) isnt).0

pub composed_sides : (image : Image) (h : Frame) (pictures : List (Grid ℤ)) → has_shifts image ≡ false → is_taken h ≡ false → AreOfSize (channel_count image) image.size pictures → AreChannels image (picture_size image.size h) pictures
composed_sides image h pictures none isnt are = subst (λ (z : Size). AreChannels image z pictures) (composed_size image.size h isnt) (of_one_size image image.size pictures none are)
