-- A file has one picture.
use Rattle.std.proofs.Common.{◌≡◌, ℕ, ◌<◌, ℤ, pos, Bool, true, false, List, [], ◌∷◌, ◌++◌, Result, Ok, Err, sym, ap, ◌∙◌, subst, arith}
use Rattle.std.specs.Prelude.{if◌then◌else◌, unwrap_or, ◌==◌, ◌||◌}
use Rattle.std.specs.List.{AllZip}
use Rattle.std.proofs.lemmas.Option.{unwrap_or-slice_get}
use Rattle.jxlm_base.specs.Grid.{Grid, at, cell, place}
use Rattle.jxl_coding.specs.Parse.{decoder_at}
use Rattle.jxl_coding.specs.Tokens.{entropy}
use Rattle.jxl_container.specs.Files.{HasCodestream}
use Rattle.jxl_container.specs.Files as container
use Rattle.jxl_container.specs.declared.error.FileError.{FileError as BoxError}
use Rattle.jxl_container.specs.declared.error.FileError.TheVariants as boxes
use Rattle.jxl_container.proofs.FileLaws.{one_codestream}
use Rattle.jxl_image_header.specs.Images.{Image, image_of}
use Rattle.jxl_picture.specs.Orientations.{IsOriented, IsUpright, is_turned, place_counted}
use Rattle.jxl_picture.specs.declared.limits.Limits.{Limits}
use Rattle.jxl_picture.specs.declared.picture.Picture.{Picture}
use Rattle.jxl_codestream.specs.FrontParts.{bytes_if}
use Rattle.jxl_codestream.specs.Fronts.{FrameAt, FrontFails, FrontStands, HasProfile}
use Rattle.jxl_codestream.specs.declared.error.FrontError.{FrontError}
use Rattle.jxl_codestream.specs.declared.error.FrontError.TheVariants as front
use Rattle.jxl_lossless.specs.Pictures.{FileFails, HasFront, IsPictureOfFile}
use Rattle.jxl_lossless.specs.Saved.{AreDecoded, FramesFail}
use Rattle.jxl_lossless.specs.declared.error.FileError.{FileError}
use Rattle.jxl_lossless.specs.declared.error.FileError.TheVariants as errors
use Rattle.jxl_lossless_laws.proofs.FrontErrors.{front_without_error}
use Rattle.jxl_lossless_laws.proofs.OneDecoding.{decoded_without_error, same_decoded}
use Rattle.jxl_lossless_laws.proofs.OneFront.{one_front, one_profile, same_image}
use Rattle.jxl_lossless_laws.specs.Errors.{IsFileMemory, IsOfSize}
use Rattle.jxl_lossless_laws.specs.Laws.{FilesHaveOnePicture, FilesWithPicturesAreDecoded}
use Rattle.jxl_lossless_laws.specs.Same.{AreSameChannels, IsSameChannel, IsSamePicture}

-- ---- channels as they are shown

counted_below : (back : Bool) (n i : ℕ) → i < n → place_counted back n i < n
counted_below true n i lt = omega (arith, lt)
counted_below false n i lt = lt

at_cells : (g h : Grid ℤ) (x y i j : ℕ) → cell g x y ≡ cell h i j → at g x y ≡ at h i j
at_cells g h x y i j same =
    sym (unwrap_or-slice_get g.cells (place g x y) (pos 0)) ∙ ap (λ o. unwrap_or o (pos 0)) same ∙ unwrap_or-slice_get h.cells (place h i j) (pos 0)

turned_within : (t : Bool) (w h a b x y : ℕ) → a ≡ (if t then h else w) → b ≡ (if t then w else h) → x < a → y < b → ((if t then y else x) < w) × ((if t then x else y) < h)
turned_within true w h a b x y wide high lx ly = (omega (arith, high, ly), omega (arith, wide, lx))
turned_within false w h a b x y wide high lx ly = (omega (arith, wide, lx), omega (arith, high, ly))

same_shown : (o : ℕ) (c d g h : Grid ℤ) → IsSameChannel c d → IsOriented o c g → IsOriented o d h → IsSameChannel g h
same_shown o c d g h same a b = record {
  width = a.wide ∙ ap (λ n. if is_turned o then n else c.width) same.height ∙ ap (λ n. if is_turned o then d.height else n) same.width ∙ sym b.wide;
  height = a.high ∙ ap (λ n. if is_turned o then n else c.height) same.width ∙ ap (λ n. if is_turned o then d.width else n) same.height ∙ sym b.high;
  samples = λ x y lx ly.
      let back : Bool = (o == 2) || (o == 3) || (o == 7) || (o == 8) in
      let up : Bool = (o == 3) || (o == 4) || (o == 6) || (o == 7) in
      let i : ℕ = if is_turned o then y else x in
      let j : ℕ = if is_turned o then x else y in
      let within = turned_within (is_turned o) c.width c.height g.width g.height x y a.wide a.high lx ly in
      let wide : g.width ≡ h.width = a.wide ∙ ap (λ n. if is_turned o then n else c.width) same.height ∙ ap (λ n. if is_turned o then d.height else n) same.width ∙ sym b.wide in
      let high : g.height ≡ h.height = a.high ∙ ap (λ n. if is_turned o then n else c.height) same.width ∙ ap (λ n. if is_turned o then d.width else n) same.height ∙ sym b.high in
      at_cells g c x y (place_counted back c.width i) (place_counted up c.height j) (a.cells x y lx ly)
      ∙ same.samples (place_counted back c.width i) (place_counted up c.height j) (counted_below back c.width i within.0) (counted_below up c.height j within.1)
      ∙ ap (λ n. at d (place_counted back n i) (place_counted up c.height j)) same.width
      ∙ ap (λ n. at d (place_counted back d.width i) (place_counted up n j)) same.height
      ∙ sym (at_cells h d x y (place_counted back d.width i) (place_counted up d.height j) (b.cells x y (subst (λ n. x < n) wide lx) (subst (λ n. y < n) high ly)));
}

all_shown : (o : ℕ) (cs ds gs hs : List (Grid ℤ)) → AreSameChannels cs ds → AllZip (IsOriented o) cs gs → AllZip (IsOriented o) ds hs → AreSameChannels gs hs
all_shown o [] [] [] [] same a b = tt
all_shown o [] [] [] (h ∷ hs) same a b = absurd b
all_shown o [] [] (g ∷ gs) hs same a b = absurd a
all_shown o [] (d ∷ ds) gs hs same a b = absurd same
all_shown o (c ∷ cs) [] gs hs same a b = absurd same
all_shown o (c ∷ cs) (d ∷ ds) [] hs same a b = absurd a
all_shown o (c ∷ cs) (d ∷ ds) (g ∷ gs) [] same a b = absurd b
all_shown o (c ∷ cs) (d ∷ ds) (g ∷ gs) (h ∷ hs) same a b = (same_shown o c d g h same.0 a.0 b.0, all_shown o cs ds gs hs same.1 a.1 b.1)

-- ---- a file

same_ok : (b c : List ℕ) → ◌≡◌ {A = Result (List ℕ) BoxError} (Ok b) (Ok c) → b ≡ c
same_ok b c e = cc

ok_err : (b : List ℕ) (e : BoxError) → ◌≡◌ {A = Result (List ℕ) BoxError} (Ok b) (Err e) → ⊥
ok_err b e h = cc

box_so : (e : BoxError) {P Q : Type 0} → (P → Q) → container.UnlessMemory e P → container.UnlessMemory e Q
box_so boxes.OutOfMemory f h = tt
box_so e f h = f h

module _ (limits : Limits) (file : List ℕ) where
  one_stream : (b c : List ℕ) → HasCodestream file (Ok b) → HasCodestream file (Ok c) → b ≡ c
  one_stream b c h k = same_ok b c (one_codestream file (Ok b) (Ok c) h k)

  -- what is said of a codestream with these headers and tables holds of those of another front of the file
  move : (P : (bytes : List ℕ) → Image → List FrameAt → FrameAt → Type 0) (f g : HasFront limits file) → P g.bytes g.image g.saved g.shown → P f.bytes f.image f.saved f.shown
  move P f g h =
      let bytes = one_stream f.bytes g.bytes f.found g.found in
      let stands = subst (λ (b : List ℕ). FrontStands (entropy decoder_at) limits b g.image g.saved g.shown) (sym bytes) g.stands in
      let here = subst (λ (b : List ℕ). P b g.image g.saved g.shown) (sym bytes) h in
      let image = same_image (entropy decoder_at) limits f.bytes f.image g.image f.saved g.saved f.shown g.shown f.stands stands in
      let stands_too = subst (λ (i : Image). FrontStands (entropy decoder_at) limits f.bytes i g.saved g.shown) (sym image) stands in
      let imaged = subst (λ (i : Image). P f.bytes i g.saved g.shown) (sym image) here in
      let frames = one_front (entropy decoder_at) limits f.bytes f.image f.saved g.saved f.shown g.shown f.stands stands_too in
      subst (λ (x : FrameAt). P f.bytes f.image f.saved x) (sym frames.1) (subst (λ (xs : List FrameAt). P f.bytes f.image xs g.shown) (sym frames.0) imaged)

  abbrev Shown : Picture → List (Grid ℤ) → ℕ → ℕ → List ℕ → Image → List FrameAt → FrameAt → Type 0
  Shown picture coded before after bytes image saved shown =
      AreDecoded (entropy decoder_at) bytes image saved shown coded before after × IsUpright image coded (image_of picture.header) picture.channels.items
      × HasProfile (entropy decoder_at) limits bytes image (bytes_if picture.profile)

  pub one_of_file : (one other : Picture) (before after from to : ℕ) → IsPictureOfFile limits file one before after → IsPictureOfFile limits file other from to → IsSamePicture one other
  one_of_file one other before after from to x y =
      let f = x.front in
      let too : Shown other y.coded from to f.bytes f.image f.saved f.shown = move (Shown other y.coded from to) f y.front (y.decoded, y.upright, y.profile) in
      let coded = same_decoded (entropy decoder_at) limits f.bytes f.image f.saved f.shown f.stands x.coded y.coded before after from to x.decoded too.0 in
      record {
        header = x.upright.header ∙ sym too.1.header;
        channels = all_shown f.image.orientation x.coded y.coded one.channels.items other.channels.items coded x.upright.oriented too.1.oriented;
        profile = one_profile (entropy decoder_at) limits f.bytes f.image (bytes_if one.profile) (bytes_if other.profile) x.profile too.2;
      }

  module _ (picture : Picture) (before after : ℕ) (x : IsPictureOfFile limits file picture before after) where
    abbrev own : HasFront limits file
    own = x.front

    frames_well : (g : HasFront limits file) (e : FileError) → FramesFail (entropy decoder_at) g.bytes g.image (g.saved ++ g.shown ∷ []) e → IsFileMemory e
    frames_well g e fails =
        decoded_without_error (entropy decoder_at) limits own.bytes own.image own.saved own.shown own.stands x.coded before after x.decoded e
        (move (λ bytes image saved shown. FramesFail (entropy decoder_at) bytes image (saved ++ shown ∷ []) e) own g fails)

    front_well : (e : FrontError) → (bytes : List ℕ) × HasCodestream file (Ok bytes) × FrontFails (entropy decoder_at) limits bytes e → IsOfSize file (errors.Front e)
    front_well front.TooLong f = f
    front_well e f =
        front_without_error (entropy decoder_at) limits own.bytes own.image own.saved own.shown own.stands e
        (subst (λ (b : List ℕ). FrontFails (entropy decoder_at) limits b e) (sym (one_stream own.bytes f.0 own.found f.1)) f.2)

    pub file_without_error : (e : FileError) → FileFails limits file e → IsOfSize file e
    file_without_error (errors.File e) f = box_so e (λ h. ok_err own.bytes e (one_codestream file (Ok own.bytes) (Err e) own.found h)) f
    file_without_error (errors.Front e) f = front_well e f
    file_without_error (errors.Patches e) f = frames_well f.0 (errors.Patches e) f.1
    file_without_error (errors.Start e) f = frames_well f.0 (errors.Start e) f.1
    file_without_error (errors.Tree e) f = frames_well f.0 (errors.Tree e) f.1
    file_without_error errors.TooManyDecisions f = frames_well f.0 errors.TooManyDecisions f.1
    file_without_error (errors.Samples e) f = frames_well f.0 (errors.Samples e) f.1
    file_without_error errors.OutOfMemory f = tt

pub one_picture : FilesHaveOnePicture
one_picture limits file one other before after from to x y = one_of_file limits file one other before after from to x y

pub picture_decoded : FilesWithPicturesAreDecoded
picture_decoded limits file picture before after x e f = file_without_error limits file picture before after x e f
