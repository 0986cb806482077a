-- A file has one picture, and one that has a picture is decoded.
use Rattle.std.specs.Prelude.{◌≡◌, ℕ, ℤ, List}
use Rattle.std.specs.List.{All}
use Rattle.jxlm_base.specs.Grid.{Grid, IsFull}
use Rattle.jxl_picture.specs.declared.limits.Limits.{Limits}
use Rattle.jxl_picture.specs.declared.picture.Picture.{Picture}
use Rattle.jxl_lossless.specs.Pictures.{FileFails, IsPictureOfFile}
use Rattle.jxl_lossless.specs.declared.error.FileError.{FileError}
use Rattle.jxl_lossless_laws.specs.Errors.{IsOfSize}
use Rattle.jxl_lossless_laws.specs.Same.{AreSameChannels, IsSamePicture}

-- Two pictures of one file are the same.
abbrev pub FilesHaveOnePicture : Type 0
FilesHaveOnePicture = (limits : Limits) (file : List ℕ) (one other : Picture) (before after from to : ℕ) →
    IsPictureOfFile limits file one before after → IsPictureOfFile limits file other from to → IsSamePicture one other

-- Where a file has a picture, no error is true of it but that memory ran out, and that its codestream is too long.
abbrev pub FilesWithPicturesAreDecoded : Type 0
FilesWithPicturesAreDecoded = (limits : Limits) (file : List ℕ) (picture : Picture) (before after : ℕ) → IsPictureOfFile limits file picture before after →
    (error : FileError) → FileFails limits file error → IsOfSize file error

-- Full channels that are the same are equal.
abbrev pub SameChannelsAreEqual : Type 0
SameChannelsAreEqual = (some others : List (Grid ℤ)) → All IsFull some → All IsFull others → AreSameChannels some others → some ≡ others
