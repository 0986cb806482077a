-- What the program writes of a file: its picture, or what its headers tell.
use Rattle.std.specs.Prelude.{◌≡◌, ◌<◌, ◌⊎◌, ◌++◌, ℕ, List, [], length, not, Bool, true, false, MatchBool, MatchOption, Option, Some, None, Ok, is_none, is_some}
use Rattle.std.specs.Option.{option_copied}
use Rattle.std.specs.Io.KnownBytes.{Appends, Consumes, IsAtEnd}
use Rattle.std.specs.declared.io.Error.{Error}
use Rattle.jxl_codestream.specs.FrontParts.{bytes_if}
use Rattle.jxl_coding.specs.Parse.{decoder_at}
use Rattle.jxl_coding.specs.Tokens.{entropy}
use Rattle.jxl_container.specs.Files.{HasCodestream, HasLaterError, has_signature, is_bare}
use Rattle.jxl_container.specs.Metadata.{HasExif, HasXmp}
use Rattle.jxl_container.specs.declared.error.FileError.{FileError as BoxError}
use Rattle.jxl_animation.specs.declared.error.AnimationError.{AnimationError}
use Rattle.jxl_animation.specs.declared.error.AnimationError.TheVariants as animations
use Rattle.jxl_animation.specs.Files.{BeginFrames, FileNotOpened, FrameOfFileFails, HasFewerFrames, IsFrameOfFile}
use Rattle.jxl_command.specs.Streams.{IsKept, IsReadPart, IsReadWhole, is_closed}
use Rattle.jxl_command.specs.declared.extra.Extras.{Extras}
use Rattle.jxl_image_header.specs.Images.{Image, image_of}
use Rattle.jxl_netpbm.specs.Output.{AppendsBeginning}
use Rattle.jxl_picture.specs.declared.limits.Limits.{Limits}
use Rattle.jxl_picture.specs.declared.picture.Picture.{Picture}
use Rattle.jxl_info.specs.Headers.{HeadersOfFile, is_boxed}
use Rattle.jxl_info.specs.Reasons.{is_refusal}
use Rattle.jxl_info.specs.Texts.{info_text, reason_line}
use Rattle.jxl_frame_info.specs.Lines.{timeline_lines}
use Rattle.jxl_frame_info.specs.Timelines.{IsTimelineOf}
use Rattle.jxl_frame_info.specs.declared.timeline.Timeline.{Timeline}
use Rattle.jxl_layers.specs.Openings.{OpeningFails}
use Rattle.jxl_lossless.specs.declared.error.FileError.TheVariants as files
use Rattle.jxl_lossless.specs.Pictures.{FileFails, IsPictureOfFile, ProfileOfFile}
use Rattle.jxl_codestream.specs.declared.error.FrontError.{FrontError}
use Rattle.jxl_codestream.specs.declared.error.FrontError.TheVariants as fronts
use Rattle.jxl_image_header.specs.declared.size.Size.{Size}
use Rattle.jxldec_lines.specs.Failures.{Reports, has_lack, is_of_output}
use Rattle.jxldec_lines.specs.Formats.{IsWrittenAs, chosen}
use Rattle.jxldec_options.specs.Options.{subject}
use Rattle.jxldec.specs.Layers.{has_frames, is_layered, is_layers_error, is_of_layers, lists_frames}
use Rattle.jxldec_lines.specs.Losses.{has_loss, loss_in, unless_saved}
use Rattle.jxldec_lines.specs.Warnings.{has_more, kinds_left_out, lacking_lines, one_frame, warnings}
use Rattle.jxldec_lines.specs.declared.failures.Lacks.{Lacks}
use Rattle.jxldec_lines.specs.declared.failures.Failure.{Failure}
use Rattle.jxldec_lines.specs.declared.failures.Failure.TheVariants as failures
use Rattle.jxldec_lines.specs.declared.format.OutputFormat.{OutputFormat}
use Rattle.jxldec_lines.specs.declared.format.OutputFormat.TheVariants.{Png}
use Rattle.jxldec_lines.specs.declared.loss.Loss.{Loss}
use Rattle.jxldec_lines.specs.declared.loss.Loss.TheVariants.{Nothing}
use Rattle.jxldec.specs.Animations.{IsApngText}
use Rattle.jxldec.specs.declared.content.Beside.{Beside}
use Rattle.jxldec.specs.declared.metadata.Metadata.{Metadata}
use Rattle.jxldec_options.specs.declared.options.Options.{Options}
use Rattle.jxldec_options.specs.declared.options.Task.{Task}
use Rattle.jxldec_options.specs.declared.options.Task.TheVariants as tasks
use Rattle.jxldec_lines.specs.declared.warning.FrameCount.{FrameCount}

-- What a file has beside its picture: Exif and XMP data, if present, and the first error of the boxes after the codestream.
pub record IsBeside (file : List ℕ) (beside : Beside) : Type 0 where
  pub exif : HasExif file (option_copied beside.exif)
  pub xmp : HasXmp file (option_copied beside.xmp)
  pub later : HasLaterError file beside.later_error

-- The text is this picture of a file in a format, in PNG with its profile and the Exif and XMP data of the file; of its channels these
-- kinds are left out, and of its meaning this.
pub record IsTextOf (file : List ℕ) (picture : Picture) (asked : Option OutputFormat) (text others : List ℕ) (loss : Loss) : Type 0 where
  pub exif : Option (List ℕ)
  pub exif_is : HasExif file exif
  pub xmp : Option (List ℕ)
  pub xmp_is : HasXmp file xmp
  pub format : OutputFormat
  pub suited : chosen asked (image_of picture.header) ≡ Some format
  pub written : IsWrittenAs format (image_of picture.header) picture.channels.items (bytes_if picture.profile) exif xmp text
  pub without : others ≡ kinds_left_out format (image_of picture.header).ec_info
  pub meant : loss ≡ loss_in format (image_of picture.header)

-- The text is the picture of the file.
pub record IsTextOfFile (limits : Limits) (file : List ℕ) (asked : Option OutputFormat) (text others : List ℕ) (loss : Loss) : Type 0 where
  pub picture : Picture
  pub steps : ℕ
  pub is : IsPictureOfFile limits file picture 0 steps
  pub written : IsTextOf file picture asked text others loss

-- It is the picture with this number among those that the file shows, from 0 on.
pub record IsTextOfFrame (limits : Limits) (file : List ℕ) (number : ℕ) (asked : Option OutputFormat) (text others : List ℕ) (loss : Loss) : Type 0 where
  pub picture : Picture
  pub is : IsFrameOfFile limits file number picture
  pub written : IsTextOf file picture asked text others loss

-- The headers of the file are supported, of a picture that is not written in the format that is asked for, or in any.
pub record HasNoFormat (limits : Limits) (file : List ℕ) (asked : Option OutputFormat) : Type 0 where
  pub image : Image
  pub headers : HeadersOfFile (entropy decoder_at) limits file image None
  pub none : chosen asked image ≡ None

-- The headers of the file say that it has one picture, or several, or layers, of which none is written in the format that is asked
-- for, or in any.
pub record FramesHaveNoFormat (limits : Limits) (file : List ℕ) (asked : Option OutputFormat) : Type 0 where
  pub image : Image
  pub reason : Option FrontError
  pub headers : HeadersOfFile (entropy decoder_at) limits file image reason
  pub lifted : has_frames reason ≡ true
  pub none : chosen asked image ≡ None

-- The picture of the file is above the limits: it has these sides, and this number of extra channels.
pub record IsAboveLimits (limits : Limits) (file : List ℕ) (size : Size) (extra : ℕ) (most : Limits) : Type 0 where
  pub image : Image
  pub headers : HeadersOfFile (entropy decoder_at) limits file image (Some fronts.TooLarge)
  pub sides : size ≡ image.size
  pub channels : extra ≡ length image.ec_info
  pub compared : most ≡ limits

-- The profile of a file, if there is one: of a still picture; or of an animation, or of layers.
abbrev pub HasProfile : Limits → List ℕ → Option (List ℕ) → Type 0
HasProfile limits file icc = ProfileOfFile limits file icc ⊎ ((bytes : List ℕ) × (image : Image) × (start : ℕ) × BeginFrames limits file bytes image icc start)

-- what each failure says of the file whose picture is asked for
abbrev pub TextFails : Limits → List ℕ → Option OutputFormat → Failure → Type 0
TextFails limits file asked (failures.File error) = FileFails limits file error
TextFails limits file asked (failures.TooLarge size extra most) = IsAboveLimits limits file size extra most
TextFails limits file asked failures.NoFormat = HasNoFormat limits file asked
TextFails limits file asked failures.OutOfMemory = Unit {0}
TextFails limits file asked failure = ⊥

-- what each failure says of a file before its frames; that it has several pictures, or layers, is none
abbrev pub InfoFails : Limits → List ℕ → Failure → Type 0
InfoFails limits file (failures.File error) = FileFails limits file error × (is_layers_error error ≡ false)
InfoFails limits file (failures.TooLarge size extra most) = IsAboveLimits limits file size extra most
InfoFails limits file failures.OutOfMemory = Unit {0}
InfoFails limits file failure = ⊥

-- what each failure says of the file whose profile is asked for
abbrev pub ProfileFails : Limits → List ℕ → Failure → Type 0
ProfileFails limits file (failures.Frames error) = FileNotOpened limits file error
ProfileFails limits file failure = InfoFails limits file failure

-- what each failure says of the file of which the picture with this number is asked for
abbrev pub FrameTextFails : Limits → List ℕ → ℕ → Option OutputFormat → Failure → Type 0
FrameTextFails limits file number asked (failures.Frames error) = FrameOfFileFails limits file number error
FrameTextFails limits file number asked (failures.NoFrame none) = (none ≡ number) × HasFewerFrames limits file number
FrameTextFails limits file number asked failures.NoFormat = FramesHaveNoFormat limits file asked
FrameTextFails limits file number asked failure = InfoFails limits file failure

-- the reason why frames are not decoded is one that `--info` prints
abbrev pub IsPrinted : Option FrontError → Type 0
IsPrinted reason = MatchOption reason (Unit {0}) (λ e. is_refusal e ≡ true)

-- The frames of a file are listed: this is when its pictures are shown.
pub record AreListed (limits : Limits) (file : List ℕ) (timeline : Timeline) : Type 0 where
  pub bytes : List ℕ
  pub found : HasCodestream file (Ok bytes)
  pub is : IsTimelineOf limits bytes timeline

-- The text is what `--info` prints of a file that has several pictures, or layers, and this image header.
pub record IsInfoOfFrames (limits : Limits) (file : List ℕ) (image : Image) (text : List ℕ) : Type 0 where
  pub timeline : Timeline
  pub listed : AreListed limits file timeline
  pub printed : IsPrinted timeline.reason
  pub is : text ≡ info_text (is_boxed file) image None ++ timeline_lines image.animation timeline.durations.items ++ reason_line timeline.reason

-- The text is what `--info` prints of a file.
pub record IsInfoText (limits : Limits) (file text : List ℕ) : Type 0 where
  pub image : Image
  pub reason : Option FrontError
  pub headers : HeadersOfFile (entropy decoder_at) limits file image reason
  pub is : MatchBool (lists_frames reason) (IsInfoOfFrames limits file image text) (text ≡ info_text (is_boxed file) image reason)

-- what the headers of a file tell, of which nothing is left out
abbrev pub IsInfo : Limits → List ℕ → List ℕ → List ℕ → Loss → Type 0
IsInfo limits file text others loss = IsInfoText limits file text × (others ≡ []) × (loss ≡ Nothing)

-- what each error says of the frames of a file that are not listed
abbrev pub FrontNotListed : Limits → List ℕ → FrontError → Type 0
FrontNotListed limits file e = ((bytes : List ℕ) × HasCodestream file (Ok bytes) × OpeningFails limits bytes e) ⊎ ((timeline : Timeline) × AreListed limits file timeline × (timeline.reason ≡ Some e))

abbrev pub NotListed : Limits → List ℕ → AnimationError → Type 0
NotListed limits file (animations.File (files.Front e)) = FrontNotListed limits file e
NotListed limits file e = ⊥

-- what each failure says of the file whose headers are asked for
abbrev pub ListFails : Limits → List ℕ → Failure → Type 0
ListFails limits file (failures.File e) = FileFails limits file e
ListFails limits file (failures.Frames e) = NotListed limits file e
ListFails limits file failure = InfoFails limits file failure

-- as many pictures as this are shown by a file, as far as its frames are listed
abbrev pub CountsFrames : Limits → List ℕ → FrameCount → Type 0
CountsFrames limits file frames = (timeline : Timeline) × AreListed limits file timeline × (frames.count ≡ length timeline.durations.items) × (frames.is_all ≡ not (is_some timeline.reason))

-- A file has no still picture, since it has several pictures, or layers.
pub record HasLayers (limits : Limits) (file : List ℕ) : Type 0 where
  pub reason : FrontError
  pub fails : FileFails limits file (files.Front reason)
  pub layered : is_of_layers reason ≡ true

-- The text is the picture of a file; or its first picture, if it has several, or layers.
abbrev pub IsPictureText : Limits → List ℕ → Option OutputFormat → List ℕ → List ℕ → Loss → FrameCount → Type 0
IsPictureText limits file asked text others loss frames =
    (IsTextOfFile limits file asked text others loss × (frames ≡ one_frame)) ⊎ (HasLayers limits file × IsTextOfFrame limits file 0 asked text others loss × CountsFrames limits file frames)

-- The text is a PNG file of the first picture of a file, which is no animation and shows as many as this.
pub record IsFirstPng (limits : Limits) (file text others : List ℕ) (loss : Loss) (frames : FrameCount) : Type 0 where
  pub picture : IsTextOfFrame limits file 0 (Some Png) text others loss
  pub still : (image_of picture.picture.header).animation ≡ None
  pub counts : CountsFrames limits file frames

-- The text is the animation of a file as an APNG file; or a PNG file of its picture, or of its first one if it has layers.
abbrev pub IsAnimationText : Limits → List ℕ → List ℕ → List ℕ → Loss → FrameCount → Type 0
IsAnimationText limits file text others loss frames =
    (IsTextOfFile limits file (Some Png) text others loss × (frames ≡ one_frame)) ⊎
    (HasLayers limits file × ((IsApngText limits file text others loss × (frames ≡ one_frame)) ⊎ IsFirstPng limits file text others loss frames))

-- what is asked of a file for the output: what its headers tell, its picture, its animation, the picture with a number, or nothing
abbrev pub IsAsked : Task → Limits → Option OutputFormat → List ℕ → List ℕ → List ℕ → Loss → FrameCount → Type 0
IsAsked tasks.Headers limits asked file text others loss frames = IsInfo limits file text others loss × (frames ≡ one_frame)
IsAsked tasks.Picture limits asked file text others loss frames = IsPictureText limits file asked text others loss frames
IsAsked tasks.Animation limits asked file text others loss frames = IsAnimationText limits file text others loss frames
IsAsked (tasks.Frame number) limits asked file text others loss frames = IsTextOfFrame limits file number asked text others loss × (frames ≡ one_frame)
IsAsked tasks.Nothing limits asked file text others loss frames = (text ≡ []) × (others ≡ []) × (loss ≡ Nothing) × (frames ≡ one_frame)

-- why the picture of a file is not made, or its first picture
abbrev pub PictureFails : Limits → List ℕ → Option OutputFormat → Failure → Type 0
PictureFails limits file asked failure = (TextFails limits file asked failure × (is_layered failure ≡ false)) ⊎ (HasLayers limits file × FrameTextFails limits file 0 asked failure)

-- more pictures than this are shown by a file, by the headers of its frames
abbrev pub CountsMore : Limits → List ℕ → ℕ → Type 0
CountsMore limits file number = (timeline : Timeline) × AreListed limits file timeline × (number < length timeline.durations.items)

-- what each failure says of the file of several pictures, or of layers, whose animation is asked for: that it has fewer pictures is said
-- of a number that its headers count, or of the first
abbrev pub LayersFail : Limits → List ℕ → Failure → Type 0
LayersFail limits file (failures.Frames error) = (number : ℕ) × FrameOfFileFails limits file number error
LayersFail limits file (failures.NoFrame number) = HasFewerFrames limits file number × ((number ≡ 0) ⊎ CountsMore limits file number)
LayersFail limits file failures.NoFormat = FramesHaveNoFormat limits file (Some Png)
LayersFail limits file failure = InfoFails limits file failure

-- why neither the animation of a file is made, nor its picture
abbrev pub AnimationFails : Limits → List ℕ → Failure → Type 0
AnimationFails limits file failure = (TextFails limits file (Some Png) failure × (is_layered failure ≡ false)) ⊎ (HasLayers limits file × LayersFail limits file failure)

-- why what is asked of a file is not made
abbrev pub AskedFails : Task → Limits → Option OutputFormat → List ℕ → Failure → Type 0
AskedFails tasks.Headers limits asked file failure = ListFails limits file failure
AskedFails tasks.Picture limits asked file failure = PictureFails limits file asked failure
AskedFails tasks.Animation limits asked file failure = AnimationFails limits file failure
AskedFails (tasks.Frame number) limits asked file failure = FrameTextFails limits file number asked failure
AskedFails tasks.Nothing limits asked file failure = InfoFails limits file failure

-- The text is what is asked of a file, and the output got a beginning of it.
pub record IsBegun (task : Task) (limits : Limits) (asked : Option OutputFormat) (old new : Option (List ℕ)) (file : List ℕ) : Type 0 where
  pub text : List ℕ
  pub others : List ℕ
  pub loss : Loss
  pub frames : FrameCount
  pub is : IsAsked task limits asked file text others loss frames
  pub begun : AppendsBeginning old new text

-- A part of the input was read, from left to rest, as no JPEG XL file begins. It has 12 bytes at least, or is the whole input.
pub record IsForeign (left rest : Option (List ℕ)) : Type 0 where
  pub part : List ℕ
  pub read : Consumes left rest part
  pub bare : is_bare part ≡ false
  pub boxed : has_signature part ≡ false
  pub long : length part < 12 → IsAtEnd rest

-- what each failure says of an input that is not read to its end: it cannot be read by this error, or it begins as no JPEG XL file
abbrev pub ReadingFails : Option (List ℕ) → Option (List ℕ) → (Error → Type 0) → Failure → Type 0
ReadingFails left rest Unread (failures.Unreadable error) = IsReadPart left rest × Unread error
ReadingFails left rest Unread failures.Foreign = IsForeign left rest
ReadingFails left rest Unread failure = ⊥

-- what each failure says of the input, from left to rest, and of the output: the input was read to its end, unless it cannot be
-- read by this error or begins as no JPEG XL file; what is asked of it was made before the output was written, and the output got a
-- beginning of that; that it has no profile that can be read is said only if the profile is wanted
abbrev pub InputFails : Task → Limits → Option OutputFormat → Bool → Option (List ℕ) → Option (List ℕ) → (Error → Type 0) → Option (List ℕ) → Option (List ℕ) → Failure → Type 0
InputFails task limits asked wanted left rest Unread old new (failures.Unreadable error) = ReadingFails left rest Unread (failures.Unreadable error)
InputFails task limits asked wanted left rest Unread old new failures.Foreign = ReadingFails left rest Unread failures.Foreign
InputFails task limits asked wanted left rest Unread old new (failures.Unwritable error) = IsReadWhole left rest (IsBegun task limits asked old new) × (is_closed error ≡ false)
InputFails task limits asked wanted left rest Unread old new failures.Closed = IsReadWhole left rest (IsBegun task limits asked old new)
InputFails task limits asked wanted left rest Unread old new (failures.Unsaved extra error) = IsReadWhole left rest (IsBegun task limits asked old new)
InputFails task limits asked wanted left rest Unread old new failure = IsReadWhole left rest (λ file. AskedFails task limits asked file failure ⊎ ((wanted ≡ true) × ProfileFails limits file failure))

-- The input was read to its end, from left to rest, and the output got what was asked of what was read, which has this error after its codestream, or none.
pub record IsWritten (task : Task) (limits : Limits) (asked : Option OutputFormat) (left rest old new : Option (List ℕ)) (others : List ℕ) (loss : Loss) (frames : FrameCount) (error : Option BoxError) : Type 0 where
  pub file : List ℕ
  pub text : List ℕ
  pub read : Consumes left rest file
  pub ended : IsAtEnd rest
  pub is : IsAsked task limits asked file text others loss frames
  pub later : HasLaterError file error
  pub written : Appends old new text

-- these data of a file were looked for, if they are wanted: they were found, or it lacks them
abbrev pub IsLookedFor : Bool → (Option (List ℕ) → Type 0) → Bool → Option (List ℕ) → Type 0
IsLookedFor wanted Has lack found = MatchBool wanted (Has found × (lack ≡ is_none found)) ((found ≡ None) × (lack ≡ false))

-- the profile, the Exif data and the XMP data of a file were looked for, those that are asked for
abbrev pub AreLookedFor : Options → List ℕ → Metadata → Type 0
AreLookedFor options file metadata = IsLookedFor (is_some options.paths.icc) (HasProfile options.limits file) metadata.lacks.profile (bytes_if metadata.profile)
    × IsLookedFor (is_some options.paths.exif) (HasExif file) metadata.lacks.exif (option_copied metadata.exif)
    × IsLookedFor (is_some options.paths.xmp) (HasXmp file) metadata.lacks.xmp (option_copied metadata.xmp)

-- These data of a file were looked for, if they are wanted, and what was found is in their output, which has passed it on; if nothing
-- was found, their output stays as it was.
pub record IsSaved (wanted : Bool) (Has : Option (List ℕ) → Type 0) (lack : Bool) (old new : Option (List ℕ)) (Flushed Stays : Type 0) : Type 0 where
  pub found : Option (List ℕ)
  pub looked : IsLookedFor wanted Has lack found
  pub kept : IsKept found old new Flushed Stays

-- so it is of the profile, the Exif data and the XMP data of a file, which lacks these
abbrev pub AreSaved : {F : Type 0} → (F → Option (List ℕ)) → (F → Type 0) → Options → List ℕ → Lacks → Extras F → Extras F → Type 0
AreSaved contents Flushed options file lacks old new =
    IsSaved (is_some options.paths.icc) (HasProfile options.limits file) lacks.profile (contents old.profile) (contents new.profile) (Flushed new.profile) (new.profile ≡ old.profile)
    × IsSaved (is_some options.paths.exif) (HasExif file) lacks.exif (contents old.exif) (contents new.exif) (Flushed new.exif) (new.exif ≡ old.exif)
    × IsSaved (is_some options.paths.xmp) (HasXmp file) lacks.xmp (contents old.xmp) (contents new.xmp) (Flushed new.xmp) (new.xmp ≡ old.xmp)

-- a file lacks nothing that is asked for
abbrev pub no_lacks : Lacks
no_lacks = record { profile = false; exif = false; xmp = false }

-- So it is, and standard error gets the lines that warn of what is left out, and of the error after the codestream, unless
-- nothing but errors is to be printed; it gets nothing then, nor where there is nothing to warn of. A profile that is saved is
-- not left out.
pub record IsDone (task : Task) (quiet saved : Bool) (limits : Limits) (asked : Option OutputFormat) (name : List ℕ) (left rest old new : Option (List ℕ)) (Gets : List ℕ → Type 0) (Silent : Type 0) : Type 0 where
  pub others : List ℕ
  pub loss : Loss
  pub frames : FrameCount
  pub error : Option BoxError
  pub written : IsWritten task limits asked left rest old new others loss frames error
  pub gets : Gets (warnings quiet name others (unless_saved saved loss) frames error)
  pub kept : quiet ≡ true → Silent
  pub none : others ≡ [] → has_loss (unless_saved saved loss) ≡ false → has_more frames ≡ false → error ≡ None → Silent

-- What is asked for is not done, by this failure; the output stays as it was, unless it is what fails; standard error gets
-- the line of the failure, about what fails, or nothing if a pipe was closed.
pub record IsFailed (options : Options) (left rest : Option (List ℕ)) (Unread : Error → Type 0) (old new : Option (List ℕ)) (Stays Silent : Type 0) (Gets : Option Error → List ℕ → Type 0) : Type 0 where
  pub failure : Failure
  pub why : InputFails options.task options.limits options.format (is_some options.paths.icc) left rest Unread old new failure
  pub kept : is_of_output failure ≡ false → Stays
  pub reports : Reports (subject options failure) failure Silent Gets

-- The file lacks some of the data that are asked for. All else is done: the output got what is asked for, and has passed it on; the
-- data that were found are saved. Standard error gets the lines that warn, and the line that says what the file lacks.
pub record IsLacking (options : Options) (left rest old new : Option (List ℕ)) (Flushed : Type 0) (Saves : List ℕ → Lacks → Type 0) (Gets : List ℕ → Type 0) : Type 0 where
  pub lacks : Lacks
  pub some : has_lack lacks ≡ true
  pub others : List ℕ
  pub loss : Loss
  pub frames : FrameCount
  pub error : Option BoxError
  pub written : IsWritten options.task options.limits options.format left rest old new others loss frames error
  pub flushed : Flushed
  pub saved : IsReadWhole left rest (λ file. Saves file lacks)
  pub gets : Gets (lacking_lines options.quiet options.input.now others (unless_saved (is_some options.paths.icc) loss) frames error lacks)
