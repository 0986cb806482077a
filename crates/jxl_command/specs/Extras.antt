-- Where a program reads or writes the data that a file has beside its picture.
use Rattle.std.specs.Prelude.{ℕ, List, [], Bool, is_some}
use Rattle.std.specs.Option.{option_map_or}
use Rattle.jxl_command.specs.declared.extra.Extra.{Extra}
use Rattle.jxl_command.specs.declared.extra.Extra.TheVariants as extras
use Rattle.jxl_command.specs.declared.extra.ExtraPaths.{ExtraPaths}
use Rattle.jxl_command.specs.declared.extra.Extras.{Extras}

-- the path of these data; empty, if the command line has none
abbrev pub path_of : ExtraPaths → Extra → List ℕ
path_of paths extras.Profile = option_map_or (λ path. path.now) paths.icc []
path_of paths extras.Exif = option_map_or (λ path. path.now) paths.exif []
path_of paths extras.Xmp = option_map_or (λ path. path.now) paths.xmp []

-- the stream of these data
abbrev pub stream_of : {F : Type 0} → Extras F → Extra → F
stream_of streams extras.Profile = streams.profile
stream_of streams extras.Exif = streams.exif
stream_of streams extras.Xmp = streams.xmp

-- the command line has a path of these data
abbrev pub has_path : ExtraPaths → Extra → Bool
has_path paths extras.Profile = is_some paths.icc
has_path paths extras.Exif = is_some paths.exif
has_path paths extras.Xmp = is_some paths.xmp
