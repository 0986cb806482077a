-- Where the sections of a frame lie in a codestream (ISO/IEC 18181-1, frame: table of contents, sections; Modular: stream index).
use Rattle.std.specs.Prelude.{ℕ, List, map, take, drop, slice_get, if◌then◌else◌, Option, None}
use Rattle.std.specs.Option.{option_map}
use Rattle.jxlm_groups.specs.declared.part.SectionPart.{SectionPart}
use Rattle.jxl_codestream.specs.Layouts.{Layout, has_part, section_number, stream_index}
use Rattle.jxl_codestream.specs.Fronts.{FrameAt}

-- the bytes of the sections of a frame of a codestream, by their numbers: they lie from the byte on at which the frame begins
abbrev pub sections_in : List ℕ → FrameAt → List (List ℕ)
sections_in bytes frame = map (λ e. take e.size (drop e.offset (drop frame.start bytes))) frame.entries

-- the section of a part, and the index of its stream, where a frame that is cut in this way has it
abbrev pub section_of : Layout → List (List ℕ) → SectionPart → Option (List ℕ × ℕ)
section_of l sections part = if has_part l part then option_map (λ bytes. (bytes, stream_index l part)) (slice_get sections (section_number l part)) else None
