-- The sections of a frame, as the code cuts them.
use Rattle.std.specs.Prelude.{ℕ, List, map, take, drop}
use Rattle.jxl_codestream.specs.declared.toc.TocEntry.{TocEntry}

-- the bytes of the sections that lie there, by their numbers
abbrev pub sections_of : List ℕ → List TocEntry → List (List ℕ)
sections_of bytes entries = map (λ e. take e.size (drop e.offset bytes)) entries
