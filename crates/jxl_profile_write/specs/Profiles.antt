-- Profiles that were written (ISO/IEC 18181-1, ICC profile: the stream of its bytes).
use Rattle.std.specs.Prelude.{ℕ, ◌+◌, ◌≤◌, List, length}
use Rattle.jxl_coding.specs.Parse.{decoder_at}
use Rattle.jxl_coding.specs.Tokens.{entropy}
use Rattle.jxl_codestream.specs.Fronts.{StandsAt}
use Rattle.jxl_codestream.specs.Profiles.{profile}

-- a limit on the bytes of a profile allows this one, which takes at most 16 bytes more where it is encoded
abbrev pub AllowProfile : ℕ → List ℕ → Type 0
AllowProfile limit icc = length icc + 16 ≤ limit

-- from bit p up to bit q stands this profile, under each limit that allows it
abbrev pub IsProfileAt : List ℕ → List ℕ → ℕ → ℕ → Type 0
IsProfileAt icc bytes p q = (limit : ℕ) → AllowProfile limit icc → StandsAt (profile (entropy decoder_at) limit) bytes p icc q
