-- The ICC profile of a file as a caller gets it.
use Rattle.std.specs.Prelude.{◌≡◌, ℕ, List}
use Rattle.jxl_c.specs.Headers.{HasHeaders, profile_bytes}
use Rattle.jxl_c.specs.declared.limits.CLimits.{CLimits}

-- These are the bytes of the profile of a file; none where there is no profile.
pub record IsProfileOfFile (limits : CLimits) (file icc : List ℕ) : Type 0 where
  pub has : HasHeaders limits file
  pub are : icc ≡ profile_bytes has.icc
