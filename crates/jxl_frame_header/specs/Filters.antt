-- Filters of what was decoded (ISO/IEC 18181-1, frame header: RestorationFilter).
use Rattle.std.specs.Prelude.{ℕ, ◌==◌, ◌&&◌, not, Bool, true, if◌then◌else◌}
use Rattle.jxlm_bits.specs.Grammar.{Grammar, number, flag, give, ◌>>=◌}
use Rattle.jxl_image_header.specs.Fields.{extensions, ignored_bytes, bundle_follows, when}
use Rattle.jxl_frame_header.specs.declared.filter.RestorationFilter.{RestorationFilter}

-- n bytes of floats, which are not looked at, after a flag that says whether they are there
unfoldable pub own_floats : ℕ → Grammar (Unit {0})
own_floats n = flag >>= λ own. when own (ignored_bytes n) tt

-- The filters of a frame that is Modular or not: whether there is a smoothing one, with its 6 weights; how often the
-- edge-preserving one is applied, by default twice, with its 8 sharpnesses, 5 weights, 3 or 4 sigmas, and a sigma.
unfoldable pub filter : Bool → Bool → Grammar RestorationFilter
filter there modular = do
  follows ← bundle_follows there
  gab ← when follows flag true
  _ ← when (follows && gab) (own_floats 12) tt
  times ← when follows (number 2) 2
  let edges = follows && not (times == 0)
  _ ← when (edges && not modular) (own_floats 16) tt
  _ ← when edges (own_floats 10) tt
  _ ← when edges (own_floats (if modular then 6 else 8)) tt
  _ ← when (edges && modular) (ignored_bytes 2) tt
  give (record { gab = gab; epf_iters = times; extensions = (← when follows extensions 0) })
