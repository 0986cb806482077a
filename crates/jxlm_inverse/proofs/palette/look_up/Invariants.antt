use Rattle.std.proofs.Common.{◌≡◌, ℕ, ◌<◌, length, w32, FitsSigned}
use Rattle.std.specs.Prelude.{get_or, pos, unsigned_abs}
use Rattle.jxlm_inverse.specs.Inner.PaletteSteps.{number_of}
use Rattle.jxlm_inverse.proofs.palette.look_up.Given as goal

abbrev pub invariant-loop-j : goal.invariant-loop-j
invariant-loop-j g l =
    let to_int = g.S.Sealed.to_int in
    record {
      len : length l.line ≡ length l.fn.line;
      fit : (i : ℕ) → i < l.j → FitsSigned w32 (get_or l.line i (pos 0));
      looked_up : (i : ℕ) → i < l.j → get_or l.line i (pos 0) ≡ number_of to_int l.colours (unsigned_abs (number_of to_int l.indices i));
    }
