use Rattle.std.specs.Prelude.{◌↔◌, IsTrue}
use Rattle.jxlm_inverse.specs.Inner.PaletteSteps.{number_of}
use Rattle.jxlm_inverse.specs.Inner.PaletteSteps.{AreSimple}
use Rattle.jxlm_inverse.proofs.palette.are_simple.Given as goal

abbrev pub invariant-loop-j : goal.invariant-loop-j
invariant-loop-j g l = IsTrue l.simple ↔ AreSimple l.palette (number_of g.S.Sealed.to_int l.indices) l.j
