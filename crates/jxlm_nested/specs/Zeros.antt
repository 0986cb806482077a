-- Buffers before any sample is decoded.
use Rattle.std.specs.Prelude.{List, map}
use Rattle.jxlm_base.specs.Grid.{Grid, filled}
use Rattle.jxlm_transform.specs.Steps.{Sides}

-- for each buffer a grid of its sides, whose cells are 0
abbrev pub zeros : {S : Type 0} → S → List Sides → List (Grid S)
zeros zero sides = map (λ s. filled s.width s.height zero) sides
