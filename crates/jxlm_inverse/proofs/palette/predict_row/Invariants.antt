use Rattle.std.proofs.Common.{◌+◌, ◌*◌, [], ◌∷◌}
use Rattle.jxlm_base.specs.Regions.{store_meanings}
use Rattle.jxlm_base.specs.Outside.{KeepsOutside}
use Rattle.jxlm_predictor.specs.Standing.{HasSameRoom}
use Rattle.jxlm_inverse.specs.Inner.PaletteSteps.{FillsOnBy, StandsBefore}
use Rattle.jxlm_inverse.proofs.palette.predict_row.Given as goal

abbrev pub invariant-loop-x : goal.invariant-loop-x
invariant-loop-x g l =
    let width = l.channel.index.width in
    let old = store_meanings g.S.Sealed.to_int l.fn.store in
    let now = store_meanings g.S.Sealed.to_int l.store in
    record {
      keeps : KeepsOutside (l.channel.target ∷ []) l.fn.store l.store;
      room : HasSameRoom l.fn.state l.state;
      stands : StandsBefore l.palette width (l.y * width + l.x) l.state;
      fills : FillsOnBy g.S.Sealed.width l.bit_depth l.palette l.channel (l.y * width) (l.y * width + l.x) old l.fn.state now l.state;
    }
