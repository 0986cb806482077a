use Rattle.std.proofs.Common.{◌*◌, [], ◌∷◌}
use Rattle.jxlm_base.specs.Regions.{store_meanings}
use Rattle.jxlm_base.specs.Outside.{KeepsOutside}
use Rattle.jxlm_predictor.specs.Standing.{HasSameRoom}
use Rattle.jxlm_inverse.specs.Inner.PaletteSteps.{FillsOnBy, StandsBefore}
use Rattle.jxlm_inverse.proofs.palette.predict_channel.Given as goal

abbrev pub invariant-loop-y : goal.invariant-loop-y
invariant-loop-y g l =
    let width = l.channel.index.width in
    record {
      keeps : KeepsOutside (l.channel.target ∷ []) l.fn.store l.store;
      room : HasSameRoom l.fn.state l.state;
      stands : StandsBefore l.palette width (l.y * width) l.state;
      fills : FillsOnBy g.S.Sealed.width l.bit_depth l.palette l.channel 0 (l.y * width) (store_meanings g.S.Sealed.to_int l.fn.store) l.fn.state (store_meanings g.S.Sealed.to_int l.store) l.state;
    }
