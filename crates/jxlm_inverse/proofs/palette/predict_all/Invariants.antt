use Rattle.std.proofs.Common.{◌-◌, length}
use Rattle.jxlm_predictor.specs.Standing.{HasSameRoom}
use Rattle.jxlm_inverse.specs.Inner.PaletteSteps.{ChannelsDone}
use Rattle.jxlm_inverse.proofs.palette.predict_all.Given as goal

abbrev pub invariant-loop-i : goal.invariant-loop-i
invariant-loop-i g l = record {
  room : HasSameRoom l.fn.state l.state;
  done : ChannelsDone g.S.Sealed.to_int g.S.Sealed.width l.bit_depth l.palette l.table l.index l.finished (length l.finished - l.i) l.fn.store l.store;
}
