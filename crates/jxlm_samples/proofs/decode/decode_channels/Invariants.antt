use Rattle.jxlm_samples.specs.Inner.Levels.{IsAtChannel}
use Rattle.jxlm_samples.specs.Inner.Progress.{DecodesCells, moment}
use Rattle.jxlm_samples.specs.Part.{cells_before}
use Rattle.jxlm_samples.specs.Reading.{part_of}
use Rattle.jxlm_samples.proofs.decode.decode_channels.Given as goal

abbrev pub invariant-loop-i : goal.invariant-loop-i
invariant-loop-i g l = record {
  goes : DecodesCells l.coding g.D.Decoder.meaning g.S.Sealed.width g.S.Sealed.to_int 0 (cells_before (part_of l.coding).channels l.i) (moment l.fn.walk.source l.fn.store) (moment l.walk.source l.store);
  at : IsAtChannel g.D.Decoder.meaning l.coding l.walk l.store l.i;
}
