use Rattle.std.proofs.Common.{◌≡◌, length}
use Rattle.jxlm_samples.specs.ChannelSettings.{region_at}
use Rattle.jxlm_samples.specs.Inner.Levels.{IsAtRow}
use Rattle.jxlm_samples.specs.Inner.Progress.{DecodesCells, moment, place_of}
use Rattle.jxlm_samples.specs.Reading.{part_of, regions_of}
use Rattle.jxlm_samples.proofs.decode.decode_rows.Given as goal

abbrev pub invariant-loop-y : goal.invariant-loop-y
invariant-loop-y g l = record {
  long : length l.row ≡ (region_at (regions_of l.rows.coding.now) l.rows.i).width;
  goes : DecodesCells l.rows.coding.now g.D.Decoder.meaning g.S.Sealed.width g.S.Sealed.to_int (place_of (part_of l.rows.coding.now) l.rows.i 0 0) (place_of (part_of l.rows.coding.now) l.rows.i 0 l.y) (moment l.fn.walk.source l.fn.store) (moment l.walk.source l.store);
  at : IsAtRow g.D.Decoder.meaning l.rows.coding.now l.walk g.S.Sealed.to_int l.store l.rows.path l.rows.only l.rows.i l.y;
}
