use Rattle.std.proofs.Common.{◌≡◌, ◌+◌, ◌*◌, length}
use Rattle.jxlm_samples.specs.ChannelSettings.{region_at}
use Rattle.jxlm_samples.specs.Part.{cells_before}
use Rattle.jxlm_samples.specs.Reading.{part_of, regions_of}
use Rattle.jxlm_encode_tokens.specs.Inner.Walks.{AreFirstTokens}
use Rattle.jxlm_encode_tokens.proofs.part.push_lone_rows.Given as goal

abbrev pub invariant-loop-y : goal.invariant-loop-y
invariant-loop-y g l = record {
  long : length l.out ≡ (region_at (regions_of l.coding) l.i).width;
  tokens : AreFirstTokens l.coding g.S.Sealed.width g.S.Sealed.to_int l.store g.T.TokenForm.form
      (cells_before (part_of l.coding).channels l.i + l.y * (region_at (regions_of l.coding) l.i).width) l.tokens.items;
}
