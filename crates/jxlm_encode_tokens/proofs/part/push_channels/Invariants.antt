use Rattle.std.proofs.Common.{◌≡◌, length}
use Rattle.jxlm_samples.specs.ChannelSettings.{IsAfterChannel}
use Rattle.jxlm_samples.specs.Part.{cells_before}
use Rattle.jxlm_samples.specs.Reading.{HasRoom, part_of}
use Rattle.jxlm_encode_tokens.specs.Inner.Walks.{AreFirstTokens}
use Rattle.jxlm_encode_tokens.proofs.part.push_channels.Given as goal

abbrev pub invariant-loop-i : goal.invariant-loop-i
invariant-loop-i g l = record {
  long : length l.scratch ≡ length l.fn.scratch;
  tokens : AreFirstTokens l.coding g.S.Sealed.width g.S.Sealed.to_int l.store g.T.TokenForm.form (cells_before (part_of l.coding).channels l.i) l.tokens.items;
  roomy : HasRoom l.coding l.walk.state;
  last : IsAfterChannel l.coding l.i l.walk.state;
}
