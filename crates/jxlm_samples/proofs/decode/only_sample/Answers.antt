use Rattle.std.proofs.Common.{inl, inr, subst}
use Rattle.jxlm_samples.specs.Inner.Paths.{IsReadableZero}
use Rattle.jxlm_samples.proofs.decode.only_sample.Goals as goal

pub only_sample_at-requires-clause-readable : goal.only_sample_at-requires-clause-readable
only_sample_at-requires-clause-readable g c κs within = subst (IsReadableZero (g.D.Decoder.meaning.cluster_map c.args.decoder.now)) c.in-Constant.is c.requires.readable

pub returns-in-Constant : goal.returns-in-Constant
returns-in-Constant g c = c.only_sample_at.ensures c.args.path (inl c.in-Constant.is)

pub only_sample_at-requires-in-Zero-clause-readable : goal.only_sample_at-requires-in-Zero-clause-readable
only_sample_at-requires-in-Zero-clause-readable g c κs within = subst (IsReadableZero (g.D.Decoder.meaning.cluster_map c.args.decoder.now)) c.in-Zero.is c.requires.readable

pub returns-in-Zero : goal.returns-in-Zero
returns-in-Zero g c = c.only_sample_at-in-Zero.ensures c.args.path (inr c.in-Zero.is)
