use Rattle.jxl_coding_build.specs.AnyWriters.{codes_in}
use Rattle.jxl_encode_tree.proofs.CodedSamples.{samples_coded}
use Rattle.jxl_encode_tree.proofs.samples.write_samples.Goals as goal

pub returns : goal.returns
returns c = samples_coded (codes_in c.args.codes.now) c.args.tokens.now _ _ c.in_ok-write_tokens.ensures
