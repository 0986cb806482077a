use Rattle.std.proofs.Common.{◌%◌, ◌^◌, ◌++◌, ◌∙◌, ap, append_assoc, arith}
use Rattle.jxlm_bit_writer.specs.Written.{digits}
use Rattle.jxl_coding_stream_write.specs.Inner.Backward.{bits_back}
use Rattle.jxl_coding_stream_write.proofs.stream.write_both.Goals as goal

pub reduced_with-reduced-requires-clause-some : goal.reduced_with-reduced-requires-clause-some
reduced_with-reduced-requires-clause-some c =
    let m = c.slots_of-own.ensures.many in
    let o = c.requires.occurs in
    omega (arith, m, o)

pub returns : goal.returns
returns c =
    let r = c.reduced_with-reduced.ensures.bits in
    let old = bits_back c.args.after.first c.args.words.now.items in (
      r.0,
      r.1,
      c.state_before.ensures c.args.after.state r.0 r.1 c.requires.state c.requires.below r.2,
      c.in_ok-first.ensures ∙ ap (λ xs. xs ++ old) r.3
          ∙ append_assoc (digits r.0 r.1) (digits c.args.upper.width (c.args.token % 2 ^ c.args.upper.width)) old,
    )
