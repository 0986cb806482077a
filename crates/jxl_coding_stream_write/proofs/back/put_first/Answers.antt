use Rattle.std.proofs.Common.{◌++◌, ◌∙◌, ap, arith}
use Rattle.jxl_coding_stream_write.proofs.Bits.{digits_wrapped, put_both}
use Rattle.jxl_coding_stream_write.proofs.back.put_first.Goals as goal

pub returns-then-first-le32 : goal.returns-then-first-le32
returns-then-first-le32 c = c.in_ok-put.ensures ∙ ap (λ xs. c.args.bits.now ++ xs) (digits_wrapped c.args.first.count 32 c.args.first.value c.if-first-le32.true)

pub returns : goal.returns
returns c =
    let full = c.if-first-le32.false in
    put_both c.args.bits.now c.put-2.new.self c.put-3.new.self c.args.first.count c.args.first.value (omega (arith, full)) c.in_ok-put-2.ensures c.in_ok-put-3.ensures c.args.first.few
