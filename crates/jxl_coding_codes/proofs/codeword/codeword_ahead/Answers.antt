use Rattle.std.proofs.Common.{ℕ, ◌+◌, ◌*◌, ◌%◌, ◌^◌, refl, ap, ◌∙◌, rules, arith}
use Rattle.jxlm_bits.specs.Bits.{bytes_of, position_of}
use Rattle.jxl_coding_codes.proofs.CodewordBits.{bit_ahead, all_left, ends_there, goes_past, ends_nowhere}
use Rattle.jxl_coding_codes.proofs.codeword.codeword_ahead.Goals as goal

pub loop-shorter-init : goal.loop-shorter-init
loop-shorter-init c = record {
  bytes = refl;
  position = refl;
  left = all_left c.args.counts.now c.args.symbols.now c.args.start (bytes_of c.args.bits.now) (position_of c.args.bits.now);
}

pub skip-requires-clause-room : goal.skip-requires-clause-room
skip-requires-clause-room c =
    rw c.loop-shorter.invariant.bytes (omega (arith, c.loop-shorter.invariant.position, c.requires.few, c.requires.room, c.loop-shorter-test.true))

pub returns-then-next-count-clause-gives : goal.returns-then-next-count-clause-gives
returns-then-next-count-clause-gives c =
    let i = c.loop-shorter.shorter in
    let bytes = bytes_of c.args.bits.now in
    let p = position_of c.args.bits.now in
    let bit = bit_ahead bytes p i c.bit_of-bit.result (c.bit_of-bit.ensures ∙ c.ahead-word.ensures i 1 (omega (arith, c.requires.few, c.loop-shorter-test.true))) in
    ends_there c.args.counts.now c.args.symbols.now c.args.start bytes p i c.loop-shorter.code c.loop-shorter.place c.with_bit-next.result _ _
    c.loop-shorter-test.true (omega (arith, c.requires.few, c.requires.room, c.loop-shorter-test.true))
    (c.with_bit-next.ensures ∙ ap (λ (b : ℕ). (2 * c.loop-shorter.code + b) % 2 ^ 32) bit) c.if-next-count.true
    c.symbol_after.ensures (c.skip.ensures.position ∙ ap (λ (q : ℕ). q + (i + 1)) c.loop-shorter.invariant.position) c.loop-shorter.invariant.left

pub returns-then-next-count-clause-bytes : goal.returns-then-next-count-clause-bytes
returns-then-next-count-clause-bytes c = c.skip.ensures.bytes ∙ c.loop-shorter.invariant.bytes

pub loop-shorter-preserved : goal.loop-shorter-preserved
loop-shorter-preserved c =
    let i = c.loop-shorter.shorter in
    let bytes = bytes_of c.args.bits.now in
    let p = position_of c.args.bits.now in
    let bit = bit_ahead bytes p i c.bit_of-bit.result (c.bit_of-bit.ensures ∙ c.ahead-word.ensures i 1 (omega (arith, c.requires.few, c.loop-shorter-test.true))) in
    record {
      bytes = c.loop-shorter.invariant.bytes;
      position = c.loop-shorter.invariant.position;
      left = goes_past c.args.counts.now c.args.symbols.now c.args.start bytes p i c.loop-shorter.code c.loop-shorter.place c.with_bit-next.result _ _
          c.loop-shorter-test.true (omega (arith, c.requires.few, c.requires.room, c.loop-shorter-test.true))
          (c.with_bit-next.ensures ∙ ap (λ (b : ℕ). (2 * c.loop-shorter.code + b) % 2 ^ 32) bit) c.if-next-count.false (search rules) (search rules) c.loop-shorter.invariant.left;
    }

pub returns-clause-gives : goal.returns-clause-gives
returns-clause-gives c =
    rw c.from.ensures (ends_nowhere c.args.counts.now c.args.symbols.now c.args.start (bytes_of c.args.bits.now) (position_of c.args.bits.now) c.loop-shorter.shorter c.loop-shorter.code
    c.loop-shorter.place c.loop-shorter-test.false c.loop-shorter.invariant.left)
