use Rattle.std.proofs.Common.{◌≡◌, ◌<◌, ◌∙◌, Err, Ok, arith, length, rules, subst}
use Rattle.jxlm_bits.specs.Bits.{bytes_of, position_of}
use Rattle.jxlm_bits.specs.Decoding.{ReadGives, TakesTokens}
use Rattle.jxlm_bits.proofs.DecodingLaws.{rest_more, takes_more}
use Rattle.jxlm_plain.specs.Plain.{plain_read, token_at}
use Rattle.jxlm_plain.proofs.PlainGives.{read_given, state}
use Rattle.jxlm_plain.proofs.plain.each_token.Goals as goal

pub returns-in-Err-clause-gives : goal.returns-in-Err-clause-gives
returns-in-Err-clause-gives c = λ codes clusters k m is.
    let h = c.loop-k.invariant in
    let same = h.len in
    let end = c.loop-k.auto.k-end in
    let gives = subst (λ bytes. ReadGives (Err c.in-Err.error) c.loop-k.mode c.token_of.new.mode (position_of c.loop-k.bits) (position_of c.token_of.new.bits) (token_at c.loop-k.mode c.args.code bytes (position_of c.loop-k.bits))) h.bytes c.in-Err.ensures.gives in
    let read = read_given c.loop-k.mode c.token_of.new.mode codes clusters c.args.code (Err c.in-Err.error) (bytes_of c.args.bits.now) (position_of c.loop-k.bits) (position_of c.token_of.new.bits) k m is gives in
    let place : position_of c.token_of.new.bits ≡ position_of c.loop-k.bits = read.2 in
    rw (read.1, place) (record {
      inside = omega (arith, same, end, c.loop-k-test.true);
      tokens = h.tokens codes clusters k m is;
      error = read.0;
      rest = h.rest;
    })

pub loop-k-preserved : goal.loop-k-preserved
loop-k-preserved c =
    let h = c.loop-k.invariant in
    let same = h.len in
    let end = c.loop-k.auto.k-end in
    let inside : c.loop-k.k < length c.loop-k.tokens = omega (arith, same, end, c.loop-k-test.true) in
    let gives = subst (λ bytes. ReadGives (Ok c.in-Ok.token) c.loop-k.mode c.token_of.new.mode (position_of c.loop-k.bits) (position_of c.token_of.new.bits) (token_at c.loop-k.mode c.args.code bytes (position_of c.loop-k.bits))) h.bytes c.in-Ok.ensures.gives in
    record {
      len = search rules;
      tokens = λ codes clusters k m is. takes_more (λ u p. plain_read u (bytes_of c.args.bits.now) p k m) c.loop-k.tokens (state c.args.mode.now codes clusters) (position_of c.args.bits.now) c.loop-k.k (state c.loop-k.mode codes clusters) (position_of c.loop-k.bits) c.in-Ok.token
          (state c.token_of.new.mode codes clusters) (position_of c.token_of.new.bits) inside (h.tokens codes clusters k m is)
          (read_given c.loop-k.mode c.token_of.new.mode codes clusters c.args.code (Ok c.in-Ok.token) (bytes_of c.args.bits.now) (position_of c.loop-k.bits) (position_of c.token_of.new.bits) k m is gives);
      rest = rest_more c.loop-k.tokens c.args.tokens.now c.loop-k.k c.in-Ok.token h.rest;
      bytes = c.in-Ok.ensures.bytes ∙ h.bytes;
    }

pub returns-clause-gives : goal.returns-clause-gives
returns-clause-gives c = λ codes clusters k m is.
    let h = c.loop-k.invariant in
    let end = c.loop-k.auto.k-end in
    let same = h.len in
    let all : c.loop-k.k ≡ length c.loop-k.tokens = omega (arith, end, same, c.loop-k-test.false) in
    subst (λ n. TakesTokens (λ u p. plain_read u (bytes_of c.args.bits.now) p k m) c.loop-k.tokens (state c.args.mode.now codes clusters) (position_of c.args.bits.now) n (state c.loop-k.mode codes clusters) (position_of c.loop-k.bits)) all (h.tokens codes clusters k m is)
