use Rattle.std.proofs.Common.{◌≡◌, ◌<◌, ◌∙◌, Contains, Ok, Err, arith, length, refl, rules, subst, sym}
use Rattle.jxlm_bits.specs.Bits.{bytes_of, position_of}
use Rattle.jxlm_bits.specs.Decoding.{TakesTokens}
use Rattle.jxlm_bits.proofs.DecodingLaws.{rest_more, takes_more}
use Rattle.jxlm_bits.proofs.decoder.Decoder.read_varints_with_multiplier_clustered.Goals as goal

pub loop-k-init : goal.loop-k-init
loop-k-init g c = record { known = c.requires; len = refl; tokens = (refl, refl); rest = λ j l. refl; bytes = refl }

pub read_varint_with_multiplier_clustered-requires : goal.read_varint_with_multiplier_clustered-requires
read_varint_with_multiplier_clustered-requires g c = c.loop-k.invariant.known

pub returns-in-Err-clause-gives : goal.returns-in-Err-clause-gives
returns-in-Err-clause-gives g c =
    let d = g.Self.Decoder.meaning in
    let h = c.loop-k.invariant in
    let same = h.len in
    let end = c.loop-k.auto.k-end in
    let gives = c.in-Err.ensures.gives in
    let here : c.read_varint_with_multiplier_clustered.new.self ≡ c.loop-k.self = gives.1 in
    let place : position_of c.read_varint_with_multiplier_clustered.new.bits ≡ position_of c.loop-k.bits = gives.2 in
    rw (here, place) (record {
      inside = omega (arith, same, end, c.loop-k-test.true);
      tokens = h.tokens;
      error = subst (λ bytes. d.read c.loop-k.self bytes (position_of c.loop-k.bits) c.args.cluster c.args.multiplier ≡ Err c.in-Err.error) h.bytes gives.0;
      rest = h.rest;
    })

pub returns-in-Err-clause-bytes : goal.returns-in-Err-clause-bytes
returns-in-Err-clause-bytes g c = c.in-Err.ensures.bytes ∙ c.loop-k.invariant.bytes

pub loop-k-preserved : goal.loop-k-preserved
loop-k-preserved g c =
    let d = g.Self.Decoder.meaning in
    let h = c.loop-k.invariant in
    let same = h.len in
    let end = c.loop-k.auto.k-end in
    let gives = c.in-Ok.ensures.gives in
    let inside : c.loop-k.k < length c.loop-k.tokens = omega (arith, same, end, c.loop-k-test.true) in
    record {
      known = subst (λ clusters. Contains clusters c.args.cluster) (sym (g.met.Self.Decoder.lawful.read_keeps c.loop-k.self (bytes_of c.loop-k.bits) (position_of c.loop-k.bits) c.args.cluster c.args.multiplier _ h.known gives).clusters) h.known;
      len = search rules;
      tokens = takes_more (λ s p. d.read s (bytes_of c.args.bits.now) p c.args.cluster c.args.multiplier) c.loop-k.tokens c.args.self.now (position_of c.args.bits.now) c.loop-k.k c.loop-k.self (position_of c.loop-k.bits) c.in-Ok.token
          c.read_varint_with_multiplier_clustered.new.self (position_of c.read_varint_with_multiplier_clustered.new.bits) inside h.tokens
          (subst (λ bytes. d.read c.loop-k.self bytes (position_of c.loop-k.bits) c.args.cluster c.args.multiplier ≡ Ok (record { value = c.in-Ok.token; state = c.read_varint_with_multiplier_clustered.new.self; position = position_of c.read_varint_with_multiplier_clustered.new.bits })) h.bytes gives);
      rest = rest_more c.loop-k.tokens c.args.tokens.now c.loop-k.k c.in-Ok.token h.rest;
      bytes = c.in-Ok.ensures.bytes ∙ h.bytes;
    }

pub returns-clause-gives : goal.returns-clause-gives
returns-clause-gives g c =
    let h = c.loop-k.invariant in
    let end = c.loop-k.auto.k-end in
    let same = h.len in
    let all : c.loop-k.k ≡ length c.loop-k.tokens = omega (arith, end, same, c.loop-k-test.false) in
    subst (λ n. TakesTokens (λ s p. g.Self.Decoder.meaning.read s (bytes_of c.args.bits.now) p c.args.cluster c.args.multiplier) c.loop-k.tokens c.args.self.now (position_of c.args.bits.now) n c.loop-k.self (position_of c.loop-k.bits)) all h.tokens

pub returns-clause-bytes : goal.returns-clause-bytes
returns-clause-bytes g c = c.loop-k.invariant.bytes
