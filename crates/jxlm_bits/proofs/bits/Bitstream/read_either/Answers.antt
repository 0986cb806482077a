use Rattle.std.proofs.Common.{◌≡◌, ◌+◌, ◌*◌, ◌/◌, ◌%◌, ◌^◌, ◌==◌, ◌∙◌, ap, arith, if◌then◌else◌, sym}
use Rattle.std.specs.Prelude.{nat_eq}
use Rattle.std.proofs.Math.Nat.{div-div-eq-div-mul}
use Rattle.std.proofs.lemmas.Nat.{one_shl, pow-add}
use Rattle.jxlm_bits.specs.Bits.{bits_at, bytes_of, position_of, width_after}
use Rattle.jxlm_bits.proofs.bits.Bitstream.read_either.Goals as goal

pub returns-clause-ok : goal.returns-clause-ok
returns-clause-ok c =
    let s = c.args.self.now in
    let bytes = bytes_of s in
    let word = c.word_at.result in
    let n = c.width_by-n.result in
    let bit : word / 2 ^ s.bit % 2 ≡ bits_at bytes (position_of s) 1 = c.word_at.ensures s.bit 1 (omega arith) in
    let wide : n ≡ width_after c.args.zero c.args.one bytes (position_of s) = c.width_by-n.ensures.is ∙ ap (λ v. if v == 1 then c.args.one else c.args.zero) bit in
    let place : 8 * s.byte + (s.bit + 1) ≡ position_of s + 1 = omega arith in
    let half : word / 2 ^ s.bit / 2 ≡ word / 2 ^ (s.bit + 1) = div-div-eq-div-mul word (2 ^ s.bit) 2 ∙ ap (λ m. word / m) (sym (pow-add 2 s.bit 1)) in
    let number : word / 2 ^ s.bit / 2 % 2 ^ n ≡ bits_at bytes (position_of s + 1) n =
    ap (λ v. v % 2 ^ n) half ∙ c.word_at.ensures (s.bit + 1) n (omega arith) ∙ ap (λ q. bits_at bytes q n) place in
    record {
      bit_is = ap (λ v. nat_eq v 1) bit;
      number_is = rw (one_shl n 64 (omega arith)) (number ∙ ap (bits_at bytes (position_of s + 1)) wide);
      position = rw (← wide) (omega arith);
      fit = omega arith;
    }
