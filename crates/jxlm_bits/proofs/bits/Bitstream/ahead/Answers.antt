use Rattle.std.proofs.Common.{◌≡◌, ◌+◌, ◌*◌, ◌/◌, ◌%◌, ◌^◌, ◌∙◌, ap, arith, rules, sym}
use Rattle.std.proofs.Math.Nat.{div-div-eq-div-mul}
use Rattle.std.proofs.lemmas.Nat.{pow-add}
use Rattle.jxlm_bits.specs.Bits.{bits_at, bytes_of, position_of}
use Rattle.jxlm_bits.proofs.bits.Bitstream.ahead.Goals as goal

pub returns : goal.returns
returns c = λ b n h.
    let s = c.args.self.now in
    let word = c.word_at.result in
    let from = c.from.result + c.args.at in
    let bit : c.from.result ≡ s.bit = search rules in
    let shifted : word / 2 ^ (from % 8) / 2 ^ b ≡ word / 2 ^ (from % 8 + b) = div-div-eq-div-mul word (2 ^ (from % 8)) (2 ^ b) ∙ ap (λ m. word / m) (sym (pow-add 2 (from % 8) b)) in
    let place : 8 * (s.byte + from / 8) + (from % 8 + b) ≡ position_of s + c.args.at + b = omega (arith, bit) in
    ap (λ v. v % 2 ^ n) shifted ∙ c.word_at.ensures (from % 8 + b) n (omega (arith, h)) ∙ ap (λ q. bits_at (bytes_of s) q n) place
