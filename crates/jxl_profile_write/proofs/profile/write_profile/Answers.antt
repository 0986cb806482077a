use Rattle.std.proofs.Common.{◌≡◌, List, ℕ, length, subst, arith}
use Rattle.jxlm_bit_writer.specs.Writes.{Adds, Spells}
use Rattle.jxl_image_header.specs.Fields.{long}
use Rattle.jxl_profile_write.specs.Inner.Tokens.{IsEncodedAt}
use Rattle.jxl_profile_write.proofs.Written.{profile_written}
use Rattle.jxl_profile_write.proofs.profile.write_profile.Goals as goal

pub returns : goal.returns
returns c =
    let encoded = c.in_ok-encoded.encoded.items in
    let count : c.len.result ≡ length encoded = omega arith in
    profile_written encoded c.args.icc.now c.args.bits.now c.write_long.new.bits c.write_encoded.new.bits c.in_ok-encoded.ensures.gives c.in_ok-encoded.ensures.long c.requires.some
    (subst (λ (n : ℕ). Spells c.args.bits.now c.write_long.new.bits long n) count c.in_ok-write_long.ensures)
    (subst (λ (xs : List ℕ). Adds c.write_long.new.bits c.write_encoded.new.bits (IsEncodedAt xs)) c.deref.ensures.value c.in_ok-write_encoded.ensures)
