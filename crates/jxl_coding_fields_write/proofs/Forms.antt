-- Distributions in their short forms, as they were written.
use Rattle.std.proofs.Common.{◌≡◌, ℕ, ◌+◌, ◌-◌, ◌≤◌, List, ◌++◌, false, refl, arith}
use Rattle.jxlm_bit_writer.specs.Writes.{Writes}
use Rattle.jxlm_bit_writer.specs.Written.{digits}
use Rattle.jxlm_bit_writer.proofs.WriteLaws.{after, becomes}
use Rattle.jxl_coding_codes.specs.Fields.{var_len_at}
use Rattle.jxl_coding_codes.specs.Distributions.{distribution_at, few_at, even_first, one_symbol}
use Rattle.jxl_coding_fields_write.proofs.NumberFields.{number_writes}

pub even_writes : (symbols : ℕ) (a b c d : List ℕ) → 1 ≤ symbols → b ≡ a ++ digits 1 0 → c ≡ b ++ digits 1 1 → Writes c d (λ bytes p. var_len_at bytes p false) (symbols - 1) →
    Writes a d distribution_at (even_first symbols symbols)
unfolding distribution_at
even_writes symbols a b c d some e f w =
    let n : symbols - 1 + 1 ≡ symbols = omega (arith, some) in
    becomes (after (number_writes 1 0 a b (omega arith) e) (after (number_writes 1 1 b c (omega arith) f) w)) (λ bytes p q s. rw (s.1, s.2.1, s.2.2, n) refl)

pub only_writes : (symbol : ℕ) (a b c d : List ℕ) → b ≡ a ++ digits 1 1 → c ≡ b ++ digits 1 0 → Writes c d (λ bytes p. var_len_at bytes p false) symbol → Writes a d distribution_at (one_symbol symbol)
unfolding distribution_at few_at
only_writes symbol a b c d e f w = becomes (after (number_writes 1 1 a b (omega arith) e) (after (number_writes 1 0 b c (omega arith) f) w)) (λ bytes p q s. rw (s.1, s.2.1, s.2.2) refl)
