-- The code of widths of counts.
use Rattle.std.proofs.Common.{[], refl, arith}
use Rattle.jxlm_bit_writer.specs.Writes.{Writes}
use Rattle.jxlm_bit_writer.specs.Written.{digits}
use Rattle.jxlm_bit_writer.proofs.WriteLaws.{after, becomes}
use Rattle.jxl_coding_codes.specs.Distributions.{signalled_at}
use Rattle.jxl_coding_fields_write.proofs.NumberFields.{number_writes}

pub width_0 : Writes [] (digits 5 17) signalled_at 0
unfolding signalled_at
width_0 =
    becomes (after (number_writes 3 1 [] (digits 3 1) (omega arith) refl)
    (after (number_writes 1 0 (digits 3 1) (digits 4 1) (omega arith) refl)
    (number_writes 1 1 (digits 4 1) (digits 5 17) (omega arith) refl))) (λ bytes p q s. rw (s.1, s.2.1, s.2.2) refl)

pub width_1 : Writes [] (digits 4 11) signalled_at 1
unfolding signalled_at
width_1 =
    becomes (after (number_writes 3 3 [] (digits 3 3) (omega arith) refl)
    (number_writes 1 1 (digits 3 3) (digits 4 11) (omega arith) refl)) (λ bytes p q s. rw (s.1, s.2) refl)

pub width_2 : Writes [] (digits 4 15) signalled_at 2
unfolding signalled_at
width_2 =
    becomes (after (number_writes 3 7 [] (digits 3 7) (omega arith) refl)
    (number_writes 1 1 (digits 3 7) (digits 4 15) (omega arith) refl)) (λ bytes p q s. rw (s.1, s.2) refl)

pub width_3 : Writes [] (digits 4 3) signalled_at 3
unfolding signalled_at
width_3 =
    becomes (after (number_writes 3 3 [] (digits 3 3) (omega arith) refl)
    (number_writes 1 0 (digits 3 3) (digits 4 3) (omega arith) refl)) (λ bytes p q s. rw (s.1, s.2) refl)

pub width_4 : Writes [] (digits 4 9) signalled_at 4
unfolding signalled_at
width_4 =
    becomes (after (number_writes 3 1 [] (digits 3 1) (omega arith) refl)
    (number_writes 1 1 (digits 3 1) (digits 4 9) (omega arith) refl)) (λ bytes p q s. rw (s.1, s.2) refl)

pub width_5 : Writes [] (digits 4 7) signalled_at 5
unfolding signalled_at
width_5 =
    becomes (after (number_writes 3 7 [] (digits 3 7) (omega arith) refl)
    (number_writes 1 0 (digits 3 7) (digits 4 7) (omega arith) refl)) (λ bytes p q s. rw (s.1, s.2) refl)

pub width_6 : Writes [] (digits 3 4) signalled_at 6
unfolding signalled_at
width_6 = becomes (number_writes 3 4 [] (digits 3 4) (omega arith) refl) (λ bytes p q s. rw s refl)

pub width_7 : Writes [] (digits 3 2) signalled_at 7
unfolding signalled_at
width_7 = becomes (number_writes 3 2 [] (digits 3 2) (omega arith) refl) (λ bytes p q s. rw s refl)

pub width_8 : Writes [] (digits 3 5) signalled_at 8
unfolding signalled_at
width_8 = becomes (number_writes 3 5 [] (digits 3 5) (omega arith) refl) (λ bytes p q s. rw s refl)

pub width_9 : Writes [] (digits 3 6) signalled_at 9
unfolding signalled_at
width_9 = becomes (number_writes 3 6 [] (digits 3 6) (omega arith) refl) (λ bytes p q s. rw s refl)

pub width_10 : Writes [] (digits 3 0) signalled_at 10
unfolding signalled_at
width_10 = becomes (number_writes 3 0 [] (digits 3 0) (omega arith) refl) (λ bytes p q s. rw s refl)

pub width_11 : Writes [] (digits 6 33) signalled_at 11
unfolding signalled_at
width_11 =
    becomes (after (number_writes 3 1 [] (digits 3 1) (omega arith) refl)
    (after (number_writes 1 0 (digits 3 1) (digits 4 1) (omega arith) refl)
    (after (number_writes 1 0 (digits 4 1) (digits 5 1) (omega arith) refl)
    (number_writes 1 1 (digits 5 1) (digits 6 33) (omega arith) refl)))) (λ bytes p q s. rw (s.1, s.2.1, s.2.2.1, s.2.2.2) refl)

pub width_12 : Writes [] (digits 7 1) signalled_at 12
unfolding signalled_at
width_12 =
    becomes (after (number_writes 3 1 [] (digits 3 1) (omega arith) refl)
    (after (number_writes 1 0 (digits 3 1) (digits 4 1) (omega arith) refl)
    (after (number_writes 1 0 (digits 4 1) (digits 5 1) (omega arith) refl)
    (after (number_writes 1 0 (digits 5 1) (digits 6 1) (omega arith) refl)
    (number_writes 1 0 (digits 6 1) (digits 7 1) (omega arith) refl))))) (λ bytes p q s. rw (s.1, s.2.1, s.2.2.1, s.2.2.2.1, s.2.2.2.2) refl)
