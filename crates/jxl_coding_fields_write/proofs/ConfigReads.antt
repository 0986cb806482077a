-- Integer configurations that were written are read.
use Rattle.std.proofs.Common.{◌≡◌, ◌≢◌, ℕ, ◌+◌, ◌-◌, ◌^◌, ◌<◌, ◌≤◌, List, ◌++◌, Ok, Bool, true, false, cond, refl, sym, ap, ◌∙◌, arith}
use Rattle.std.specs.Prelude.{nat_lt, ◌==◌}
use Rattle.std.proofs.lemmas.Bool.{eqb-true, ltb-true, le-ltb, eq-eqb}
use Rattle.std.proofs.lemmas.Bool.Decides.{nat_tests}
use Rattle.jxlm_bit_writer.specs.Writes.{Writes}
use Rattle.jxlm_bit_writer.specs.Written.{digits}
use Rattle.jxlm_bit_writer.proofs.WriteLaws.{after, becomes}
use Rattle.jxl_coding_codes.specs.Fields.{bit_width_of}
use Rattle.jxl_coding_codes.specs.IntegerConfigs.{config_at}
use Rattle.jxl_coding_codes.specs.declared.config.IntegerConfig.{IntegerConfig}
use Rattle.jxl_coding_fields_write.proofs.NumberFields.{number_writes}

fits_by : (v w : ℕ) → v ≤ w → w ≤ 15 → (a b c d : Bool) → (w == 0) ≡ a → nat_lt w 2 ≡ b → nat_lt w 4 ≡ c → nat_lt w 8 ≡ d → v < 2 ^ cond a 0 (cond b 1 (cond c 2 (cond d 3 4)))
fits_by v w le most true b c d e f g h = let z = eqb-true w 0 e in omega (arith, z, le)
fits_by v w le most false true c d e f g h = let z = ltb-true w 2 f in omega (arith, z, le)
fits_by v w le most false false true d e f g h = let z = ltb-true w 4 g in omega (arith, z, le)
fits_by v w le most false false false true e f g h = let z = ltb-true w 8 h in omega (arith, z, le)
fits_by v w le most false false false false e f g h = omega (arith, le, most)

pub fits_width : (v w : ℕ) → v ≤ w → w ≤ 15 → v < 2 ^ bit_width_of w
fits_width v w le most = fits_by v w le most (w == 0) (nat_lt w 2) (nat_lt w 4) (nat_lt w 8) refl refl refl refl

abbrev config_by : ℕ → ℕ → ℕ → IntegerConfig
config_by split high low = record { split_exponent = split; msb_in_token = high; lsb_in_token = low }

pub whole_writes : (h : IntegerConfig) (log : ℕ) (a b : List ℕ) → log ≤ 15 → h.split_exponent ≡ log → h.msb_in_token + h.lsb_in_token ≡ 0 → b ≡ a ++ digits (bit_width_of log) h.split_exponent →
    Writes a b (λ bytes p. config_at bytes log p) h
unfolding config_at
whole_writes h log a b most e none f =
    let m : h.msb_in_token ≡ 0 = omega (arith, none) in
    let l : h.lsb_in_token ≡ 0 = omega (arith, none) in
    let t : (h.split_exponent == log) ≡ true = eq-eqb h.split_exponent log e in
    let same : config_by h.split_exponent 0 0 ≡ h = ap (λ (x : ℕ). config_by h.split_exponent x 0) (sym m) ∙ ap (λ (x : ℕ). config_by h.split_exponent h.msb_in_token x) (sym l) in
    becomes (number_writes (bit_width_of log) h.split_exponent a b (fits_width h.split_exponent log (omega (arith, e)) most) f)
    (λ bytes p q s. rw (s, t) (ap (λ (x : IntegerConfig). Ok (record { value = x; position = q })) same))

pub part_writes : (h : IntegerConfig) (log : ℕ) (a b c d : List ℕ) → log ≤ 15 → h.split_exponent ≤ log → h.split_exponent ≢ log → h.msb_in_token + h.lsb_in_token ≤ h.split_exponent →
    b ≡ a ++ digits (bit_width_of log) h.split_exponent → c ≡ b ++ digits (bit_width_of h.split_exponent) h.msb_in_token → d ≡ c ++ digits (bit_width_of (h.split_exponent - h.msb_in_token)) h.lsb_in_token →
    Writes a d (λ bytes p. config_at bytes log p) h
unfolding config_at
part_writes h log a b c d most le other tells e f g =
    let t : (h.split_exponent == log) ≡ false = grind (arith, nat_tests) in
    let u : nat_lt h.split_exponent h.msb_in_token ≡ false = le-ltb h.split_exponent h.msb_in_token (omega (arith, tells)) in
    let v : nat_lt h.split_exponent (h.msb_in_token + h.lsb_in_token) ≡ false = le-ltb h.split_exponent (h.msb_in_token + h.lsb_in_token) tells in
    becomes
    (after (number_writes (bit_width_of log) h.split_exponent a b (fits_width h.split_exponent log le most) e)
    (after (number_writes (bit_width_of h.split_exponent) h.msb_in_token b c (fits_width h.msb_in_token h.split_exponent (omega (arith, tells)) (omega (arith, le, most))) f)
    (number_writes (bit_width_of (h.split_exponent - h.msb_in_token)) h.lsb_in_token c d (fits_width h.lsb_in_token (h.split_exponent - h.msb_in_token) (omega (arith, tells)) (omega (arith, le, most))) g)))
    (λ bytes p q s. rw (s.1, t, s.2.1, u, s.2.2, v) refl)
