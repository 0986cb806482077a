-- What the tokens of a plain decoder are.
use Rattle.std.proofs.Common.{◌≡◌, ℕ, zero, suc, ◌+◌, ◌-◌, ◌*◌, ◌%◌, ◌<◌, ◌≤◌, List, [], ◌∷◌, length, replicate, Bool, true, false, cond, nat_lt, ◌==◌, Result, Ok, Err, MatchResult, refl, sym, ap, arith, ◌∙◌}
use Rattle.std.proofs.lemmas.Bool.Decides.{nat_tests}
use Rattle.jxlm_bits.specs.Bits.{bits_at}
use Rattle.jxlm_bits.specs.Decoding.{Found, Taken, Asked, reads}
use Rattle.jxlm_bits.specs.ErrorKind.{◌>>=◌}
use Rattle.jxlm_plain.specs.Plain.{PlainState, number_at, gamma_at, code_of, is_runs, owed_in, last_in, begin_mode, token_at, run_at, plain_begin, plain_read, plain}
use Rattle.jxlm_plain.specs.Inner.PlainLaws.{bind_ok, ok_same}
use Rattle.jxlm_plain.specs.PlainTokens.{FixedTokensAreNumbers, SealsAreSums, RunsRepeat, is_sealed, summand_of, fixed_sum}
use Rattle.jxlm_bits.specs.declared.decoder.DecoderError.{DecoderError}
use Rattle.jxlm_bits.specs.declared.decoder.DecoderError.TheVariants.{UnexpectedEof}
use Rattle.jxlm_plain.specs.declared.plain.Code.{Code}
use Rattle.jxlm_plain.specs.declared.plain.Code.TheVariants.{Constant, Fixed, Gamma}
use Rattle.jxlm_plain.specs.declared.plain.Mode.{Mode}
use Rattle.jxlm_plain.specs.declared.plain.Mode.TheVariants.{Unsealed, Sealed, Runs}
use Rattle.jxlm_bits.proofs.BitsLemmas.{bits_at-bound}
use Rattle.jxlm_plain.proofs.PlainGives.{state}

-- what is meant by a number at a bit position
abbrev pub There : List ℕ → ℕ → ℕ → ℕ → ℕ → Type 0
There bytes p b value q = (p + b ≤ 8 * length bytes) × (value ≡ bits_at bytes p b) × (q ≡ p + b)

abbrev pub NotThere : List ℕ → ℕ → ℕ → DecoderError → Type 0
NotThere bytes p b e = (8 * length bytes < p + b) × (e ≡ UnexpectedEof)

abbrev found : ℕ → ℕ → Found ℕ
found value q = record { value = value; position = q }

number_when : (bytes : List ℕ) (p b : ℕ) (cut : Bool) → cut ≡ nat_lt (8 * length bytes) (p + b) →
    MatchResult (cond cut (Err UnexpectedEof) (Ok (found (bits_at bytes p b) (p + b)))) (λ x. There bytes p b x.value x.position) (NotThere bytes p b)
number_when bytes p b true h = (grind (arith, nat_tests), refl)
number_when bytes p b false h = (grind (arith, nat_tests), refl, refl)

number_is : (bytes : List ℕ) (p b : ℕ) → MatchResult (number_at bytes p b) (λ x. There bytes p b x.value x.position) (NotThere bytes p b)
unfolding number_at
number_is bytes p b = number_when bytes p b (nat_lt (8 * length bytes) (p + b)) refl

pub number_found : (bytes : List ℕ) (p b : ℕ) (x : Found ℕ) → number_at bytes p b ≡ Ok x → There bytes p b x.value x.position
number_found bytes p b x h = let n = number_is bytes p b in rw h at n

pub number_cut : (bytes : List ℕ) (p b : ℕ) (e : DecoderError) → number_at bytes p b ≡ Err e → NotThere bytes p b e
number_cut bytes p b e h = let n = number_is bytes p b in rw h at n

pub number_there : (bytes : List ℕ) (p b : ℕ) → p + b ≤ 8 * length bytes → number_at bytes p b ≡ Ok (record { value = bits_at bytes p b; position = p + b })
unfolding number_at
number_there bytes p b h = let e : nat_lt (8 * length bytes) (p + b) ≡ false = grind (arith, nat_tests) in rw e refl

match_then : {A B : Type 0} (P : A → Type 0) (R : B → Type 0) (Q : DecoderError → Type 0) (r : Result A DecoderError) (f : A → Result B DecoderError) →
    MatchResult r P Q → ((x : A) → P x → MatchResult (f x) R Q) → MatchResult (r >>= f) R Q
match_then P R Q (Ok x) f h k = k x h
match_then P R Q (Err e) f h k = h

fixed_token : (mode : Mode) (bytes : List ℕ) (p b : ℕ) → is_runs mode ≡ false →
    MatchResult (token_at mode (Fixed b) bytes p) (λ x. There bytes p b x.value x.position) (NotThere bytes p b)
unfolding token_at
fixed_token Unsealed bytes p b h = match_then (λ x. There bytes p b x.value x.position) (λ x. There bytes p b x.value x.position) (NotThere bytes p b) (number_at bytes p b) _ (number_is bytes p b) (λ x k. k)
fixed_token (Sealed sum) bytes p b h = match_then (λ x. There bytes p b x.value x.position) (λ x. There bytes p b x.value x.position) (NotThere bytes p b) (number_at bytes p b) _ (number_is bytes p b) (λ x k. k)
fixed_token (Runs last left) bytes p b h = cc

pub fixed_tokens_are_numbers : FixedTokensAreNumbers
unfolding plain_read
fixed_tokens_are_numbers s bytes p c m b h e =
    match_then (λ x. There bytes p b x.value x.position) (λ x. There bytes p b x.value x.position) (NotThere bytes p b) (token_at s.mode (code_of s.codes c) bytes p) _ (rw e (fixed_token s.mode bytes p b h)) (λ x k. k)

-- what was taken from a sum, and what is left of it, are the sum
taken : (v t : ℕ) → v < 256 → ((v + 256 - t % 256) % 256 + t) % 256 ≡ v
taken v t h = omega arith

token_counts : (v : ℕ) (code : Code) (bytes : List ℕ) (p : ℕ) (x : Taken ℕ Mode) → v < 256 → token_at (Sealed v) code bytes p ≡ Ok x →
    (w : ℕ) × (x.state ≡ Sealed w) × (w < 256) × ((w + summand_of code x.value) % 256 ≡ v)
unfolding token_at
token_counts v (Constant token) bytes p x lt h = rw (ok_same _ _ h) (v, refl, lt, omega arith)
token_counts v (Fixed width) bytes p x lt h =
    let b = bind_ok (number_at bytes p width) _ x h in
    rw (ok_same _ _ b.2) ((v + 256 - b.0.value % 256) % 256, refl, omega arith, taken v b.0.value lt)
token_counts v Gamma bytes p x lt h =
    let b = bind_ok (gamma_at bytes p) _ x h in
    rw (ok_same _ _ b.2) ((v + 256 - b.0.value % 256) % 256, refl, omega arith, taken v b.0.value lt)

read_counts : (s : PlainState) (v : ℕ) (codes : List Code) (clusters : List ℕ) (bytes : List ℕ) (p c m : ℕ) (x : Taken ℕ PlainState) → s ≡ state (Sealed v) codes clusters → v < 256 →
    plain_read s bytes p c m ≡ Ok x → (w : ℕ) × (x.state ≡ state (Sealed w) codes clusters) × (w < 256) × ((w + summand_of (code_of codes c) x.value) % 256 ≡ v)
unfolding plain_read
read_counts s v codes clusters bytes p c m x is lt h =
    let g : plain_read (state (Sealed v) codes clusters) bytes p c m ≡ Ok x = sym (ap (λ (t : PlainState). plain_read t bytes p c m) is) ∙ h in
    let b = bind_ok (token_at (Sealed v) (code_of codes c) bytes p) _ x g in
    let k = token_counts v (code_of codes c) bytes p b.0 lt b.1 in
    rw (ok_same _ _ b.2) (k.0, ap (λ (mode : Mode). state mode codes clusters) k.1, k.2, k.3)

all_counted : (w a b u v : ℕ) → v < 256 → (w + b) % 256 ≡ u → (u + a) % 256 ≡ v → (w + (a + b)) % 256 ≡ v
all_counted w a b u v lt h k = omega arith

reads_count : (asked : List Asked) (s : PlainState) (v : ℕ) (codes : List Code) (clusters : List ℕ) (bytes : List ℕ) (p : ℕ) (x : Taken (List ℕ) PlainState) →
    s ≡ state (Sealed v) codes clusters → v < 256 → reads plain s bytes p asked ≡ Ok x →
    (w : ℕ) × (x.state ≡ state (Sealed w) codes clusters) × (w < 256) × ((w + fixed_sum codes asked x.value) % 256 ≡ v)
reads_count [] s v codes clusters bytes p x is lt h = rw (ok_same _ _ h) (v, is, lt, omega arith)
reads_count (asked ∷ others) s v codes clusters bytes p x is lt h =
    let a = bind_ok (plain_read s bytes p asked.cluster asked.multiplier) _ x h in
    let b = bind_ok (reads plain a.0.state bytes a.0.position others) _ x a.2 in
    let first = read_counts s v codes clusters bytes p asked.cluster asked.multiplier a.0 is lt a.1 in
    let rest = reads_count others a.0.state first.0 codes clusters bytes a.0.position b.0 first.1 first.2 b.1 in
    rw (ok_same _ _ b.2)
    (rest.0, rest.1, rest.2, all_counted rest.0 (summand_of (code_of codes asked.cluster) a.0.value) (fixed_sum codes others b.0.value) first.0 v lt rest.3 first.3)

seal_left : (w n v : ℕ) → w < 256 → v < 256 → (w + n) % 256 ≡ v → (w == 0) ≡ (n % 256 == v)
seal_left w n v hw hv h = grind (arith, nat_tests)

-- a sealed decoder begins with the seal
begins_sealed : (mode : Mode) (bytes : List ℕ) (p : ℕ) (x : Found Mode) → is_sealed mode ≡ true → begin_mode mode bytes p ≡ Ok x → x.value ≡ Sealed (bits_at bytes p 8)
begins_sealed Unsealed bytes p x r h = cc
begins_sealed (Sealed sum) bytes p x r h =
    let b = bind_ok (number_at bytes p 8) _ x h in
    rw (ok_same _ _ b.2) (ap (λ (seal : ℕ). Sealed seal) (number_found bytes p 8 b.0 b.1).1)
begins_sealed (Runs last left) bytes p x r h = cc

pub seals_are_sums : SealsAreSums
unfolding plain_begin
seals_are_sums s bytes p begun asked x r h k =
    let b = bind_ok (begin_mode s.mode bytes p) _ begun h in
    let mode = begins_sealed s.mode bytes p b.0 r b.1 in
    let begins : begun.value ≡ state (Sealed (bits_at bytes p 8)) s.codes s.clusters = rw (ok_same _ _ b.2, mode) refl in
    let lt : bits_at bytes p 8 < 256 = bits_at-bound bytes p 8 in
    let end = reads_count asked begun.value (bits_at bytes p 8) s.codes s.clusters bytes begun.position x begins lt k in
    rw (end.1, seal_left end.0 (fixed_sum s.codes asked x.value) (bits_at bytes p 8) end.2 lt end.3) refl

owed_repeat : (asked : List Asked) (last n : ℕ) (codes : List Code) (clusters : List ℕ) (bytes : List ℕ) (p : ℕ) → length asked ≡ n →
    reads plain (state (Runs last n) codes clusters) bytes p asked ≡ Ok (record { value = replicate n last; state = state (Runs last 0) codes clusters; position = p })
unfolding plain_read token_at
owed_repeat [] last zero codes clusters bytes p h = refl
owed_repeat [] last (suc n) codes clusters bytes p h = absurd (omega arith)
owed_repeat (asked ∷ others) last zero codes clusters bytes p h = absurd (omega arith)
owed_repeat (asked ∷ others) last (suc n) codes clusters bytes p h = rw (owed_repeat others last n codes clusters bytes p (omega arith)) refl

run_begins : (last : ℕ) (code : Code) (bytes : List ℕ) (p : ℕ) → p + 9 ≤ 8 * length bytes → bits_at bytes p 1 ≡ 1 →
    token_at (Runs last 0) code bytes p ≡ Ok (record { value = last; state = Runs last (bits_at bytes (p + 1) 8); position = p + 9 })
unfolding token_at run_at
run_begins last code bytes p h one =
    let a = number_there bytes p 1 (omega arith) in
    let b = number_there bytes (p + 1) 8 (omega arith) in
    let q : p + 1 + 8 ≡ p + 9 = omega arith in
    let left : 1 + bits_at bytes (p + 1) 8 - 1 ≡ bits_at bytes (p + 1) 8 = omega arith in
    rw (a, one, b, q, left) refl

mode_repeats : (mode : Mode) (codes : List Code) (clusters : List ℕ) (bytes : List ℕ) (p : ℕ) (asked : List Asked) → is_runs mode ≡ true → owed_in mode ≡ 0 → p + 9 ≤ 8 * length bytes →
    bits_at bytes p 1 ≡ 1 → length asked ≡ 1 + bits_at bytes (p + 1) 8 →
    reads plain (state mode codes clusters) bytes p asked ≡ Ok (record { value = replicate (length asked) (last_in mode); state = state mode codes clusters; position = p + 9 })
unfolding plain_read
mode_repeats Unsealed codes clusters bytes p asked r o h one many = cc
mode_repeats (Sealed sum) codes clusters bytes p asked r o h one many = cc
mode_repeats (Runs last left) codes clusters bytes p [] r o h one many = absurd (omega arith)
mode_repeats (Runs last left) codes clusters bytes p (asked ∷ others) r o h one many =
    let n : length others ≡ bits_at bytes (p + 1) 8 = omega arith in
    rw (o, run_begins last (code_of codes asked.cluster) bytes p h one, owed_repeat others last (bits_at bytes (p + 1) 8) codes clusters bytes (p + 9) n, n) refl

pub runs_repeat : RunsRepeat
runs_repeat s bytes p asked r o h one many = mode_repeats s.mode s.codes s.clusters bytes p asked r o h one many
