-- What the tokens of a decoder with an error are.
use Rattle.std.proofs.Common.{◌≡◌, ℕ, zero, suc, ◌+◌, ◌<◌, ◌≤◌, ◌⊎◌, List, [], ◌∷◌, length, take, min, Bool, true, false, nat_lt, ◌==◌, ◌&&◌, Result, Ok, Err, MatchResult, refl, sym, ap, arith, ◌∙◌}
use Rattle.std.proofs.lemmas.Bool.Decides.{nat_tests}
use Rattle.jxlm_bits.specs.Decoding.{Taken, Asked, reads}
use Rattle.jxlm_bits.specs.ErrorKind.{◌>>=◌}
use Rattle.jxlm_bits.specs.declared.decoder.DecoderError.{DecoderError}
use Rattle.jxlm_bits.specs.declared.decoder.DecoderError.TheVariants.{Invalid}
use Rattle.jxlm_plain.specs.Plain.{PlainState, plain_read, plain}
use Rattle.jxlm_fault.specs.Fault.{FaultState, fault_read, fault_begin, fault_finalize, is_due, one_more, faulty}
use Rattle.jxlm_fault.specs.FaultTokens.{TokensBeforeTheError, ErrorAtItsRead, ErrorAtItsEnd}

bind_ok : {A B : Type 0} (r : Result A DecoderError) (f : A → Result B DecoderError) (y : B) → (r >>= f) ≡ Ok y → (x : A) × (r ≡ Ok x) × (f x ≡ Ok y)
bind_ok (Ok x) f y h = (x, refl, h)
bind_ok (Err e) f y h = cc

abbrev state : ℕ → ℕ → PlainState → FaultState
state place count s = record { fault = place; reads = count; plain = s }

-- the same tokens, in a state of this many reads
abbrev counting : ℕ → ℕ → Taken (List ℕ) PlainState → Taken (List ℕ) FaultState
counting fault n x = record { value = x.value; state = state fault n x.state; position = x.position }

-- this many reads may come before the error
abbrev IsBefore : ℕ → ℕ → Type 0
IsBefore fault n = (4 ≤ fault) ⊎ (n ≤ fault)

-- what carries over from the results of one step carries over when something is made of them
carried : {Y Z V W : Type 0} (r : Result Y DecoderError) (s : Result Z DecoderError) (h : Y → Z) (f : Y → V) (g : Z → W) (k : V → W) →
    MatchResult r (λ y. s ≡ Ok (h y)) (λ e. s ≡ Err e) → ((y : Y) → g (h y) ≡ k (f y)) →
    MatchResult (r >>= (λ y. Ok (f y))) (λ v. (s >>= (λ z. Ok (g z))) ≡ Ok (k v)) (λ e. (s >>= (λ z. Ok (g z))) ≡ Err e)
carried (Ok y) s h f g k is same = rw is (ap (λ w. Ok w) (same y))
carried (Err e) s h f g k is same = rw is refl

not_yet : (fault count n : ℕ) (s : PlainState) → IsBefore fault (count + suc n) → is_due (state fault count s) ≡ false
not_yet fault count n s before = grind (arith, nat_tests)

rest_before : (fault count n : ℕ) → IsBefore fault (count + suc n) → IsBefore fault (one_more count + n)
rest_before fault count n before = grind (arith, nat_tests)

count_first : (n count : ℕ) → min (one_more count + n) 4 ≡ min (count + suc n) 4
count_first n count = grind (arith, nat_tests)

-- the same after the first read
first_read : (fault count : ℕ) (s : PlainState) (bytes : List ℕ) (p : ℕ) (asked : Asked) (others : List Asked) (n : ℕ) (read : Result (Taken ℕ PlainState) DecoderError) →
    plain_read s bytes p asked.cluster asked.multiplier ≡ read → is_due (state fault count s) ≡ false →
    ((x : Taken ℕ PlainState) → MatchResult (reads plain x.state bytes x.position others)
    (λ y. reads faulty (state fault (one_more count) x.state) bytes x.position others ≡ Ok (counting fault n y))
    (λ e. reads faulty (state fault (one_more count) x.state) bytes x.position others ≡ Err e)) →
    MatchResult (reads plain s bytes p (asked ∷ others))
    (λ y. reads faulty (state fault count s) bytes p (asked ∷ others) ≡ Ok (counting fault n y))
    (λ e. reads faulty (state fault count s) bytes p (asked ∷ others) ≡ Err e)
unfolding fault_read
first_read fault count s bytes p asked others n (Ok x) h due rest =
    rw (h, due) (carried (reads plain x.state bytes x.position others) _ (counting fault n) _ _ (counting fault n) (rest x) (λ y. refl))
first_read fault count s bytes p asked others n (Err e) h due rest = rw (h, due) refl

-- from a count of reads on
tokens_from : (asked : List Asked) (fault count : ℕ) (s : PlainState) (bytes : List ℕ) (p : ℕ) → count ≤ 4 → IsBefore fault (count + length asked) →
    MatchResult (reads plain s bytes p asked) (λ x. reads faulty (state fault count s) bytes p asked ≡ Ok (counting fault (min (count + length asked) 4) x))
    (λ e. reads faulty (state fault count s) bytes p asked ≡ Err e)
tokens_from [] fault count s bytes p few before = let same : min (count + 0) 4 ≡ count = grind (arith, nat_tests) in rw same refl
tokens_from (asked ∷ others) fault count s bytes p few before =
    let few_more : one_more count ≤ 4 = grind (arith, nat_tests) in
    let same = count_first (length others) count in
    first_read fault count s bytes p asked others (min (count + suc (length others)) 4) (plain_read s bytes p asked.cluster asked.multiplier) refl
    (not_yet fault count (length others) s before)
    (λ x. let rest = tokens_from others fault (one_more count) x.state bytes x.position few_more (rest_before fault count (length others) before) in rw same at rest)

pub tokens_before_the_error : TokensBeforeTheError
tokens_before_the_error s bytes p asked none before =
    let none_more : 0 + length asked ≡ length asked = omega arith in
    let given : IsBefore s.fault (0 + length asked) = rw none_more before in
    let from = tokens_from asked s.fault 0 s.plain bytes p (omega arith) given in
    let so = rw none_more at from in
    let is : s ≡ state s.fault 0 s.plain = ap (λ (n : ℕ). state s.fault n s.plain) none in
    rw is so

-- the error at its read, from a count of reads on
error_from : (n : ℕ) (asked : List Asked) (fault count : ℕ) (s : PlainState) (bytes : List ℕ) (p : ℕ) (x : Taken (List ℕ) PlainState) → count + n ≡ fault → fault < 4 → n < length asked →
    reads plain s bytes p (take n asked) ≡ Ok x → reads faulty (state fault count s) bytes p asked ≡ Err (Invalid 77)
unfolding fault_read
error_from n [] fault count s bytes p x here below within h = absurd (omega arith)
error_from zero (asked ∷ others) fault count s bytes p x here below within h =
    let due : is_due (state fault count s) ≡ true = grind (arith, nat_tests) in
    rw due refl
error_from (suc n) (asked ∷ others) fault count s bytes p x here below within h =
    let a = bind_ok (plain_read s bytes p asked.cluster asked.multiplier) _ x h in
    let b = bind_ok (reads plain a.0.state bytes a.0.position (take n others)) _ x a.2 in
    let due : is_due (state fault count s) ≡ false = grind (arith, nat_tests) in
    let more : one_more count + n ≡ fault = grind (arith, nat_tests) in
    let rest = error_from n others fault (one_more count) a.0.state bytes a.0.position b.0 more below (omega arith) b.1 in
    rw (due, a.1, rest) refl

pub error_at_its_read : ErrorAtItsRead
error_at_its_read s bytes p asked x none below within h =
    let is : s ≡ state s.fault 0 s.plain = ap (λ (n : ℕ). state s.fault n s.plain) none in
    let at_it = error_from s.fault asked s.fault 0 s.plain bytes p x (omega arith) below within h in
    rw is at_it

pub error_at_its_end : ErrorAtItsEnd
unfolding fault_begin
error_at_its_end s bytes p = (λ is. rw is refl, λ is. rw is refl)
