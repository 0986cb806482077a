-- Each prefix code that is read has one symbol, or leaves no room; so does the code of its lengths.
use Rattle.std.specs.Prelude.{◌≡◌, ◌≢◌, ℕ, zero, suc, ◌+◌, ◌-◌, ◌*◌, ◌^◌, ◌<◌, ◌≤◌, ◌⊎◌, List, [], ◌∷◌, ◌++◌, length, replicate, take, All, Bool, true, false, not, cond, nat_lt, nat_le, ◌==◌, ◌||◌, ◌&&◌, Result, Ok, Err, IfOk, slice_index, slice_set, slice_range}
use Rattle.std.proofs.Common.{refl, sym, ◌∙◌, inl, inr, arith, rules}
use Rattle.std.specs.List.{sum_by, list_any, list_all}
use Rattle.std.proofs.lemmas.Bool.{cases_lt, cases_eq, or_cases, and_parts, not-true, eqb-true, eqb-false, ltb-true, ltb-false}
use Rattle.std.proofs.lemmas.Bool.Decides.{nat_tests}
use Rattle.std.proofs.lemmas.List.{length-append, length-replicate, length-set, get_or-replicate, get_or-set_other, get_or_append_left, get_or-append-add, take_all}
use Rattle.std.proofs.lemmas.List.Elements.{All-cons, All-set, All-get_or}
use Rattle.std.proofs.lemmas.List.Sums.{sum_by-set, sum_by-cons, sum_by_more, sum-map}
use Rattle.std.proofs.lemmas.List.Folds.{list_any_at, sum_by-replicate}
use Rattle.jxlm_bits.proofs.BitsLemmas.{bits_at-bound}
use Rattle.jxlm_bits.specs.Decoding.{Found}
use Rattle.jxlm_bits.specs.declared.decoder.DecoderError.{DecoderError}
use Rattle.jxl_coding_codes.specs.Refusals.{refusal_error}
use Rattle.jxl_coding_codes.specs.declared.refusal.Refusal.TheVariants.{NoCodeword}
use Rattle.jxl_coding_codes.specs.Fields.{number_at, width_of}
use Rattle.jxl_coding_codes.specs.Reading.{steps}
use Rattle.jxl_coding_codes.specs.PrefixCodes.{Prefix, of_length, prefix_of, single_code, next_symbol_at, share, length_code_length_at, length_code_lengths_at, length_code_order, code_length_code_at, long_code_at, symbols_step, set_first, lengths_of_few, few_code, deep_at, few_code_at, prefix_at}
use Rattle.jxl_coding_codes.specs.Codewords.{IsFull, LeavesNoRoom}
use Rattle.jxl_coding_codes.proofs.Holding.{after, either, Any, anything, of_ok, steps_keep}
use Rattle.jxl_coding_codes.proofs.CodewordOrder.{of_none}
use Rattle.jxl_coding_codes.proofs.CodewordReads.{up_to, many, of_more}
use Rattle.jxl_coding_codes.proofs.FullCodes.{IsFullCode, long_full, never}

abbrev shares : ℕ → ℕ
shares l = share (2 ^ 15) l

single_reads : (symbol : ℕ) (input : List ℕ) (q : ℕ) → next_symbol_at (single_code symbol) input q ≢ Err (refusal_error NoCodeword)
single_reads symbol input q h = cc

-- Simple codes.

module _ (alphabet : ℕ) where
  -- symbols that were signalled: each is of the alphabet, and no two are the same
  record Told (symbols : List ℕ) : Type 0 where
    pub within : (i : ℕ) → i < length symbols → slice_index symbols i < alphabet
    pub apart : (i j : ℕ) → i < j → j < length symbols → slice_index symbols i ≢ slice_index symbols j

  at_last : (symbols : List ℕ) (s : ℕ) → slice_index (symbols ++ s ∷ []) (length symbols) ≡ s
  at_last symbols s = let z : length symbols + 0 ≡ length symbols = omega arith in rw z at (get_or-append-add symbols (s ∷ []) 0 0)

  none_same : (symbols : List ℕ) (s : ℕ) → list_any (λ t. t == s) symbols ≡ false → (i : ℕ) → i < length symbols → slice_index symbols i ≢ s
  none_same symbols s none i lt e =
      let t : (slice_index symbols i == s) ≡ true = grind (arith, nat_tests) in
      let some : list_any (λ t. t == s) symbols ≡ true = list_any_at (λ t. t == s) symbols i 0 lt t in
      absurd cc

  told_more : (symbols : List ℕ) (s : ℕ) → s < alphabet → list_any (λ t. t == s) symbols ≡ false → Told symbols → Told (symbols ++ s ∷ [])
  told_more symbols s lt none told =
      let long = length-append symbols (s ∷ []) in record {
        within = λ i below. elim (cases_lt i (length symbols)) [
          | inl less ↦ rw (get_or_append_left symbols (s ∷ []) 0 i less) (told.within i less)
          | inr more ↦ let e : i ≡ length symbols = omega (arith, below, more, long) in rw (e, at_last symbols s) lt
        ];
        apart = λ i j less below. elim (cases_lt j (length symbols)) [
          | inl inside ↦ rw (get_or_append_left symbols (s ∷ []) 0 j inside, get_or_append_left symbols (s ∷ []) 0 i (omega (arith, less, inside))) (told.apart i j less inside)
          | inr more ↦
              let e : j ≡ length symbols = omega (arith, below, more, long) in
              let inside : i < length symbols = omega (arith, less, e) in
              rw (e, at_last symbols s, get_or_append_left symbols (s ∷ []) 0 i inside) (none_same symbols s none i inside)
        ];
      }

  abbrev Kept : ℕ → ℕ → List ℕ → Type 0
  Kept n k symbols = Told symbols × (length symbols + k ≡ n)

  symbol_keeps : (n k : ℕ) (symbols bytes : List ℕ) (p : ℕ) → Kept n (suc k) symbols → IfOk (symbols_step alphabet symbols bytes p) (λ f. Kept n k f.value)
  unfolding symbols_step
  symbol_keeps n k symbols bytes p kept =
      after (number_at bytes p (width_of (alphabet - 1))) _ Any (λ f. Kept n k f.value) (anything (number_at bytes p (width_of (alphabet - 1))))
      (λ symbol h. either (nat_le alphabet symbol.value) _ _ (λ f. Kept n k f.value) (λ e. tt)
      (λ e. either (list_any (λ s. s == symbol.value) symbols) _ _ (λ f. Kept n k f.value) (λ t. tt)
      (λ t.
      let lt : symbol.value < alphabet = grind (arith, nat_tests) in
      let long = length-append symbols (symbol.value ∷ []) in
      (told_more symbols symbol.value lt t kept.0, omega (arith, long, kept.1)))))

  none_told : Told []
  none_told = record { within = λ i lt. absurd (omega (arith, lt)); apart = λ i j less lt. absurd (omega (arith, lt)) }

  module _ (symbols each : List ℕ) (told : Told symbols) where
    abbrev set_up_to : ℕ → List ℕ
    set_up_to n = set_first n (replicate alphabet 0) symbols each

    set_none : set_up_to 0 ≡ replicate alphabet 0
    unfolding set_first
    set_none = refl

    set_more : (n : ℕ) → set_up_to (suc n) ≡ slice_set (set_up_to n) (slice_index symbols n) (slice_index each n)
    unfolding set_first
    set_more n = refl

    long : (n : ℕ) → length (set_up_to n) ≡ alphabet
    long zero = rw set_none (length-replicate alphabet 0)
    long (suc n) = rw (set_more n, length-set (set_up_to n) (slice_index symbols n) (slice_index each n)) (long n)

    untouched : (n s : ℕ) → s < alphabet → ((i : ℕ) → i < n → slice_index symbols i ≢ s) → slice_index (set_up_to n) s ≡ 0
    untouched zero s lt other = rw set_none (get_or-replicate alphabet s 0 0 lt)
    untouched (suc n) s lt other =
        let here = other n (omega arith) in
        rw (set_more n, get_or-set_other (set_up_to n) (slice_index symbols n) s (slice_index each n) 0 (λ e. here (sym e))) (untouched n s lt (λ i less. other i (omega (arith, less))))

    -- what the first n take
    taken : ℕ → ℕ
    taken zero = 0
    taken (suc n) = taken n + shares (slice_index each n)

    takes : (n : ℕ) → n ≤ length symbols → sum_by shares (set_up_to n) ≡ taken n
    unfolding taken
    takes zero le = let z = sum_by-replicate shares alphabet 0 in rw set_none (omega (arith, z))
    takes (suc n) le =
        let s : ℕ = slice_index symbols n in
        let within : s < alphabet = told.within n (omega (arith, le)) in
        let room : s < length (set_up_to n) = rw (long n) within in
        let before : sum_by shares (set_up_to n) ≡ taken n = takes n (omega (arith, le)) in
        let zero_there : slice_index (set_up_to n) s ≡ 0 = untouched n s within (λ i less. told.apart i n less (omega (arith, le))) in
        let nothing : shares (slice_index (set_up_to n) s) ≡ 0 = rw zero_there refl in
        let more = sum_by-set shares (set_up_to n) s (slice_index each n) 0 room in
        rw (set_more n) (omega (arith, more, before, nothing))

  -- two to four symbols
  all_taken : (n : ℕ) (deep : Bool) (symbols : List ℕ) (told : Told symbols) → length symbols ≡ n → 2 ≤ n → n ≤ 4 → IsFull (set_first n (replicate alphabet 0) symbols (lengths_of_few n deep))
  unfolding taken
  all_taken zero deep symbols told e low high = absurd (omega (arith, low))
  all_taken (suc zero) deep symbols told e low high = absurd (omega (arith, low))
  all_taken (suc (suc zero)) deep symbols told e low high = sum-map shares (set_first 2 (replicate alphabet 0) symbols (lengths_of_few 2 deep)) ∙ takes symbols (lengths_of_few 2 deep) told 2 (omega (arith, e)) ∙ refl
  all_taken (suc (suc (suc zero))) deep symbols told e low high = sum-map shares (set_first 3 (replicate alphabet 0) symbols (lengths_of_few 3 deep)) ∙ takes symbols (lengths_of_few 3 deep) told 3 (omega (arith, e)) ∙ refl
  all_taken (suc (suc (suc (suc zero)))) true symbols told e low high = sum-map shares (set_first 4 (replicate alphabet 0) symbols (lengths_of_few 4 true)) ∙ takes symbols (lengths_of_few 4 true) told 4 (omega (arith, e)) ∙ refl
  all_taken (suc (suc (suc (suc zero)))) false symbols told e low high = sum-map shares (set_first 4 (replicate alphabet 0) symbols (lengths_of_few 4 false)) ∙ takes symbols (lengths_of_few 4 false) told 4 (omega (arith, e)) ∙ refl
  all_taken (suc (suc (suc (suc (suc n))))) deep symbols told e low high = absurd (omega (arith, high))

  -- one symbol, or codewords that leave no room
  abbrev Accepted : Prefix → Type 0
  Accepted code = ((symbol : ℕ) × (code ≡ single_code symbol)) ⊎ IsFullCode alphabet code

  few_accepted : (symbols : List ℕ) (deep : Bool) → Told symbols → 1 ≤ length symbols → length symbols ≤ 4 → Accepted (few_code alphabet symbols deep)
  few_accepted symbols deep told some most =
      elim (cases_eq (length symbols) 1) [
        | inl e ↦ let t : (length symbols == 1) ≡ true = grind (arith, nat_tests) in rw t (inl (slice_index symbols 0, refl))
        | inr other ↦
            let t : (length symbols == 1) ≡ false = grind (arith, nat_tests) in
            rw t (inr (record {
              lengths = set_first (length symbols) (replicate alphabet 0) symbols (lengths_of_few (length symbols) deep);
              of = refl;
              full = all_taken (length symbols) deep symbols told refl (omega (arith, some, other)) most;
              few = let l : length (set_first (length symbols) (replicate alphabet 0) symbols (lengths_of_few (length symbols) deep)) ≡ alphabet = long symbols (lengths_of_few (length symbols) deep) told (length symbols) in omega (arith, l);
            }))
      ]

  two_bits : (bytes : List ℕ) (p : ℕ) → IfOk (number_at bytes p 2) (λ f. f.value < 4)
  unfolding number_at
  two_bits bytes p = either (nat_lt (8 * length bytes) (p + 2)) _ _ (λ (f : Found ℕ). f.value < 4) (λ e. tt) (λ e. let b = bits_at-bound bytes p 2 in omega (arith, b))

  few_read : (bytes : List ℕ) (p : ℕ) → IfOk (few_code_at alphabet bytes p) (λ f. Accepted f.value)
  unfolding few_code_at
  few_read bytes p =
      after (number_at bytes p 2) _ (λ f. f.value < 4) (λ f. Accepted f.value) (two_bits bytes p)
      (λ more lt. after (steps (symbols_step alphabet) (more.value + 1) [] bytes more.position) _ (λ f. Kept (more.value + 1) 0 f.value) (λ f. Accepted f.value)
      (steps_keep (symbols_step alphabet) (Kept (more.value + 1)) (λ k x all q kept. symbol_keeps (more.value + 1) k x all q kept) (more.value + 1) [] bytes more.position (none_told, omega arith))
      (λ symbols kept. after (deep_at (more.value + 1) bytes symbols.position) _ Any (λ f. Accepted f.value) (anything (deep_at (more.value + 1) bytes symbols.position))
      (λ deep h. few_accepted symbols.value (deep.value == 1) kept.0 (omega (arith, kept.1)) (omega (arith, kept.1, lt)))))

  pub accepted : (bytes : List ℕ) (p : ℕ) → IfOk (prefix_at alphabet bytes p) (λ f. Accepted f.value)
  unfolding prefix_at
  accepted bytes p =
      either (alphabet == 1) _ _ (λ f. Accepted f.value) (λ e. inl (0, refl))
      (λ e. after (number_at bytes p 2) _ Any (λ f. Accepted f.value) (anything (number_at bytes p 2))
      (λ form h. either (form.value == 1) _ _ (λ f. Accepted f.value) (λ k. few_read bytes form.position)
      (λ k. after_long (long_code_at form.value alphabet bytes form.position) (long_full form.value alphabet bytes form.position))))
    where
      after_long : (r : Result (Found Prefix) DecoderError) → IfOk r (λ f. IsFullCode alphabet f.value) → IfOk r (λ f. Accepted f.value)
      after_long (Ok f) h = inr h
      after_long (Err e) h = tt

  never_refused : (code : Prefix) → alphabet ≤ 2 ^ 15 → Accepted code → (input : List ℕ) (q : ℕ) → next_symbol_at code input q ≢ Err (refusal_error NoCodeword)
  never_refused code le (inl s) input q = rw s.1 (single_reads s.0 input q)
  never_refused code le (inr k) input q = rw k.of (never k.lengths input q (omega (arith, le, k.few)) k.full)

  no_room : (code : Prefix) → Accepted code → LeavesNoRoom code
  no_room code (inl s) = inl s
  no_room code (inr k) = inr (k.lengths, (k.of, k.full))

pub all_leave_no_room : (alphabet : ℕ) (bytes : List ℕ) (p : ℕ) (found : Found Prefix) → prefix_at alphabet bytes p ≡ Ok found → LeavesNoRoom found.value
all_leave_no_room alphabet bytes p found h =
    no_room alphabet found.value (of_ok (prefix_at alphabet bytes p) (λ f. Accepted alphabet f.value) found (accepted alphabet bytes p) h)

pub long_leave_no_room : (skipped alphabet : ℕ) (bytes : List ℕ) (p : ℕ) (found : Found Prefix) → long_code_at skipped alphabet bytes p ≡ Ok found → (lengths : List ℕ) × ((found.value ≡ prefix_of lengths) × IsFull lengths)
long_leave_no_room skipped alphabet bytes p found h =
    let k : IsFullCode alphabet found.value = of_ok (long_code_at skipped alphabet bytes p) (λ f. IsFullCode alphabet f.value) found (long_full skipped alphabet bytes p) h in
    (k.lengths, (k.of, k.full))

pub none_refused : (alphabet : ℕ) (bytes : List ℕ) (p : ℕ) (found : Found Prefix) → alphabet ≤ 2 ^ 15 → prefix_at alphabet bytes p ≡ Ok found → (input : List ℕ) (q : ℕ) → next_symbol_at found.value input q ≢ Err (refusal_error NoCodeword)
none_refused alphabet bytes p found le h =
    never_refused alphabet found.value le (of_ok (prefix_at alphabet bytes p) (λ f. Accepted alphabet f.value) found (accepted alphabet bytes p) h)

-- The code of the lengths.

abbrev share_of_32 : ℕ → ℕ
share_of_32 l = share 32 l

abbrev one_if_some : ℕ → ℕ
one_if_some l = cond (l == 0) 0 1

-- places that were not set yet, each once
Fresh : List ℕ → List ℕ → Type 0
Fresh lengths [] = Unit {0}
Fresh lengths (place ∷ places) = ((place < length lengths) × (slice_index lengths place ≡ 0)) × ((All (λ q. q ≢ place) places) × Fresh lengths places)

first : (P : ℕ → Type 0) (x : ℕ) (xs : List ℕ) → All P (x ∷ xs) → P x
first P x xs h = h 0 0 (omega arith)

later : (P : ℕ → Type 0) (x : ℕ) (xs : List ℕ) → All P (x ∷ xs) → All P xs
later P x xs h = λ k d lt. h (suc k) d (omega (arith, lt))

stays_fresh : (lengths places : List ℕ) (place l : ℕ) → All (λ q. q ≢ place) places → Fresh lengths places → Fresh (slice_set lengths place l) places
unfolding Fresh
stays_fresh lengths [] place l other fresh = tt
stays_fresh lengths (q ∷ places) place l other fresh =
    ((rw (length-set lengths place l) fresh.0.0, get_or-set_other lengths place q l 0 (first (λ r. r ≢ place) q places other) ∙ fresh.0.1), (fresh.1.0, stays_fresh lengths places place l (later (λ r. r ≢ place) q places other) fresh.1.1))

-- lengths that were set: what they take of 32, and how many are not 0
record Own (lengths : List ℕ) (space used : ℕ) : Type 0 where
  pub shares_are : space + sum_by share_of_32 lengths ≡ 32
  pub used_are : used ≡ sum_by one_if_some lengths
  pub short : All (λ l. l ≤ 5) lengths
  pub long : length lengths ≡ 18

-- 32 shares are taken, or one length alone is not 0
record Done (lengths : List ℕ) : Type 0 where
  pub short : All (λ l. l ≤ 5) lengths
  pub long : length lengths ≡ 18
  pub room : (sum_by share_of_32 lengths ≡ 32) ⊎ (sum_by one_if_some lengths ≡ 1)

small_length : (bytes : List ℕ) (p : ℕ) → IfOk (length_code_length_at bytes p) (λ f. f.value ≤ 5)
unfolding length_code_length_at
small_length bytes p =
    after (number_at bytes p 2) _ Any (λ (f : Found ℕ). f.value ≤ 5) (anything (number_at bytes p 2))
    (λ two h. either (two.value == 0) _ _ (λ (f : Found ℕ). f.value ≤ 5) (λ e. omega arith)
    (λ e. either (two.value == 1) _ _ (λ (f : Found ℕ). f.value ≤ 5) (λ k. omega arith)
    (λ k. either (two.value == 2) _ _ (λ (f : Found ℕ). f.value ≤ 5) (λ m. omega arith)
    (λ m. after (number_at bytes two.position 1) _ Any (λ (f : Found ℕ). f.value ≤ 5) (anything (number_at bytes two.position 1))
    (λ third i. either (third.value == 0) _ _ (λ (f : Found ℕ). f.value ≤ 5) (λ n. omega arith)
    (λ n. after (number_at bytes third.position 1) _ Any (λ (f : Found ℕ). f.value ≤ 5) (anything (number_at bytes third.position 1))
    (λ fourth j. either (fourth.value == 0) _ _ (λ (f : Found ℕ). f.value ≤ 5) (λ o. omega arith) (λ o. omega arith))))))))

own_set : (lengths : List ℕ) (space used place l : ℕ) → place < length lengths → slice_index lengths place ≡ 0 → l ≤ 5 → share 32 l ≤ space → Own lengths space used →
    Own (slice_set lengths place l) (space - share 32 l) (used + one_if_some l)
own_set lengths space used place l lt zero_there small room own =
    let a = sum_by-set share_of_32 lengths place l 0 lt in
    let b = sum_by-set one_if_some lengths place l 0 lt in
    let c : share_of_32 (slice_index lengths place) ≡ 0 = rw zero_there refl in
    let d : one_if_some (slice_index lengths place) ≡ 0 = rw zero_there refl in
    record {
      shares_are = let s = own.shares_are in omega (arith, a, c, s, room);
      used_are = let s = own.used_are in omega (arith, b, d, s);
      short = All-set (λ m. m ≤ 5) lengths place l small own.short;
      long = length-set lengths place l ∙ own.long;
    }

taken_all : (lengths : List ℕ) (space used : ℕ) → Own lengths space used → space ≡ 0 → Done lengths
taken_all lengths space used own e = record { short = own.short; long = own.long; room = inl (let s = own.shares_are in omega (arith, s, e)) }

ended : (lengths : List ℕ) (space used : ℕ) → Own lengths space used → (space == 0 || used == 1) ≡ true → Done lengths
ended lengths space used own e =
    elim (or_cases (space == 0) (used == 1) e) [
      | inl t ↦ taken_all lengths space used own (eqb-true space 0 t)
      | inr t ↦ record { short = own.short; long = own.long; room = inr (sym own.used_are ∙ eqb-true used 1 t) }
    ]

own_done : (places lengths : List ℕ) (space used : ℕ) (bytes : List ℕ) (p : ℕ) → Fresh lengths places → Own lengths space used → IfOk (length_code_lengths_at places lengths space used bytes p) (λ f. Done f.value)
unfolding length_code_lengths_at Fresh
own_done [] lengths space used bytes p fresh own =
    either (space == 0 || used == 1) _ _ (λ (f : Found (List ℕ)). Done f.value) (λ e. ended lengths space used own e) (λ e. tt)
own_done (place ∷ places) lengths space used bytes p fresh own =
    either (space == 0) _ _ (λ (f : Found (List ℕ)). Done f.value) (λ e. taken_all lengths space used own (eqb-true space 0 e))
    (λ e. after (length_code_length_at bytes p) _ (λ f. f.value ≤ 5) (λ (f : Found (List ℕ)). Done f.value) (small_length bytes p)
    (λ l small. either (nat_lt space (share 32 l.value)) _ _ (λ (f : Found (List ℕ)). Done f.value) (λ k. tt)
    (λ k. own_done places (slice_set lengths place l.value) (space - share 32 l.value) (used + one_if_some l.value) bytes l.position
    (stays_fresh lengths places place l.value fresh.1.0 fresh.1.1)
    (own_set lengths space used place l.value fresh.0.0 fresh.0.1 small (ltb-false space (share 32 l.value) k) own))))

-- the order in which they are signalled names each place once
fresh_test : List ℕ → List ℕ → Bool
fresh_test lengths [] = true
fresh_test lengths (place ∷ places) = (nat_lt place (length lengths) && (slice_index lengths place == 0)) && (list_all (λ q. not (q == place)) places && fresh_test lengths places)

others : (place : ℕ) (places : List ℕ) → list_all (λ q. not (q == place)) places ≡ true → All (λ q. q ≢ place) places
others place [] t = λ k d lt. absurd (omega (arith, lt))
others place (q ∷ places) t =
    let both = and_parts (not (q == place)) (list_all (λ r. not (r == place)) places) t in
    All-cons (λ r. r ≢ place) q places (λ e. eqb-false q place (not-true (q == place) both.0) e) (others place places both.1)

fresh_by_test : (lengths places : List ℕ) → fresh_test lengths places ≡ true → Fresh lengths places
unfolding fresh_test Fresh
fresh_by_test lengths [] t = tt
fresh_by_test lengths (place ∷ places) t =
    let both = and_parts (nat_lt place (length lengths) && (slice_index lengths place == 0)) (list_all (λ q. not (q == place)) places && fresh_test lengths places) t in
    let here = and_parts (nat_lt place (length lengths)) (slice_index lengths place == 0) both.0 in
    let rest = and_parts (list_all (λ q. not (q == place)) places) (fresh_test lengths places) both.1 in
    ((ltb-true place (length lengths) here.0, eqb-true (slice_index lengths place) 0 here.1), (others place places rest.0, fresh_by_test lengths places rest.1))

fresh_order : (skipped : ℕ) → skipped ≤ 3 → Fresh (replicate 18 0) (slice_range length_code_order skipped 18)
unfolding fresh_test
fresh_order zero le = fresh_by_test (replicate 18 0) (slice_range length_code_order 0 18) refl
fresh_order (suc zero) le = fresh_by_test (replicate 18 0) (slice_range length_code_order 1 18) refl
fresh_order (suc (suc zero)) le = fresh_by_test (replicate 18 0) (slice_range length_code_order 2 18) refl
fresh_order (suc (suc (suc zero))) le = fresh_by_test (replicate 18 0) (slice_range length_code_order 3 18) refl
fresh_order (suc (suc (suc (suc n)))) le = absurd (omega (arith, le))

-- 32 shares of 32 are 2^15 of 2^15
scaled : (l : ℕ) → l ≤ 5 → shares l ≡ 1024 * share_of_32 l
scaled zero le = refl
scaled (suc zero) le = refl
scaled (suc (suc zero)) le = refl
scaled (suc (suc (suc zero))) le = refl
scaled (suc (suc (suc (suc zero)))) le = refl
scaled (suc (suc (suc (suc (suc zero))))) le = refl
scaled (suc (suc (suc (suc (suc (suc l)))))) le = absurd (omega (arith, le))

all_scaled : (lengths : List ℕ) → All (λ l. l ≤ 5) lengths → sum_by shares lengths ≡ 1024 * sum_by share_of_32 lengths
all_scaled [] short = refl
all_scaled (l ∷ lengths) short =
    let a = sum_by-cons shares l lengths in
    let b = sum_by-cons share_of_32 l lengths in
    let c = scaled l (first (λ m. m ≤ 5) l lengths short) in
    let d : sum_by shares lengths ≡ 1024 * sum_by share_of_32 lengths = all_scaled lengths (later (λ m. m ≤ 5) l lengths short) in
    omega (arith, a, b, c, d)

-- the symbols of a code are as many as lengths that are not 0
module _ (lengths : List ℕ) where
  abbrev within : ℕ → ℕ → ℕ
  within k l = cond (l == 0) 0 (cond (nat_le l k) 1 0)

  within_step : (k l : ℕ) → within (suc k) l ≡ within k l + cond (l == suc k) 1 0
  within_step k l = grind (arith, nat_tests)

  ranks : ℕ → ℕ → ℕ
  ranks n zero = 0
  ranks n (suc k) = ranks n k + length (of_length (suc k) lengths n)

  ranks_all : (k : ℕ) → up_to lengths k ≡ ranks (length lengths) k
  unfolding ranks
  ranks_all zero = refl
  ranks_all (suc k) = let before : up_to lengths k ≡ ranks (length lengths) k = ranks_all k in omega (arith, before)

  ranks_none : (k : ℕ) → ranks 0 k ≡ 0
  unfolding ranks
  ranks_none zero = refl
  ranks_none (suc k) = let z = of_none lengths (suc k) in omega (arith, ranks_none k, z)

  within_none : (l : ℕ) → within 0 l ≡ 0
  within_none l = grind (arith, nat_tests)

  ranks_more : (n k : ℕ) → ranks (suc n) k ≡ ranks n k + within k (slice_index lengths n)
  unfolding ranks
  ranks_more n zero = rw (within_none (slice_index lengths n)) refl
  ranks_more n (suc k) =
      let before : ranks (suc n) k ≡ ranks n k + within k (slice_index lengths n) = ranks_more n k in
      let one = of_more lengths (suc k) n in
      let more = within_step k (slice_index lengths n) in
      omega (arith, before, one, more)

  within_all : (l : ℕ) → l ≤ 5 → within 15 l ≡ one_if_some l
  within_all l le = grind (arith, nat_tests)

  total : All (λ l. l ≤ 5) lengths → (n : ℕ) → n ≤ length lengths → ranks n 15 ≡ sum_by one_if_some (take n lengths)
  total short zero le = ranks_none 15
  total short (suc n) le =
      let e : n + 1 ≡ suc n = omega arith in
      let before : ranks n 15 ≡ sum_by one_if_some (take n lengths) = total short n (omega (arith, le)) in
      let small : slice_index lengths n ≤ 5 = All-get_or (λ l. l ≤ 5) lengths n 0 le short in
      let one = within_all (slice_index lengths n) small in
      let a = ranks_more n 15 in
      let b : sum_by one_if_some (take (n + 1) lengths) ≡ sum_by one_if_some (take n lengths) + one_if_some (slice_index lengths n) = sum_by_more one_if_some lengths n 0 le in
      rw e at (let all : ranks (suc n) 15 ≡ sum_by one_if_some (take (n + 1) lengths) = omega (arith, before, one, a, b) in all)

  symbols_are : All (λ l. l ≤ 5) lengths → length (prefix_of lengths).symbols ≡ sum_by one_if_some lengths
  symbols_are short = many lengths 15 ∙ ranks_all 15 ∙ total short (length lengths) (omega arith) ∙ rw (take_all (length lengths) lengths (omega arith)) refl

own : (skipped : ℕ) (bytes : List ℕ) (p : ℕ) (found : Found (List ℕ)) → skipped ≤ 3 → code_length_code_at skipped bytes p ≡ Ok found → Done found.value
own skipped bytes p found le h =
    of_ok (code_length_code_at skipped bytes p) (λ (f : Found (List ℕ)). Done f.value) found (own_done (slice_range length_code_order skipped 18) (replicate 18 0) 32 0 bytes p (fresh_order skipped le) start) h
  where
    start : Own (replicate 18 0) 32 0
    start = record { shares_are = refl; used_are = refl; short = search rules; long = refl }

by_room : (lengths : List ℕ) → Done lengths → IsFull lengths ⊎ (length (prefix_of lengths).symbols ≡ 1)
by_room lengths done =
    elim done.room [
      | inl e ↦ inl (sum-map shares lengths ∙ all_scaled lengths done.short ∙ omega (arith, e))
      | inr e ↦ inr (symbols_are lengths done.short ∙ e)
    ]

pub own_code : (skipped : ℕ) (bytes : List ℕ) (p : ℕ) (found : Found (List ℕ)) → skipped ≤ 3 → code_length_code_at skipped bytes p ≡ Ok found →
    IsFull found.value ⊎ (length (prefix_of found.value).symbols ≡ 1)
own_code skipped bytes p found le h = by_room found.value (own skipped bytes p found le h)

one_read : (code : Prefix) (input : List ℕ) (q : ℕ) → length code.symbols ≡ 1 → next_symbol_at code input q ≢ Err (refusal_error NoCodeword)
one_read code input q one h =
    let t : (length code.symbols == 1) ≡ true = grind (arith, nat_tests) in
    single_reads (slice_index code.symbols 0) input q (rw t at h)

pub own_never_refused : (skipped : ℕ) (bytes : List ℕ) (p : ℕ) (found : Found (List ℕ)) → skipped ≤ 3 → code_length_code_at skipped bytes p ≡ Ok found →
    (input : List ℕ) (q : ℕ) → next_symbol_at (prefix_of found.value) input q ≢ Err (refusal_error NoCodeword)
own_never_refused skipped bytes p found le h input q =
    let done : Done found.value = own skipped bytes p found le h in
    elim (by_room found.value done) [
      | inl full ↦ let l = done.long in never found.value input q (omega (arith, l)) full
      | inr one ↦ one_read (prefix_of found.value) input q one
    ]
