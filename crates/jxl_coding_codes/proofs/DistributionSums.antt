-- The counts of a distribution sum up to 4096.
use Rattle.std.specs.Prelude.{◌≡◌, ◌≢◌, ℕ, zero, suc, ◌+◌, ◌-◌, ◌*◌, ◌/◌, ◌%◌, ◌^◌, ◌<◌, ◌≤◌, List, [], ◌∷◌, ◌++◌, length, replicate, sum, min, max, Bool, true, false, cond, nat_lt, nat_le, ◌==◌, Result, Ok, Err, IfOk, slice_set, slice_index}
use Rattle.std.specs.List.{All}
use Rattle.std.proofs.Common.{refl, sym, ap, subst, ◌∙◌, inl, inr, arith}
use Rattle.std.proofs.lemmas.Bool.{and_parts, cases_order}
use Rattle.std.proofs.lemmas.Bool.Decides.{nat_tests}
use Rattle.std.proofs.lemmas.List.{length-set, length-replicate, length-append, get_or-replicate, get_or-set_other, get_or_push, get_or_append_left, get_or_past, length_push}
use Rattle.std.proofs.lemmas.Result.{IfOk-weaker}
use Rattle.std.proofs.lemmas.List.Sums.{sum_by-set, sum_by_push, get_or-le-sum_by}
use Rattle.std.proofs.lemmas.List.Folds.{sum_by-replicate}
use Rattle.jxlm_bits.specs.Decoding.{Found, Gives}
use Rattle.jxlm_bits.specs.declared.decoder.DecoderError.{DecoderError}
use Rattle.jxlm_bits.proofs.BitsLemmas.{bits_at-bound}
use Rattle.jxl_coding_codes.specs.Fields.{number_at, var_len_at}
use Rattle.jxl_coding_codes.specs.Reading.{steps}
use Rattle.jxl_coding_codes.specs.Distributions.{whole, one_symbol, two_symbols, few_at, even_at, even_first, Widths, no_widths, one_width, same_widths, widths_step, signalled_at, next_count_at, count_at, counts_step, with_rest, precision_at, are_widths, many_at, distribution_at}
use Rattle.jxl_coding_codes.proofs.Holding.{after, either, Any, anything, of_ok, steps_keep}

-- One number of a list in the place of another.

zeros : (n : ℕ) → sum (replicate n 0) ≡ 0
zeros n = omega (arith, sum_by-replicate (λ (x : ℕ). x) n 0)

put : (xs : List ℕ) (i y : ℕ) → i < length xs → slice_index xs i ≡ 0 → sum (slice_set xs i y) ≡ sum xs + y
put xs i y lt e = omega (arith, e, sum_by-set (λ (x : ℕ). x) xs i y 0 lt)

one_sums : (symbol : ℕ) → sum (one_symbol symbol) ≡ 4096
one_sums symbol =
    let within : symbol < length (replicate (symbol + 1) 0) = rw (length-replicate {A = ℕ} (symbol + 1) 0) (omega arith) in
    put (replicate (symbol + 1) 0) symbol 4096 within (get_or-replicate (symbol + 1) symbol 0 0 (omega arith)) ∙ ap (λ (n : ℕ). n + 4096) (zeros (symbol + 1))

two_sums : (first second count : ℕ) → first ≢ second → count < 4096 → sum (two_symbols first second count) ≡ 4096
two_sums first second count apart few =
    let n = max first second + 1 in
    let a : first < length (replicate n 0) = rw (length-replicate {A = ℕ} n 0) (omega arith) in
    let once = slice_set (replicate n 0) first count in
    let b : second < length once = rw (length-set (replicate n 0) first count, length-replicate {A = ℕ} n 0) (omega arith) in
    let e : slice_index once second ≡ 0 = get_or-set_other (replicate n 0) first second count 0 (λ h. apart (sym h)) ∙ get_or-replicate n second 0 0 (omega arith) in
    let s : sum once ≡ 0 + count = put (replicate n 0) first count a (get_or-replicate n first 0 0 (omega arith)) ∙ ap (λ (n : ℕ). n + count) (zeros n) in
    put once second (4096 - count) b e ∙ omega (arith, s, few)

-- Each as often as the others.

quotient : (n m : ℕ) → 0 < m → m * (n / m) + n % m ≡ n
quotient n m some = omega arith

even_sums : (n all : ℕ) → sum (even_first n all) ≡ n * (whole / all) + min n (whole % all)
unfolding even_first
even_sums zero all = omega arith
even_sums (suc n) all =
    let before : sum (even_first n all) ≡ n * (whole / all) + min n (whole % all) = even_sums n all in
    sum_by_push (λ (x : ℕ). x) (even_first n all) (even_at n all) ∙ grind (arith, nat_tests, before)

even_all : (all : ℕ) → 0 < all → sum (even_first all all) ≡ 4096
even_all all some =
    let low : whole % all < all = omega arith in
    let e = quotient whole all some in
    even_sums all all ∙ omega (arith, e, low)

-- By widths.

bit_below : (bytes : List ℕ) (p n : ℕ) → IfOk (number_at bytes p n) (λ f. f.value < 2 ^ n)
unfolding number_at
bit_below bytes p n = either (nat_lt (8 * length bytes) (p + n)) _ _ (λ f. f.value < 2 ^ n) (λ e. tt) (λ e. bits_at-bound bytes p n)

abbrev Sums : Found (List ℕ) → Type 0
Sums f = sum f.value ≡ 4096

unequal : (a b : ℕ) → (a == b) ≡ false → a ≢ b
unequal a b h = λ e. grind (arith, nat_tests)

few_sums : (bytes : List ℕ) (p : ℕ) → IfOk (few_at bytes p) Sums
unfolding few_at
few_sums bytes p =
    after (number_at bytes p 1) _ Any Sums (anything _)
    (λ two _. after (var_len_at bytes two.position false) _ Any Sums (anything _)
    (λ first _. either (two.value == 0) _ _ Sums (λ _. one_sums first.value)
    (λ _. after (var_len_at bytes first.position false) _ Any Sums (anything _)
    (λ second _. either (first.value == second.value) _ _ Sums (λ _. tt)
    (λ other. after (number_at bytes second.position 12) _ (λ f. f.value < 2 ^ 12) Sums (bit_below bytes second.position 12)
    (λ count few. two_sums first.value second.value count.value (unequal _ _ other) few))))))

-- of the widths that were read: the widest is one of them, and its count is its own
record AreWidths (all : ℕ) (s : Widths) : Type 0 where
  few : length s.widths ≤ all
  widest : 0 < s.most → s.widest < length s.widths
  told : 0 < s.most → slice_index s.widths s.widest ≢ 13

more_widths : (all : ℕ) (s : Widths) (xs : List ℕ) → AreWidths all s → length s.widths + length xs ≤ all → AreWidths all (record { widths = s.widths ++ xs; most = s.most; widest = s.widest })
more_widths all s xs h room = record {
  few = rw (length-append s.widths xs) room;
  widest = λ some. rw (length-append s.widths xs) (let k : s.widest < length s.widths = h.widest some in omega arith);
  told = λ some. rw (get_or_append_left s.widths xs 0 s.widest (h.widest some)) (h.told some);
}

same_keeps : (all : ℕ) (s : Widths) (more : ℕ) → AreWidths all s → AreWidths all (same_widths all s more)
same_keeps all s more h =
    let few : length s.widths ≤ all = h.few in
    more_widths all s (replicate (min more (all - length s.widths)) 13) h (rw (length-replicate {A = ℕ} (min more (all - length s.widths)) 13) (omega arith))

wider : (all : ℕ) (s : Widths) (width most widest : ℕ) (b : Bool) → AreWidths all s → length s.widths < all → width ≢ 13 → nat_le s.most width ≡ b → most ≡ max s.most (width + 1) → widest ≡ cond b (length s.widths) s.widest →
    AreWidths all (record { widths = s.widths ++ width ∷ []; most = most; widest = widest })
wider all s width most widest true h room other e m w = record {
  few = rw (length_push s.widths width) (omega arith);
  widest = λ some. rw (w, length_push s.widths width) (omega arith);
  told = λ some. rw (w, get_or_push s.widths width 0 (length s.widths) refl) other;
}
wider all s width most widest false h room other e m w =
    let k : 0 < s.most = grind (arith, nat_tests) in
    let below : s.widest < length s.widths = h.widest k in
    record {
      few = rw (length_push s.widths width) (omega arith);
      widest = λ some. rw (w, length_push s.widths width) (omega arith);
      told = λ some. rw (w, get_or_append_left s.widths (width ∷ []) 0 s.widest below) (h.told k);
    }

one_keeps : (all : ℕ) (s : Widths) (width : ℕ) → AreWidths all s → length s.widths < all → width ≢ 13 → AreWidths all (one_width s width)
one_keeps all s width h room other = wider all s width _ _ (nat_le s.most width) h room other refl refl refl

above : (a b : ℕ) → nat_le a b ≡ false → b < a
above a b h = grind (arith, nat_tests)

widths_keep : (all k : ℕ) (s : Widths) (bytes : List ℕ) (p : ℕ) → AreWidths all s → IfOk (widths_step all s bytes p) (λ f. AreWidths all f.value)
unfolding widths_step
widths_keep all k s bytes p h =
    either (nat_le all (length s.widths)) _ _ (λ f. AreWidths all f.value) (λ _. h)
    (λ room. after (signalled_at bytes p) _ Any (λ f. AreWidths all f.value) (anything _)
    (λ signalled _. either (signalled.value == 13) _ _ (λ f. AreWidths all f.value)
    (λ _. after (var_len_at bytes signalled.position false) _ Any (λ f. AreWidths all f.value) (anything _) (λ more _. same_keeps all s (more.value + 4) h))
    (λ other. one_keeps all s signalled.value h (above _ _ room) (unequal _ _ other))))

no_widest : (all : ℕ) → AreWidths all no_widths
no_widest all = record {
  few = omega arith;
  widest = λ some. absurd (omega (arith, some));
  told = λ some. absurd (omega (arith, some));
}

-- of the counts that were read, where this number of are left: that of the widest is not yet there
record AreCounts (all widest left : ℕ) (counts : List ℕ) : Type 0 where
  many : left + length counts ≡ all
  none : slice_index counts widest ≡ 0

module _ (precision : ℕ) (s : Widths) (told : slice_index s.widths s.widest ≢ 13) where
  differs : (place : ℕ) → (slice_index s.widths place == 13) ≡ true → place ≢ s.widest
  differs place h = λ e. told (subst (λ (n : ℕ). slice_index s.widths n ≡ 13) e (grind (arith, nat_tests)))

  next_is : (counts : List ℕ) (bytes : List ℕ) (p : ℕ) → IfOk (next_count_at precision s counts bytes p) (λ f. length counts ≡ s.widest → f.value ≡ 0)
  unfolding next_count_at
  next_is counts bytes p =
      either (slice_index s.widths (length counts) == 13) _ _ (λ f. length counts ≡ s.widest → f.value ≡ 0) (λ h e. absurd (differs (length counts) h e))
      (λ _. either (length counts == s.widest) _ _ (λ f. length counts ≡ s.widest → f.value ≡ 0) (λ _ _. refl)
      (λ h. IfOk-weaker (count_at precision (slice_index s.widths (length counts)) bytes p) Any (λ f. length counts ≡ s.widest → f.value ≡ 0) (λ f _ e. absurd (unequal _ _ h e)) (anything _)))

  pushed_none : (counts : List ℕ) (count : ℕ) → slice_index counts s.widest ≡ 0 → (length counts ≡ s.widest → count ≡ 0) → slice_index (counts ++ count ∷ []) s.widest ≡ 0
  pushed_none counts count none h =
      elim (cases_order s.widest (length counts)) [
        | inl e ↦ rw (get_or_push counts count 0 s.widest (sym e)) (h (sym e))
        | inr k ↦ elim k [
          | inl lt ↦ rw (get_or_append_left counts (count ∷ []) 0 s.widest lt) none
          | inr gt ↦ get_or_past (counts ++ count ∷ []) s.widest 0 (rw (length_push counts count) (omega arith))
        ]
      ]

  counts_keep : (all left : ℕ) (counts bytes : List ℕ) (p : ℕ) → AreCounts all s.widest (suc left) counts → IfOk (counts_step precision s counts bytes p) (λ f. AreCounts all s.widest left f.value)
  counts_keep all left counts bytes p h =
      after (next_count_at precision s counts bytes p) _ (λ f. length counts ≡ s.widest → f.value ≡ 0) (λ f. AreCounts all s.widest left f.value) (next_is counts bytes p)
      (λ count zeroed. record {
        many = rw (length_push counts count.value) (let m : suc left + length counts ≡ all = h.many in omega arith);
        none = pushed_none counts count.value h.none zeroed;
      })

rest_sums : (all widest : ℕ) (counts : List ℕ) → widest < all → AreCounts all widest 0 counts → IfOk (with_rest counts widest) (λ xs. sum xs ≡ 4096)
rest_sums all widest counts lt h =
    either (nat_le whole (sum counts)) _ _ (λ xs. sum xs ≡ 4096) (λ _. tt)
    (λ few. let m : 0 + length counts ≡ all = h.many in put counts widest (4096 - sum counts) (omega arith) h.none ∙ grind (arith, nat_tests))

counted : (s : Widths) → are_widths s ≡ true → 0 < s.most
counted s h =
    let some : nat_lt 0 s.most ≡ true = (and_parts (nat_lt 0 s.most) (cond (slice_index s.widths (s.widest + 1) == 13) false true) h).0 in
    grind (arith, nat_tests)

many_sums : (bytes : List ℕ) (p : ℕ) → IfOk (many_at bytes p) Sums
unfolding many_at
many_sums bytes p =
    after (precision_at bytes p) _ Any Sums (anything _)
    (λ precision _. after (var_len_at bytes precision.position false) _ Any Sums (anything _)
    (λ more _. after (steps (widths_step (more.value + 3)) (more.value + 3) no_widths bytes more.position) _ (λ f. AreWidths (more.value + 3) f.value) Sums
    (steps_keep (widths_step (more.value + 3)) (λ _ s. AreWidths (more.value + 3) s) (λ k s all q h. widths_keep (more.value + 3) k s all q h) (more.value + 3) no_widths bytes more.position (no_widest (more.value + 3)))
    (λ signalled valid. either (are_widths signalled.value) _ _ Sums
    (λ can. let some : 0 < signalled.value.most = counted signalled.value can in
    let below : signalled.value.widest < length signalled.value.widths = valid.widest some in
    let few : length signalled.value.widths ≤ more.value + 3 = valid.few in
    after (steps (counts_step precision.value signalled.value) (more.value + 3) [] bytes signalled.position) _ (λ f. AreCounts (more.value + 3) signalled.value.widest 0 f.value) Sums
    (steps_keep (counts_step precision.value signalled.value) (AreCounts (more.value + 3) signalled.value.widest) (counts_keep precision.value signalled.value (valid.told some) (more.value + 3)) (more.value + 3) [] bytes signalled.position (record { many = omega arith; none = refl }))
    (λ counts read. after (with_rest counts.value signalled.value.widest) _ (λ xs. sum xs ≡ 4096) Sums (rest_sums (more.value + 3) signalled.value.widest counts.value (omega arith) read) (λ xs done. done)))
    (λ _. tt))))

distribution_sums : (bytes : List ℕ) (p : ℕ) → IfOk (distribution_at bytes p) Sums
unfolding distribution_at
distribution_sums bytes p =
    after (number_at bytes p 1) _ Any Sums (anything _)
    (λ few _. either (few.value == 1) _ _ Sums (λ _. few_sums bytes few.position)
    (λ _. after (number_at bytes few.position 1) _ Any Sums (anything _)
    (λ even _. either (even.value == 1) _ _ Sums
    (λ _. after (var_len_at bytes even.position false) _ Any Sums (anything _) (λ more _. even_all (more.value + 1) (omega arith)))
    (λ _. many_sums bytes even.position))))

pub sums : (bytes : List ℕ) (p : ℕ) (found : Found (List ℕ)) → distribution_at bytes p ≡ Ok found → sum found.value ≡ 4096
sums bytes p found h = of_ok (distribution_at bytes p) Sums found (distribution_sums bytes p) h

-- each count is below 4096, or that
pub each_count : {A : Type 0} (view : A → List ℕ) (r : Result A DecoderError) (q : ℕ) (bytes : List ℕ) (p : ℕ) → Gives view r q (distribution_at bytes p) → IfOk r (λ v. All (λ count. count ≤ 4096) (view v))
each_count view (Ok v) q bytes p h = λ k d lt.
    let whole_is : sum (view v) ≡ 4096 = sums bytes p _ h in
    omega (arith, whole_is, get_or-le-sum_by (λ (x : ℕ). x) (view v) k d lt)
each_count view (Err e) q bytes p h = tt
