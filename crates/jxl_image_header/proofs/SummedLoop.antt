-- Reading numbers of one kind one after another and adding them, as a loop does.
use Rattle.std.proofs.Common.{◌≡◌, ℕ, suc, ◌-◌, ◌+◌, ◌≤◌, ◌<◌, List, ◌∷◌, Result, Ok, Err, refl, sym, ◌∙◌, arith}
use Rattle.std.specs.Prelude.{fold, sum, count_ones}
use Rattle.jxlm_bits.specs.Decoding.{Found}
use Rattle.jxlm_bits.specs.ErrorKind.{ErrorAt, ◌>>=◌}
use Rattle.jxlm_bits.specs.Grammar.{Grammar, number, repeated, give}
use Rattle.jxlm_bits.specs.Grammar as grammar
use Rattle.jxl_image_header.specs.Fields.{long, extensions}
use Rattle.jxl_image_header.specs.Inner.Groups.{extension_bits, ignored_bits}

-- the sum of what was read before, and of what is still read
abbrev pub with_sum : ℕ → Result (Found (List ℕ)) ErrorAt → Result (Found ℕ) ErrorAt
with_sum total r = r >>= (λ f. Ok (record { value = fold ◌+◌ total f.value; position = f.position }))

regroup : (total y : ℕ) (r : Result (Found (List ℕ)) ErrorAt) →
    with_sum total (r >>= (λ f. Ok (record { value = y ∷ f.value; position = f.position }))) ≡ with_sum (total + y) r
regroup total y (Ok f) = refl
regroup total y (Err e) = refl

-- one more number was read
pub adds : (g : Grammar ℕ) (bytes : List ℕ) (total count i p y q : ℕ) (all : Result (Found ℕ) ErrorAt) → i < count →
    g.read bytes p ≡ Ok (record { value = y; position = q }) → with_sum total ((repeated (count - i) g).read bytes p) ≡ all →
    with_sum (total + y) ((repeated (count - (i + 1)) g).read bytes q) ≡ all
adds g bytes total count i p y q all lt h so_far =
    let k : count - i ≡ suc (count - (i + 1)) = omega arith in
    let one : with_sum total ((repeated (count - i) g).read bytes p) ≡ with_sum (total + y) ((repeated (count - (i + 1)) g).read bytes q) = rw (k, h) (regroup total y ((repeated (count - (i + 1)) g).read bytes q)) in
    sym one ∙ so_far

-- one gave an error
pub stops_adding : (g : Grammar ℕ) (bytes : List ℕ) (total count i p : ℕ) (e : ErrorAt) (all : Result (Found ℕ) ErrorAt) → i < count →
    g.read bytes p ≡ Err e → with_sum total ((repeated (count - i) g).read bytes p) ≡ all → all ≡ Err e
stops_adding g bytes total count i p e all lt h so_far =
    let k : count - i ≡ suc (count - (i + 1)) = omega arith in
    let one : with_sum total ((repeated (count - i) g).read bytes p) ≡ Err e = rw (k, h) refl in
    sym so_far ∙ one

-- all were read
pub added : (g : Grammar ℕ) (bytes : List ℕ) (total count i p : ℕ) (all : Result (Found ℕ) ErrorAt) → count ≤ i →
    with_sum total ((repeated (count - i) g).read bytes p) ≡ all → all ≡ Ok (record { value = total; position = p })
added g bytes total count i p all le so_far =
    let k : count - i ≡ 0 = omega arith in
    let one : with_sum total ((repeated (count - i) g).read bytes p) ≡ Ok (record { value = total; position = p }) = rw k refl in
    sym so_far ∙ one

from_none : (r : Result (Found (List ℕ)) ErrorAt) → with_sum 0 r ≡ (r >>= (λ f. Ok (record { value = sum f.value; position = f.position })))
from_none (Ok f) = refl
from_none (Err e) = refl

-- the sizes of extensions are added in this way
pub sizes_added : (n : ℕ) (bytes : List ℕ) (p : ℕ) → with_sum 0 ((repeated (n - 0) long).read bytes p) ≡ (extension_bits n).read bytes p
unfolding extension_bits
sizes_added n bytes p = let e : n - 0 ≡ n = omega arith in rw e (from_none ((repeated n long).read bytes p))

-- the sum of numbers that were read
abbrev sums : Result (Found (List ℕ)) ErrorAt → Result (Found ℕ) ErrorAt
sums r = r >>= (λ f. Ok (record { value = sum f.value; position = f.position }))

summed_first : {Y : Type 0} (r : Result (Found (List ℕ)) ErrorAt) (next later : ℕ → ℕ → Result (Found Y) ErrorAt) → ((n m : ℕ) → next n m ≡ later n m) →
    (r >>= (λ f. next (sum f.value) f.position)) ≡ (sums r >>= (λ (f : Found ℕ). later f.value f.position))
summed_first (Ok f) next later same = same (sum f.value) f.position
summed_first (Err e) next later same = refl

-- bits that are passed, and what they were is not looked at
abbrev passes : Result (Found ℕ) ErrorAt → Result (Found (Unit {0})) ErrorAt
passes r = r >>= (λ f. Ok (record { value = tt; position = f.position }))

abbrev telling : {X : Type 0} → ℕ → Found X → Result (Found ℕ) ErrorAt
telling mask f = Ok (record { value = mask; position = f.position })

passed : (mask : ℕ) (r : Result (Found ℕ) ErrorAt) → (r >>= telling mask) ≡ (passes r >>= telling mask)
passed mask (Ok f) = refl
passed mask (Err e) = refl

-- what extensions give after their mask, by the sum of their sizes
abbrev pub after_mask : ℕ → Grammar ℕ
after_mask mask = grammar.◌>>=◌ (extension_bits (count_ones mask)) (λ n. grammar.◌>>=◌ (ignored_bits n) (λ u. give mask))

pub by_sum : (bytes : List ℕ) (p mask q : ℕ) → long.read bytes p ≡ Ok (record { value = mask; position = q }) → extensions.read bytes p ≡ (after_mask mask).read bytes q
unfolding extensions extension_bits
by_sum bytes p mask q h =
    rw h (summed_first {Y = ℕ} ((repeated (count_ones mask) long).read bytes q) (λ n m. (grammar.◌>>=◌ (number n) (λ v. give mask)).read bytes m)
    (λ n m. (grammar.◌>>=◌ (ignored_bits n) (λ u. give mask)).read bytes m) (λ n m. passed mask ((number n).read bytes m)))
