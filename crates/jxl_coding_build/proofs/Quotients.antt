-- Shares of a room.
use Rattle.std.proofs.Common.{◌≡◌, ℕ, zero, suc, ◌+◌, ◌-◌, ◌*◌, ◌/◌, ◌<◌, ◌≤◌, List, [], ◌∷◌, ◌++◌, below_more, length, take, get_or, set, slice_index, true, cond, refl, sym, ap, ◌∙◌, subst, inl, inr, arith}
use Rattle.std.specs.Prelude.{nat_lt, count_by}
use Rattle.std.specs.List.{sum}
use Rattle.std.proofs.lemmas.Bool.{cases_lt, lt-ltb}
use Rattle.std.proofs.lemmas.List.{take_all, length_push, get_or_append_left, get_or_push}
use Rattle.std.proofs.lemmas.List.Sums.{sum_by_more, sum_by-set, sum_by-append}
use Rattle.std.proofs.lemmas.Nat.{div_below}
use Rattle.std.proofs.Math.Nat.{mul_comm, add-mul, mul-le-mul_right}
use Rattle.jxl_coding_build.specs.Shares.{one_if}

pub quotient_times : (x total : ℕ) → 0 < total → x / total * total ≤ x
quotient_times x total some = omega (arith, mul_comm (x / total) total, some)

pub quotient_small : (count room total : ℕ) → 0 < total → count ≤ total → count * room / total ≤ room
quotient_small count room total some part =
    let m : count * room ≤ total * room = mul-le-mul_right room part in
    let b : count * room < (room + 1) * total = next (count * room) room total some (rw (mul_comm total room) at m) in
    let q = div_below (count * room) total (room + 1) some b in
    omega (arith, q)
  where
    next : (x room total : ℕ) → 0 < total → x ≤ room * total → x < (room + 1) * total
    next x room total some le = let e = add-mul room 1 total in omega (arith, e, le, some)

pub share_most : (count room total : ℕ) → 0 < total → 0 < count → (1 + count * room / total) * total ≤ one_if count * total + count * room
share_most count room total some occurs =
    let t : nat_lt 0 count ≡ true = lt-ltb 0 count occurs in
    let q = quotient_times (count * room) total some in
    let e = add-mul 1 (count * room / total) total in
    rw t (omega (arith, e, q))

-- where nothing occurs, the sum is 0
sum_none : (counts : List ℕ) → ((k : ℕ) → k < length counts → slice_index counts k ≡ 0) → (n : ℕ) → n ≤ length counts → sum (take n counts) ≡ 0
sum_none counts none zero le = refl
sum_none counts none (suc n) le =
    let lt : n < length counts = omega (arith, le) in
    let m = sum_none counts none n (omega (arith, le)) in
    let e : sum (take (n + 1) counts) ≡ sum (take n counts) + slice_index counts n = sum_by_more (λ (x : ℕ). x) counts n 0 lt in
    let z = none n lt in
    let k : suc n ≡ n + 1 = omega arith in
    ap (λ (j : ℕ). sum (take j counts)) k ∙ omega (arith, e, m, z)

pub top_comes : (counts : List ℕ) (top i : ℕ) → length counts ≤ i → ((k : ℕ) → k < i → slice_index counts k ≤ slice_index counts top) → 0 < sum counts → 0 < slice_index counts top
top_comes counts top i le most some =
    elim (cases_lt 0 (slice_index counts top)) [
      | inl lt ↦ lt
      | inr ge ↦
          let all : sum (take (length counts) counts) ≡ 0 = sum_none counts (λ k lt. let m = most k (omega (arith, lt, le)) in omega (arith, m, ge)) (length counts) (omega arith) in
          let whole : sum (take (length counts) counts) ≡ sum counts = ap sum (take_all (length counts) counts (omega arith)) in
          absurd (omega (arith, all, whole, some))
    ]

abbrev used_in : List ℕ → ℕ
used_in counts = count_by (λ c. nat_lt 0 c) counts

pub record SharesUpTo (counts shares : List ℕ) (room total i : ℕ) : Type 0 where
  pub many : length shares ≡ i
  pub none : (k : ℕ) → k < i → slice_index counts k ≡ 0 → slice_index shares k ≡ 0
  pub occurs : (k : ℕ) → k < i → 0 < slice_index counts k → 0 < slice_index shares k
  pub most : sum shares * total ≤ count_by (λ c. nat_lt 0 c) (take i counts) * total + sum (take i counts) * room

distributed : (a s u o b c t r : ℕ) → a * t ≤ u * t + b * r → s * t ≤ o * t + c * r → (a + s) * t ≤ (u + o) * t + (b + c) * r
distributed a s u o b c t r h k = omega (arith, h, k, add-mul a s t, add-mul u o t, add-mul b c r)

pub shares_more : (counts shares new : List ℕ) (room total i s : ℕ) → i < length counts → SharesUpTo counts shares room total i → new ≡ shares ++ s ∷ [] → (slice_index counts i ≡ 0 → s ≡ 0) → (0 < slice_index counts i → 0 < s) →
    s * total ≤ one_if (slice_index counts i) * total + slice_index counts i * room → SharesUpTo counts new room total (i + 1)
shares_more counts shares new room total i s lt h e none occurs most =
    subst (λ (xs : List ℕ). SharesUpTo counts xs room total (i + 1)) (sym e) (record {
      many = let l = length_push shares s in let m = h.many in omega (arith, l, m);
      none = below_more (λ k. slice_index counts k ≡ 0 → slice_index (shares ++ s ∷ []) k ≡ 0) i
          (λ k less z. get_or_append_left shares (s ∷ []) 0 k (let m = h.many in omega (arith, m, less)) ∙ h.none k less z)
          (λ z. get_or_push shares s 0 i h.many ∙ none z);
      occurs = below_more (λ k. 0 < slice_index counts k → 0 < slice_index (shares ++ s ∷ []) k) i
          (λ k less z. subst (λ (x : ℕ). 0 < x) (sym (get_or_append_left shares (s ∷ []) 0 k (let m = h.many in omega (arith, m, less)))) (h.occurs k less z))
          (λ z. subst (λ (x : ℕ). 0 < x) (sym (get_or_push shares s 0 i h.many)) (occurs z));
      most =
          let a : sum (shares ++ s ∷ []) ≡ sum shares + s = sum_by-append (λ (x : ℕ). x) shares (s ∷ []) ∙ omega arith in
          let u : count_by (λ c. nat_lt 0 c) (take (i + 1) counts) ≡ count_by (λ c. nat_lt 0 c) (take i counts) + one_if (slice_index counts i) = sum_by_more (λ (c : ℕ). cond (nat_lt 0 c) 1 0) counts i 0 lt in
          let b : sum (take (i + 1) counts) ≡ sum (take i counts) + slice_index counts i = sum_by_more (λ (x : ℕ). x) counts i 0 lt in
          let d = distributed (sum shares) s (count_by (λ c. nat_lt 0 c) (take i counts)) (one_if (slice_index counts i)) (sum (take i counts)) (slice_index counts i) total room h.most most in
          rw (a, u, b) d;
    })

pub held_most : (held used total room : ℕ) → 0 < total → used ≤ 256 → room ≡ 4096 - used → held * total ≤ used * total + total * room → held ≤ 4096
held_most held used total room some few e h =
    elim (cases_lt 4096 held) [
      | inl lt ↦
          let up : 4097 * total ≤ held * total = mul-le-mul_right total (omega (arith, lt)) in
          let all : used * total + total * room ≡ 4096 * total = ap (λ (x : ℕ). used * total + x) (mul_comm total room) ∙ sym (add-mul used room total) ∙ ap (λ (x : ℕ). x * total) (sum_is used room few e) in
          absurd (omega (arith, up, all, h, some))
      | inr le ↦ le
    ]
  where
    sum_is : (used room : ℕ) → used ≤ 256 → room ≡ 4096 - used → used + room ≡ 4096
    sum_is used room few e = omega (arith, few, e)

pub whole_set : (shares : List ℕ) (top value held : ℕ) → top < length shares → value ≡ get_or shares top value → held ≡ sum shares → held ≤ 4096 → sum (set shares top (value + (4096 - held))) ≡ 4096
whole_set shares top value held lt is e le =
    let s : sum (set shares top (value + (4096 - held))) + get_or shares top value ≡ sum shares + (value + (4096 - held)) = sum_by-set (λ (x : ℕ). x) shares top (value + (4096 - held)) value lt in
    omega (arith, s, is, e, le)

pub most_of : (counts shares : List ℕ) (total used : ℕ) → 0 < sum counts → total ≡ sum counts → used ≡ count_by (λ c. nat_lt 0 c) counts → used ≤ 256 →
    sum shares * total ≤ count_by (λ c. nat_lt 0 c) counts * total + sum counts * (4096 - used) → sum shares ≤ 4096
most_of counts shares total used some e u few h =
    held_most (sum shares) used total (4096 - used) (omega (arith, some, e)) few refl
    (subst (λ (x : ℕ). sum shares * total ≤ x * total + total * (4096 - used)) (sym u) (subst (λ (x : ℕ). sum shares * total ≤ count_by (λ c. nat_lt 0 c) counts * total + x * (4096 - used)) (sym e) h))
