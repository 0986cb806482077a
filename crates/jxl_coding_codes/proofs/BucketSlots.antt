-- Buckets that are filled have one slot for each symbol and number below its count; so have those of an only symbol.
use Rattle.std.specs.Prelude.{◌≡◌, ◌≢◌, ℕ, zero, suc, ◌+◌, ◌-◌, ◌*◌, ◌/◌, ◌%◌, ◌^◌, ◌<◌, ◌≤◌, List, [], ◌∷◌, ◌++◌, length, sum, Bool, true, false, cond, nat_lt, ◌==◌, Option, Some, None, slice_index, slice_set}
use Rattle.std.proofs.Common.{refl, sym, ap, ◌∙◌, inl, inr, arith}
use Rattle.std.proofs.lemmas.Bool.{cases_lt, cases_eq}
use Rattle.std.proofs.lemmas.Bool.Decides.{nat_tests}
use Rattle.std.proofs.lemmas.List.{length_push, get_or_push, get_or_append_left, get_or_past, get_or-set_other}
use Rattle.std.proofs.lemmas.List.Sums.{get_or-le-sum_by, sum_by-set}
use Rattle.std.proofs.lemmas.Nat.{div-mul-add, mod-mul-add, div_below, mod_below, div-add-mod', mul-add-lt, pow-add, pow_pos, shl-shr}
use Rattle.std.proofs.Math.Nat.{mod-eq_of_lt, mul_comm, pow-le-pow_right}
use Rattle.jxl_coding_codes.specs.Distributions.{whole}
use Rattle.jxl_coding_codes.specs.Ans.{Slot, bucket_of, slot_in}
use Rattle.jxl_coding_codes.specs.Alias.{only_from, only_buckets, Filling, buckets_with, buckets_of}
use Rattle.jxl_coding_codes.specs.Slots.{slot_at, AreSlotsOf}
use Rattle.jxl_coding_codes.proofs.BucketMoves.{Place, Has}
use Rattle.jxl_coding_codes.proofs.BucketFilling.{Done, seen, all_filled}

-- a count is no more than the sum
count_most : (counts : List ℕ) (i : ℕ) → slice_index counts i ≤ sum counts
count_most counts i =
    elim (cases_lt i (length counts)) [
      | inl lt ↦ get_or-le-sum_by (λ (x : ℕ). x) counts i 0 lt
      | inr ge ↦ let e : slice_index counts i ≡ 0 = get_or_past counts i 0 ge in omega (arith, e)
    ]

module _ (n each : ℕ) (counts : List ℕ) (short_list : length counts ≤ n) (sums : sum counts ≡ 4096) (size : n * each ≡ 4096) (few : n ≤ 256) (some : 0 < each)
    (s : Filling) (d : Done n each counts s) where
  abbrev at : ℕ → Slot
  at slot = slot_at s.buckets each slot

  abbrev where_is : ℕ → ℕ → Place
  where_is symbol number = d.filled.where_is symbol number

  bucket_in : (slot : ℕ) → slot < 4096 → slot / each < n
  bucket_in slot lt = div_below slot each n some (rw size lt)

  place_in : (slot : ℕ) → slot % each < each
  place_in slot = mod_below slot each some

  -- the place of a slot is the slot's
  at_place : (slot : ℕ) → slot < 4096 → at slot ≡ slot_in (bucket_of s.buckets (slot / each)) (slot / each) (slot % each)
  at_place slot lt =
      let b = bucket_in slot lt in
      let e : (0 + slot / each) % 2 ^ 32 ≡ slot / each = omega (arith, b, few) in
      rw e refl

  in_own : (i place : ℕ) → place < (bucket_of s.buckets i).cutoff → slot_in (bucket_of s.buckets i) i place ≡ record { symbol = i; number = place; count = (bucket_of s.buckets i).count }
  in_own i place lt = let t : nat_lt place (bucket_of s.buckets i).cutoff ≡ true = grind (arith, nat_tests) in rw t refl

  in_other : (i place : ℕ) → (bucket_of s.buckets i).cutoff ≤ place → (bucket_of s.buckets i).alias_offset + (place - (bucket_of s.buckets i).cutoff) < 2 ^ 32 →
      slot_in (bucket_of s.buckets i) i place ≡ record { symbol = (bucket_of s.buckets i).alias_symbol; number = (bucket_of s.buckets i).alias_offset + (place - (bucket_of s.buckets i).cutoff); count = (bucket_of s.buckets i).alias_count }
  in_other i place le lt =
      let t : nat_lt place (bucket_of s.buckets i).cutoff ≡ false = grind (arith, nat_tests) in
      let e : ((bucket_of s.buckets i).alias_offset + (place - (bucket_of s.buckets i).cutoff)) % 2 ^ 32 ≡ (bucket_of s.buckets i).alias_offset + (place - (bucket_of s.buckets i).cutoff) = mod-eq_of_lt lt in
      rw (t, e) refl

  -- what stands at a place: a pair, which is there
  record Stands (i place : ℕ) (t : Slot) : Type 0 where
    symbol_in : t.symbol < n
    below : t.number < slice_index counts t.symbol
    count_is : t.count ≡ slice_index counts t.symbol
    there : where_is t.symbol t.number ≡ record { bucket = i; place = place }

  number_small : (i number : ℕ) → number < slice_index counts i → number < 2 ^ 32
  number_small i number lt = let m = count_most counts i in omega (arith, m, lt, sums)

  stands : (i place : ℕ) → i < n → place < each → Stands i place (slot_in (bucket_of s.buckets i) i place)
  stands i place lt less =
      let even : d.filled.size i ≡ each = d.even i lt in
      elim (cases_lt place (bucket_of s.buckets i).cutoff) [
        | inl low ↦ rw (in_own i place low) (record {
          symbol_in = lt;
          below = let c = d.filled.laid.own_count i lt in omega (arith, c, low);
          count_is = d.filled.own_counts i lt;
          there = d.filled.laid.own_place i place lt low;
        })
        | inr high ↦
            let inside : place < d.filled.size i = rw even less in
            let o = d.filled.laid.other_within i place lt high inside in
            rw (in_other i place high (number_small (bucket_of s.buckets i).alias_symbol _ o.1)) (record {
              symbol_in = o.0;
              below = o.1;
              count_is = d.filled.other_counts i lt (omega (arith, high, inside));
              there = d.filled.laid.other_place i place lt high inside;
            })
      ]

  slot_stands : (slot : ℕ) → slot < 4096 → Stands (slot / each) (slot % each) (at slot)
  slot_stands slot lt = rw (at_place slot lt) (stands (slot / each) (slot % each) (bucket_in slot lt) (place_in slot))

  same_place : (a b : ℕ) → a < 4096 → b < 4096 → at a ≡ at b → a ≡ b
  same_place a b la lb e =
      let sa = slot_stands a la in
      let sb = slot_stands b lb in
      let there : record { bucket = a / each; place = a % each } ≡ where_is (at a).symbol (at a).number = sym sa.there in
      let all : where_is (at a).symbol (at a).number ≡ where_is (at b).symbol (at b).number = ap (λ (t : Slot). where_is t.symbol t.number) e in
      let both = there ∙ all ∙ sb.there in
      let x : a / each ≡ b / each = ap (λ (p : Place). p.bucket) both in
      let y : a % each ≡ b % each = ap (λ (p : Place). p.place) both in
      sym (div-add-mod' a each) ∙ ap (λ (m : ℕ). m * each + a % each) x ∙ ap (λ (m : ℕ). b / each * each + m) y ∙ div-add-mod' b each

  -- the slot of a pair
  abbrev Found : ℕ → ℕ → Type 0
  Found symbol number = (slot : ℕ) × ((slot < 4096) × (at slot ≡ record { symbol = symbol; number = number; count = slice_index counts symbol }))

  abbrev slot_for : ℕ → ℕ → ℕ
  slot_for i place = i * each + place

  slot_is : (i place : ℕ) → i < n → place < each → at (slot_for i place) ≡ slot_in (bucket_of s.buckets i) i place
  slot_is i place lt less =
      let below : slot_for i place < 4096 = rw (← size, mul_comm n each) (mul-add-lt i each place n lt less) in
      let q : slot_for i place / each ≡ i = div-mul-add i each place less in
      let r : slot_for i place % each ≡ place = mod-mul-add i each place less in
      at_place (slot_for i place) below ∙ ap (λ (m : ℕ). slot_in (bucket_of s.buckets m) m (slot_for i place % each)) q ∙ ap (λ (m : ℕ). slot_in (bucket_of s.buckets i) i m) r

  its_slot : (symbol number i place : ℕ) → symbol < n → number < slice_index counts symbol → i < n → place < each → Has (seen s.buckets) (record { bucket = i; place = place }) symbol number → slot_in (bucket_of s.buckets i) i place ≡ record { symbol = symbol; number = number; count = slice_index counts symbol }
  its_slot symbol number i place ls ln lt less has =
      elim (cases_lt place (bucket_of s.buckets i).cutoff) [
        | inl low ↦
            let e = has.its low in
            in_own i place low ∙ rw (d.filled.own_counts i lt, e.0, e.1) refl
        | inr high ↦
            let e = has.others high in
            let inside : place < d.filled.size i = rw (d.even i lt) less in
            let c = d.filled.other_counts i lt (omega (arith, high, inside)) in
            in_other i place high (rw e.1 (number_small symbol number ln)) ∙ rw (c, e.1, e.0) refl
      ]

  found : (symbol number : ℕ) → number < slice_index counts symbol → Found symbol number
  found symbol number lt =
      elim (cases_lt symbol n) [
        | inl ls ↦
            let t = d.filled.laid.there symbol number ls lt in
            let i = (where_is symbol number).bucket in
            let place = (where_is symbol number).place in
            let less : place < each = rw (d.even i t.0) at t.1 in
            (slot_for i place, (rw (← size, mul_comm n each) (mul-add-lt i each place n t.0 less), slot_is i place t.0 less ∙ its_slot symbol number i place ls lt t.0 less t.2))
        | inr ge ↦
            let e : slice_index counts symbol ≡ 0 = get_or_past counts symbol 0 (omega (arith, short_list, ge)) in
            absurd (omega (arith, e, lt))
      ]

  pub filled_slots : AreSlotsOf counts s.buckets each
  filled_slots = record {
    within = λ slot lt. let t = slot_stands slot lt in (rw t.count_is t.below, t.count_is);
    once = same_place;
    all = found;
  }

-- An only symbol.

only_more : (symbol each n : ℕ) → only_buckets symbol each (suc n) ≡ only_buckets symbol each n ++ record { cutoff = 0; alias_symbol = symbol; alias_offset = each * n; count = 0; alias_count = whole } ∷ []
unfolding only_buckets
only_more symbol each n = refl

only_many : (symbol each n : ℕ) → length (only_buckets symbol each n) ≡ n
unfolding only_buckets
only_many symbol each zero = refl
only_many symbol each (suc n) = length_push (only_buckets symbol each n) _ ∙ ap (λ (m : ℕ). m + 1) (only_many symbol each n) ∙ omega arith

only_at : (symbol each n i : ℕ) → i < n → bucket_of (only_buckets symbol each n) i ≡ record { cutoff = 0; alias_symbol = symbol; alias_offset = each * i; count = 0; alias_count = whole }
only_at symbol each zero i lt = absurd (omega (arith, lt))
only_at symbol each (suc n) i lt =
    elim (cases_eq i n) [
      | inl e ↦ rw (only_more symbol each n, e) (get_or_push (only_buckets symbol each n) _ _ n (only_many symbol each n))
      | inr other ↦
          let less : i < n = omega arith in
          let within : i < length (only_buckets symbol each n) = rw (only_many symbol each n) less in
          rw (only_more symbol each n) (get_or_append_left (only_buckets symbol each n) _ _ i within ∙ only_at symbol each n i less)
    ]

-- no other symbol comes
alone : (counts : List ℕ) (i j : ℕ) → sum counts ≡ 4096 → slice_index counts i ≡ 4096 → j ≢ i → slice_index counts j ≡ 0
alone counts i j sums e other =
    elim (cases_lt i (length counts)) [
      | inl lt ↦
          let a = sum_by-set (λ (x : ℕ). x) counts i 0 0 lt in
          let b = count_most (slice_set counts i 0) j in
          let c = get_or-set_other counts i j 0 0 other in
          omega (arith, a, b, c, e, sums)
      | inr ge ↦ let z : slice_index counts i ≡ 0 = get_or_past counts i 0 ge in absurd (omega (arith, e, z))
    ]

module _ (n each symbol : ℕ) (counts : List ℕ) (sums : sum counts ≡ 4096) (size : n * each ≡ 4096) (few : n ≤ 256) (some : 0 < each) (only : slice_index counts symbol ≡ 4096) where
  abbrev stands_for : ℕ → Slot
  stands_for slot = slot_at (only_buckets symbol each n) each slot

  only_stands : (slot : ℕ) → slot < 4096 → stands_for slot ≡ record { symbol = symbol; number = slot; count = 4096 }
  only_stands slot lt =
      let b : slot / each < n = div_below slot each n some (rw size lt) in
      let e : (0 + slot / each) % 2 ^ 32 ≡ slot / each = omega (arith, b, few) in
      let c : each * (slot / each) + slot % each ≡ slot = rw (mul_comm each (slot / each)) (div-add-mod' slot each) in
      let t : nat_lt (slot % each) 0 ≡ false = grind (arith, nat_tests) in
      let m : (each * (slot / each) + (slot % each - 0)) % 2 ^ 32 ≡ slot = omega (arith, c, lt) in
      rw (e, only_at symbol each n (slot / each) b, t, m) refl

  only_slots : AreSlotsOf counts (only_buckets symbol each n) each
  only_slots = record {
    within = λ slot lt. rw (only_stands slot lt) (lt, sym only);
    once = λ a b la lb e. ap (λ (t : Slot). t.number) (sym (only_stands a la) ∙ e ∙ only_stands b lb);
    all = λ s number lt. elim (cases_eq s symbol) [
      | inl e ↦
          let c : slice_index counts s ≡ 4096 = rw e only in
          let below : number < 4096 = omega (arith, c, lt) in
          (number, (below, only_stands number below ∙ rw (e, only) refl))
      | inr other ↦ let z = alone counts symbol s sums only other in absurd (omega (arith, z, lt))
    ];
  }

-- The alias table of a distribution.

only_is : (start : ℕ) (counts : List ℕ) (symbol : ℕ) → only_from start counts ≡ Some symbol → (start ≤ symbol) × (slice_index counts (symbol - start) ≡ 4096)
only_is start [] symbol e = cc
only_is start (count ∷ counts) symbol e = by (only_is (start + 1) counts symbol) (count == whole) refl e
  where
    same : (a b : ℕ) → Some a ≡ Some b → a ≡ b
    same a b h = cc

    at : (m : ℕ) → m ≡ 0 → count ≡ 4096 → slice_index (count ∷ counts) m ≡ 4096
    at m z h = rw z h

    after : (m k : ℕ) → m ≡ suc k → slice_index counts k ≡ 4096 → slice_index (count ∷ counts) m ≡ 4096
    after m k z h = rw z h

    by : (only_from (start + 1) counts ≡ Some symbol → (start + 1 ≤ symbol) × (slice_index counts (symbol - (start + 1)) ≡ 4096)) → (b : Bool) → (count == whole) ≡ b → cond b (Some start) (only_from (start + 1) counts) ≡ Some symbol → (start ≤ symbol) × (slice_index (count ∷ counts) (symbol - start) ≡ 4096)
    by further true t h =
        let s : start ≡ symbol = same start symbol h in
        (omega (arith, s), at (symbol - start) (omega (arith, s)) (grind (arith, nat_tests)))
    by further false t h =
        let r = further h in
        let le : start + 1 ≤ symbol = r.0 in
        (omega (arith, le), after (symbol - start) (symbol - (start + 1)) (omega (arith, le)) r.1)

record Sizes (log : ℕ) : Type 0 where
  product : 2 ^ log * (4096 / 2 ^ log) ≡ 4096
  few : 2 ^ log ≤ 256
  some : 0 < 4096 / 2 ^ log

sizes : (log : ℕ) → log ≤ 8 → Sizes log
sizes log le =
    let whole_is : 4096 ≡ 2 ^ (12 - log) * 2 ^ log = ap (λ (m : ℕ). 2 ^ m) (back log le) ∙ pow-add 2 (12 - log) log in
    let q : 4096 / 2 ^ log ≡ 2 ^ (12 - log) = ap (λ (m : ℕ). m / 2 ^ log) whole_is ∙ shl-shr (2 ^ (12 - log)) log in
    record {
      product = rw (q, mul_comm (2 ^ log) (2 ^ (12 - log))) (sym whole_is);
      few = pow-le-pow_right {n = 2} (omega arith) le;
      some = rw q (pow_pos (12 - log));
    }
  where
    back : (log : ℕ) → log ≤ 8 → 12 ≡ 12 - log + log
    back log le = omega arith

pub alias_slots : (counts : List ℕ) (log : ℕ) → log ≤ 8 → length counts ≤ 2 ^ log → sum counts ≡ 4096 → AreSlotsOf counts (buckets_of counts log) (4096 / 2 ^ log)
alias_slots counts log le short sums = by (only_from 0 counts) refl
  where
    by : (o : Option ℕ) → only_from 0 counts ≡ o → AreSlotsOf counts (buckets_with o counts log) (4096 / 2 ^ log)
    by (Some symbol) e =
        let z : symbol - 0 ≡ symbol = omega arith in
        let r : slice_index counts symbol ≡ 4096 = rw z at ((only_is 0 counts symbol e).1) in
        let k = sizes log le in
        only_slots (2 ^ log) (4096 / 2 ^ log) symbol counts sums k.product k.few k.some r
    by None e =
        let k = sizes log le in
        filled_slots (2 ^ log) (4096 / 2 ^ log) counts short sums k.product k.few k.some _ (all_filled (2 ^ log) (4096 / 2 ^ log) counts short (sums ∙ sym k.product))

-- there are 2^log buckets
pub buckets_many : (counts : List ℕ) (log : ℕ) → log ≤ 8 → length counts ≤ 2 ^ log → sum counts ≡ 4096 → length (buckets_of counts log) ≡ 2 ^ log
buckets_many counts log le short sums = by (only_from 0 counts)
  where
    by : (o : Option ℕ) → length (buckets_with o counts log) ≡ 2 ^ log
    by (Some symbol) = only_many symbol (4096 / 2 ^ log) (2 ^ log)
    by None =
        let k = sizes log le in
        (all_filled (2 ^ log) (4096 / 2 ^ log) counts short (sums ∙ sym k.product)).filled.many
