-- How buckets are filled, by places alone: each pair of a symbol and a number below its count has one place in a bucket,
-- and a step moves the last places of a full bucket to a short one.
use Rattle.std.specs.Prelude.{◌≡◌, ◌≢◌, ℕ, ◌+◌, ◌-◌, ◌<◌, ◌≤◌, Bool, true, false, cond, nat_le, ◌==◌, ◌&&◌}
use Rattle.std.proofs.Common.{refl, sym, ap, subst, ◌∙◌, inl, inr, arith}
use Rattle.std.proofs.lemmas.Bool.{cases_lt, cases_eq}
use Rattle.std.proofs.lemmas.Bool.Decides.{nat_tests}

-- a place in a bucket
pub record Place : Type 0 where
  pub bucket : ℕ
  pub place : ℕ

-- Buckets seen by their numbers: how many places of its own each has, of which symbol the others are, and from which
-- number on.
pub record Buckets : Type 0 where
  pub own : ℕ → ℕ
  pub other : ℕ → ℕ
  pub first : ℕ → ℕ

-- what stands at a place
pub record Has (b : Buckets) (at : Place) (symbol number : ℕ) : Type 0 where
  pub its : at.place < b.own at.bucket → (at.bucket ≡ symbol) × (at.place ≡ number)
  pub others : b.own at.bucket ≤ at.place → (b.other at.bucket ≡ symbol) × (b.first at.bucket + (at.place - b.own at.bucket) ≡ number)

-- Each bucket has this number of places, and each place a symbol and a number below its count, one place for each.
pub record Laid (n : ℕ) (count : ℕ → ℕ) (b : Buckets) (size : ℕ → ℕ) (where_is : ℕ → ℕ → Place) : Type 0 where
  pub own_count : (i : ℕ) → i < n → b.own i ≤ count i
  pub own_size : (i : ℕ) → i < n → b.own i ≤ size i
  -- a place of another symbol
  pub other_within : (i place : ℕ) → i < n → b.own i ≤ place → place < size i → (b.other i < n) × (b.first i + (place - b.own i) < count (b.other i))
  -- where each pair is
  pub there : (s k : ℕ) → s < n → k < count s → ((where_is s k).bucket < n) × ((where_is s k).place < size (where_is s k).bucket) × Has b (where_is s k) s k
  -- and that it is nowhere else
  pub own_place : (i place : ℕ) → i < n → place < b.own i → where_is i place ≡ record { bucket = i; place = place }
  pub other_place : (i place : ℕ) → i < n → b.own i ≤ place → place < size i → where_is (b.other i) (b.first i + (place - b.own i)) ≡ record { bucket = i; place = place }

-- one value of a function in the place of another
abbrev pub put : (ℕ → ℕ) → ℕ → ℕ → ℕ → ℕ
put f i v j = cond (j == i) v (f j)

pub put_same : (f : ℕ → ℕ) (i v : ℕ) → put f i v i ≡ v
put_same f i v = let t : (i == i) ≡ true = grind (arith, nat_tests) in rw t refl

pub put_other : (f : ℕ → ℕ) (i v j : ℕ) → j ≢ i → put f i v j ≡ f j
put_other f i v j h = let t : (j == i) ≡ false = grind (arith, nat_tests) in rw t refl

-- a pair that moves: from the full bucket's place on to the short one
abbrev pub moved : ℕ → ℕ → ℕ → ℕ → Place → Place
moved full short kept own at =
    cond (at.bucket == full && nat_le kept at.place) (record { bucket = short; place = own + (at.place - kept) }) at

moved_there : (full short kept own : ℕ) (at : Place) → at.bucket ≡ full → kept ≤ at.place → moved full short kept own at ≡ record { bucket = short; place = own + (at.place - kept) }
moved_there full short kept own at e le =
    let a : (at.bucket == full) ≡ true = grind (arith, nat_tests) in
    let b : nat_le kept at.place ≡ true = grind (arith, nat_tests) in
    rw (a, b) refl

stays_below : (full short kept own : ℕ) (at : Place) → at.place < kept → moved full short kept own at ≡ at
stays_below full short kept own at lt =
    let b : nat_le kept at.place ≡ false = grind (arith, nat_tests) in
    rw b (both (at.bucket == full))
  where
    both : (t : Bool) → cond (t && false) (record { bucket = short; place = own + (at.place - kept) }) at ≡ at
    both true = refl
    both false = refl

stays_away : (full short kept own : ℕ) (at : Place) → at.bucket ≢ full → moved full short kept own at ≡ at
stays_away full short kept own at other =
    let a : (at.bucket == full) ≡ false = grind (arith, nat_tests) in
    rw a refl

-- The step: the full bucket keeps fewer places, which the short one takes behind its own.
module _ (n each : ℕ) (count : ℕ → ℕ) (b after : Buckets) (size : ℕ → ℕ) (where_is : ℕ → ℕ → Place) (h : Laid n count b size where_is)
    (full short kept : ℕ) (full_in : full < n) (short_in : short < n) (apart : full ≢ short)
    (full_own : b.own full ≡ size full) (short_own : b.own short ≡ size short) (is_full : each < size full) (is_short : size short < each)
    (keeps : kept + each ≡ b.own full + b.own short)
    (own_full : after.own full ≡ kept) (own_else : (i : ℕ) → i ≢ full → after.own i ≡ b.own i)
    (other_short : after.other short ≡ full) (other_else : (i : ℕ) → i ≢ short → after.other i ≡ b.other i)
    (first_short : after.first short ≡ kept) (first_else : (i : ℕ) → i ≢ short → after.first i ≡ b.first i) where
  abbrev pub after_size : ℕ → ℕ
  after_size i = put (put size full kept) short each i

  abbrev pub after_where : ℕ → ℕ → Place
  after_where s k = moved full short kept (b.own short) (where_is s k)

  lower : kept < b.own full
  lower = omega arith

  turned : short ≢ full
  turned e = apart (sym e)

  own_short : after.own short ≡ b.own short
  own_short = own_else short turned

  pub size_short : after_size short ≡ each
  size_short = put_same (put size full kept) short each

  pub size_full : after_size full ≡ kept
  size_full = put_other (put size full kept) short each full apart ∙ put_same size full kept

  pub size_else : (i : ℕ) → i ≢ full → i ≢ short → after_size i ≡ size i
  size_else i a c = put_other (put size full kept) short each i c ∙ put_other size full kept i a

  -- a bucket is the full one, the short one, or another
  by_which : (P : ℕ → Type 0) → P full → P short → ((i : ℕ) → i ≢ full → i ≢ short → P i) → (i : ℕ) → P i
  by_which P f s o i =
      elim (cases_eq i full) [
        | inl e ↦ subst P (sym e) f
        | inr a ↦ elim (cases_eq i short) [ inl e ↦ subst P (sym e) s | inr c ↦ o i a c ]
      ]

  count_after : (i : ℕ) → i < n → after.own i ≤ count i
  count_after = by_which (λ i. i < n → after.own i ≤ count i)
      (λ lt. let m = h.own_count full lt in rw own_full (omega (arith, m, lower)))
      (λ lt. rw own_short (h.own_count short lt))
      (λ i a c lt. rw (own_else i a) (h.own_count i lt))

  size_after : (i : ℕ) → i < n → after.own i ≤ after_size i
  size_after = by_which (λ i. i < n → after.own i ≤ after_size i)
      (λ lt. rw (own_full, size_full) (omega arith))
      (λ lt. rw (own_short, size_short) (omega (arith, short_own, is_short)))
      (λ i a c lt. rw (own_else i a, size_else i a c) (h.own_size i lt))

  -- the numbers that move
  number_below : (place : ℕ) → b.own short ≤ place → place < each → kept + (place - b.own short) < b.own full
  number_below place le lt = omega arith

  no_other : (place : ℕ) → after.own full ≤ place → place < after_size full → ⊥
  no_other place le lt =
      let a : kept ≤ place = rw own_full at le in
      let c : place < kept = rw size_full at lt in
      omega arith

  abbrev OtherWithin : ℕ → Type 0
  OtherWithin i = (place : ℕ) → i < n → after.own i ≤ place → place < after_size i → (after.other i < n) × (after.first i + (place - after.own i) < count (after.other i))

  other_after : (i : ℕ) → OtherWithin i
  other_after = by_which OtherWithin
      (λ place lt le less. absurd (no_other place le less))
      (λ place lt le less.
      let low : b.own short ≤ place = rw own_short at le in
      let high : place < each = rw size_short at less in
      let m = h.own_count full full_in in
      let k = number_below place low high in
      rw (other_short, first_short, own_short) (full_in, omega (arith, m, k)))
      (λ i a c place lt le less. rw (other_else i c, first_else i c, own_else i a) (h.other_within i place lt (rw (own_else i a) at le) (rw (size_else i a c) at less)))

  abbrev OwnPlace : ℕ → Type 0
  OwnPlace i = (place : ℕ) → i < n → place < after.own i → after_where i place ≡ record { bucket = i; place = place }

  own_place_after : (i : ℕ) → OwnPlace i
  own_place_after = by_which OwnPlace
      (λ place lt less.
      let low : place < kept = rw own_full at less in
      rw (h.own_place full place full_in (omega arith)) (stays_below full short kept (b.own short) (record { bucket = full; place = place }) low))
      (λ place lt less.
      rw (h.own_place short place short_in (rw own_short at less)) (stays_away full short kept (b.own short) (record { bucket = short; place = place }) turned))
      (λ i a c place lt less.
      rw (h.own_place i place lt (rw (own_else i a) at less)) (stays_away full short kept (b.own short) (record { bucket = i; place = place }) a))

  abbrev OtherPlace : ℕ → Type 0
  OtherPlace i = (place : ℕ) → i < n → after.own i ≤ place → place < after_size i → after_where (after.other i) (after.first i + (place - after.own i)) ≡ record { bucket = i; place = place }

  arrived : (place : ℕ) → b.own short ≤ place → after_where full (kept + (place - b.own short)) ≡ record { bucket = short; place = place } → after_where (after.other short) (after.first short + (place - after.own short)) ≡ record { bucket = short; place = place }
  arrived place le e = rw (other_short, first_short, own_short) e

  back : (place : ℕ) → b.own short ≤ place → b.own short + (kept + (place - b.own short) - kept) ≡ place
  back place le = omega arith

  other_place_after : (i : ℕ) → OtherPlace i
  other_place_after = by_which OtherPlace
      (λ place lt le less. absurd (no_other place le less))
      (λ place lt le less.
      let low : b.own short ≤ place = rw own_short at le in
      let high : place < each = rw size_short at less in
      let at = h.own_place full (kept + (place - b.own short)) full_in (number_below place low high) in
      arrived place low (rw at (moved_there full short kept (b.own short) (record { bucket = full; place = kept + (place - b.own short) }) refl (omega arith)
      ∙ ap (λ (m : ℕ). record { bucket = short; place = m }) (back place low))))
      (λ i a c place lt le less.
      let low : b.own i ≤ place = rw (own_else i a) at le in
      let high : place < size i = rw (size_else i a c) at less in
      rw (other_else i c, first_else i c, own_else i a, h.other_place i place lt low high) (stays_away full short kept (b.own short) (record { bucket = i; place = place }) a))

  -- where a pair is now
  record Arrived (at : Place) (s k : ℕ) : Type 0 where
    bucket_in : at.bucket < n
    place_in : at.place < after_size at.bucket
    has : Has after at s k

  abbrev Arrives : ℕ → Type 0
  Arrives i = (place s k : ℕ) → i < n → place < size i → Has b (record { bucket = i; place = place }) s k → Arrived (moved full short kept (b.own short) (record { bucket = i; place = place })) s k

  stayed : (place s k : ℕ) → place < kept → (full ≡ s) × (place ≡ k) → Arrived (record { bucket = full; place = place }) s k
  stayed place s k lt e = record {
    bucket_in = full_in;
    place_in = rw size_full lt;
    has = record {
      its = λ _. e;
      others = λ le. absurd (omega (arith, (rw own_full at le), lt));
    };
  }

  went : (place s k : ℕ) → kept ≤ place → place < b.own full → (full ≡ s) × (place ≡ k) → Arrived (record { bucket = short; place = b.own short + (place - kept) }) s k
  went place s k le lt e = record {
    bucket_in = short_in;
    place_in = rw size_short (omega arith);
    has = record {
      its = λ less. let m : b.own short + (place - kept) < b.own short = rw own_short at less in absurd (omega arith);
      others = λ _. (other_short ∙ e.0, rw (first_short, own_short) (omega (arith, e.1)));
    };
  }

  arrives : (i : ℕ) → Arrives i
  arrives = by_which Arrives
      (λ place s k lt less has.
      let m : place < b.own full = rw full_own less in
      let its = has.its m in
      elim (cases_lt place kept) [
        | inl low ↦ rw (stays_below full short kept (b.own short) (record { bucket = full; place = place }) low) (stayed place s k low its)
        | inr high ↦ rw (moved_there full short kept (b.own short) (record { bucket = full; place = place }) refl high) (went place s k high m its)
      ])
      (λ place s k lt less has.
      let m : place < b.own short = rw short_own less in
      rw (stays_away full short kept (b.own short) (record { bucket = short; place = place }) turned) (record {
        bucket_in = short_in;
        place_in = rw size_short (omega arith);
        has = record {
          its = λ _. has.its m;
          others = λ le. let c : b.own short ≤ place = rw own_short at le in absurd (omega arith);
        };
      }))
      (λ i a c place s k lt less has.
      rw (stays_away full short kept (b.own short) (record { bucket = i; place = place }) a) (record {
        bucket_in = lt;
        place_in = rw (size_else i a c) less;
        has = record {
          its = λ low. has.its (rw (own_else i a) at low);
          others = λ le. rw (other_else i c, first_else i c, own_else i a) (has.others (rw (own_else i a) at le));
        };
      }))

  pub laid_after : Laid n count after after_size after_where
  laid_after = record {
    own_count = count_after;
    own_size = size_after;
    other_within = other_after;
    there = λ s k ls lk.
        let t = h.there s k ls lk in
        let r = arrives (where_is s k).bucket (where_is s k).place s k t.0 t.1 t.2 in
        (r.bucket_in, r.place_in, r.has);
    own_place = own_place_after;
    other_place = other_place_after;
  }
