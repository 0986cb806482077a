-- Rows into which samples are mixed.
use Rattle.std.proofs.Common.{◌≡◌, ℕ, ℤ, pos, ◌+◌, ◌-◌, ◌<◌, ◌≤◌, List, ◌++◌, length, get_or, take, drop, set, ◌⊎◌, inl, inr, refl, ap, ◌∙◌, arith}
use Rattle.std.proofs.lemmas.Bool.{cases_lt}
use Rattle.std.proofs.lemmas.List.{length-append, length-take-le, length-drop, length-set, get_or-append-add, get_or-append_right, get_or_append_left, get_or-take, get_or-drop, get_or-set_same, get_or-set_other}
use Rattle.std.specs.Prelude.{Bool}
use Rattle.jxl_blending.specs.declared.blending.ChannelBlending.{ChannelBlending}
use Rattle.jxl_patches.specs.Patched.{layered_sample}
use Rattle.jxl_patches.specs.Inner.Rows.{IsRowMixed}

pub kept_row : (start n : ℕ) (row : List ℤ) → IsRowMixed (λ i v. v) start n row row
kept_row start n row = record { same = refl; inside = λ i h. refl; outside = λ i h. refl }

module _ (old from new : List ℤ) (start finish : ℕ) (e : start + length from ≡ finish) (fits : finish ≤ length old) (is : new ≡ take start old ++ (from ++ drop finish old)) where
  front : length (take start old) ≡ start
  front = length-take-le start old (omega (arith, e, fits))

  within : (i : ℕ) → i < length from → get_or new (start + i) (pos 0) ≡ get_or from i (pos 0)
  within i h =
      let k : start + i ≡ length (take start old) + i = omega (arith, front) in
      rw is (ap (λ (n : ℕ). get_or (take start old ++ (from ++ drop finish old)) n (pos 0)) k ∙ get_or-append-add (take start old) (from ++ drop finish old) i (pos 0)
      ∙ get_or_append_left from (drop finish old) (pos 0) i h)

  beyond : (i : ℕ) → (i < start) ⊎ (start + length from ≤ i) → get_or new i (pos 0) ≡ get_or old i (pos 0)
  beyond i (inl lt) =
      rw is (get_or_append_left (take start old) (from ++ drop finish old) (pos 0) i (omega (arith, front, lt)) ∙ get_or-take start old i (pos 0) lt)
  beyond i (inr ge) =
      let k : finish + (i - start - length from) ≡ i = omega (arith, e, ge) in
      rw is (get_or-append_right (take start old) (from ++ drop finish old) start i (pos 0) front (omega (arith, ge))
      ∙ get_or-append_right from (drop finish old) (length from) (i - start) (pos 0) refl (omega (arith, ge))
      ∙ get_or-drop finish old (i - start - length from) (pos 0) ∙ ap (λ (n : ℕ). get_or old n (pos 0)) k)

  pub replaced_row : IsRowMixed (λ i v. get_or from i (pos 0)) start (length from) old new
  replaced_row = record {
    same = let l = length-append (take start old) (from ++ drop finish old) in let m = length-append from (drop finish old) in let n = length-drop finish old in
        ap length is ∙ omega (arith, l, m, n, front, e, fits);
    inside = within;
    outside = beyond;
  }

-- ---- sample after sample

pub none_mixed : (f : ℕ → ℤ → ℤ) (start : ℕ) (row : List ℤ) → IsRowMixed f start 0 row row
none_mixed f start row = record { same = refl; inside = λ k h. absurd (omega (arith, h)); outside = λ k h. refl }

module _ (f : ℕ → ℤ → ℤ) (start i : ℕ) (old new : List ℤ) (v : ℤ) (so_far : IsRowMixed f start i old new) (h : start + i < length old) (is : v ≡ f i (get_or new (start + i) (pos 0))) where
  here : get_or (set new (start + i) v) (start + i) (pos 0) ≡ f i (get_or old (start + i) (pos 0))
  here =
      let was = so_far.outside (start + i) (inr (omega arith)) in
      get_or-set_same new (start + i) v (pos 0) (omega (arith, h, so_far.same)) ∙ is ∙ ap (λ (u : ℤ). f i u) was

  at_place : (k : ℕ) → k < i + 1 → (k < i) ⊎ (i ≤ k) → get_or (set new (start + i) v) (start + k) (pos 0) ≡ f k (get_or old (start + k) (pos 0))
  at_place k lt (inl before) = get_or-set_other new (start + i) (start + k) v (pos 0) (λ e. omega (arith, e, before)) ∙ so_far.inside k before
  at_place k lt (inr ge) = let same : k ≡ i = omega (arith, lt, ge) in rw same here

  elsewhere : (k : ℕ) → (k < start) ⊎ (start + (i + 1) ≤ k) → get_or (set new (start + i) v) k (pos 0) ≡ get_or old k (pos 0)
  elsewhere k (inl lt) = get_or-set_other new (start + i) k v (pos 0) (λ e. omega (arith, e, lt)) ∙ so_far.outside k (inl lt)
  elsewhere k (inr ge) = get_or-set_other new (start + i) k v (pos 0) (λ e. omega (arith, e, ge)) ∙ so_far.outside k (inr (omega (arith, ge)))

  pub mixed_more : IsRowMixed f start (i + 1) old (set new (start + i) v)
  mixed_more = record {
    same = length-set new (start + i) v ∙ so_far.same;
    inside = λ k lt. at_place k lt (cases_lt k i);
    outside = elsewhere;
  }

-- points with the same numbers
pub same_points : (b : ChannelBlending) (below : Bool) (s t a c u v d e : ℤ) → s ≡ t → a ≡ c → u ≡ v → d ≡ e →
    layered_sample b below (record { sample = s; alpha = a }) (record { sample = u; alpha = d }) ≡ layered_sample b below (record { sample = t; alpha = c }) (record { sample = v; alpha = e })
same_points b below s t a c u v d e p q r w =
    ap (λ (z : ℤ). layered_sample b below (record { sample = z; alpha = a }) (record { sample = u; alpha = d })) p
    ∙ ap (λ (z : ℤ). layered_sample b below (record { sample = t; alpha = z }) (record { sample = u; alpha = d })) q
    ∙ ap (λ (z : ℤ). layered_sample b below (record { sample = t; alpha = c }) (record { sample = z; alpha = d })) r
    ∙ ap (λ (z : ℤ). layered_sample b below (record { sample = t; alpha = c }) (record { sample = v; alpha = z })) w
