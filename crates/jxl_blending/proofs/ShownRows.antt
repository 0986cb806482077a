-- Rows while samples that are nearest to values are written into them.
use Rattle.std.proofs.Common.{◌≡◌, ℕ, ℤ, pos, ◌+◌, ◌<◌, ◌≤◌, List, length, get_or, set, ◌⊎◌, inl, inr, refl, ◌∙◌, arith}
use Rattle.std.specs.Float.{Float, nan}
use Rattle.std.proofs.lemmas.Bool.{cases_lt}
use Rattle.std.proofs.lemmas.List.{length-set, get_or-set_same, get_or-set_other}
use Rattle.jxl_blending.specs.Scales.{shown}
use Rattle.jxl_blending.specs.declared.scale.Scale.{Scale}

-- this number of samples were written
pub record IsPartlyShown (scale : Scale) (values : List Float) (start i : ℕ) (old new : List ℤ) : Type 0 where
  pub same : length new ≡ length old
  pub inside : (k : ℕ) → k < i → get_or new (start + k) (pos 0) ≡ shown scale (get_or values k nan)
  pub outside : (k : ℕ) → (k < start) ⊎ (start + i ≤ k) → get_or new k (pos 0) ≡ get_or old k (pos 0)

pub none_shown : (scale : Scale) (values : List Float) (start : ℕ) (row : List ℤ) → IsPartlyShown scale values start 0 row row
none_shown scale values start row = record { same = refl; inside = λ k h. absurd (omega (arith, h)); outside = λ k h. refl }

module _ (scale : Scale) (values : List Float) (start i : ℕ) (old new : List ℤ) (v : ℤ) (so_far : IsPartlyShown scale values start i old new) (h : start + i < length old) (is : v ≡ shown scale (get_or values i nan)) where
  here : get_or (set new (start + i) v) (start + i) (pos 0) ≡ shown scale (get_or values i nan)
  here = get_or-set_same new (start + i) v (pos 0) (omega (arith, h, so_far.same)) ∙ is

  at_place : (k : ℕ) → k < i + 1 → (k < i) ⊎ (i ≤ k) → get_or (set new (start + i) v) (start + k) (pos 0) ≡ shown scale (get_or values k nan)
  at_place k lt (inl before) = get_or-set_other new (start + i) (start + k) v (pos 0) (λ e. omega (arith, e, before)) ∙ so_far.inside k before
  at_place k lt (inr ge) = let same : k ≡ i = omega (arith, lt, ge) in rw same here

  elsewhere : (k : ℕ) → (k < start) ⊎ (start + (i + 1) ≤ k) → get_or (set new (start + i) v) k (pos 0) ≡ get_or old k (pos 0)
  elsewhere k (inl lt) = get_or-set_other new (start + i) k v (pos 0) (λ e. omega (arith, e, lt)) ∙ so_far.outside k (inl lt)
  elsewhere k (inr ge) = get_or-set_other new (start + i) k v (pos 0) (λ e. omega (arith, e, ge)) ∙ so_far.outside k (inr (omega (arith, ge)))

  pub shown_more : IsPartlyShown scale values start (i + 1) old (set new (start + i) v)
  shown_more = record {
    same = length-set new (start + i) v ∙ so_far.same;
    inside = λ k lt. at_place k lt (cases_lt k i);
    outside = elsewhere;
  }
