-- Rows while a frame is blended into them.
use Rattle.std.proofs.Common.{◌≡◌, ℕ, ℤ, pos, ◌+◌, ◌<◌, ◌≤◌, List, length, get_or, set, ◌⊎◌, inl, inr, refl, ap, subst, ◌∙◌, arith}
use Rattle.std.specs.Float.{Float, nan}
use Rattle.std.proofs.lemmas.Bool.{cases_lt}
use Rattle.std.proofs.lemmas.List.{length-set, get_or-set_same, get_or-set_other}
use Rattle.jxl_blending.specs.Blends.{blended_value, parts_of}
use Rattle.jxl_blending.specs.Inner.Rows.{IsRowBlended, point_of}
use Rattle.jxl_blending.specs.declared.blending.ChannelBlending.{ChannelBlending}

-- what sample i of a frame makes of a value, with the alpha at this place
abbrev pub made : ChannelBlending → List ℤ → List ℤ → List Float → ℕ → ℕ → Float → Float
made b front front_alpha back_alpha i k v = blended_value b (parts_of b (point_of front front_alpha i)) (record { sample = v; alpha = get_or back_alpha k nan })

-- points with the same numbers
pub same_points : (b : ChannelBlending) (s t a c : ℤ) (u d : Float) → s ≡ t → a ≡ c →
    blended_value b (parts_of b (record { sample = s; alpha = a })) (record { sample = u; alpha = d }) ≡ blended_value b (parts_of b (record { sample = t; alpha = c })) (record { sample = u; alpha = d })
same_points b s t a c u d p q =
    ap (λ (z : ℤ). blended_value b (parts_of b (record { sample = z; alpha = a })) (record { sample = u; alpha = d })) p
    ∙ ap (λ (z : ℤ). blended_value b (parts_of b (record { sample = t; alpha = z })) (record { sample = u; alpha = d })) q

-- this number of samples were blended
pub record IsPartlyBlended (b : ChannelBlending) (start i : ℕ) (front front_alpha : List ℤ) (back_alpha old new : List Float) : Type 0 where
  pub same : length new ≡ length old
  pub inside : (k : ℕ) → k < i → get_or new (start + k) nan ≡ made b front front_alpha back_alpha k (start + k) (get_or old (start + k) nan)
  pub outside : (k : ℕ) → (k < start) ⊎ (start + i ≤ k) → get_or new k nan ≡ get_or old k nan

pub none_blended : (b : ChannelBlending) (start : ℕ) (front front_alpha : List ℤ) (back_alpha row : List Float) → IsPartlyBlended b start 0 front front_alpha back_alpha row row
none_blended b start front front_alpha back_alpha row = record { same = refl; inside = λ k h. absurd (omega (arith, h)); outside = λ k h. refl }

module _ (b : ChannelBlending) (start i : ℕ) (front front_alpha : List ℤ) (back_alpha old new : List Float) (v : Float) (so_far : IsPartlyBlended b start i front front_alpha back_alpha old new)
    (h : start + i < length old) (is : v ≡ made b front front_alpha back_alpha i (start + i) (get_or new (start + i) nan)) where
  here : get_or (set new (start + i) v) (start + i) nan ≡ made b front front_alpha back_alpha i (start + i) (get_or old (start + i) nan)
  here =
      let was = so_far.outside (start + i) (inr (omega arith)) in
      get_or-set_same new (start + i) v nan (omega (arith, h, so_far.same)) ∙ is ∙ ap (λ (u : Float). made b front front_alpha back_alpha i (start + i) u) was

  at_place : (k : ℕ) → k < i + 1 → (k < i) ⊎ (i ≤ k) → get_or (set new (start + i) v) (start + k) nan ≡ made b front front_alpha back_alpha k (start + k) (get_or old (start + k) nan)
  at_place k lt (inl before) = get_or-set_other new (start + i) (start + k) v nan (λ e. omega (arith, e, before)) ∙ so_far.inside k before
  at_place k lt (inr ge) = let same : k ≡ i = omega (arith, lt, ge) in rw same here

  elsewhere : (k : ℕ) → (k < start) ⊎ (start + (i + 1) ≤ k) → get_or (set new (start + i) v) k nan ≡ get_or old k nan
  elsewhere k (inl lt) = get_or-set_other new (start + i) k v nan (λ e. omega (arith, e, lt)) ∙ so_far.outside k (inl lt)
  elsewhere k (inr ge) = get_or-set_other new (start + i) k v nan (λ e. omega (arith, e, ge)) ∙ so_far.outside k (inr (omega (arith, ge)))

  pub blended_more : IsPartlyBlended b start (i + 1) front front_alpha back_alpha old (set new (start + i) v)
  blended_more = record {
    same = length-set new (start + i) v ∙ so_far.same;
    inside = λ k lt. at_place k lt (cases_lt k i);
    outside = elsewhere;
  }

pub all_blended : (b : ChannelBlending) (start : ℕ) (front front_alpha : List ℤ) (back_alpha old new : List Float) → IsPartlyBlended b start (length front) front front_alpha back_alpha old new →
    IsRowBlended b start front front_alpha back_alpha old new
all_blended b start front front_alpha back_alpha old new p = record { same = p.same; inside = p.inside; outside = p.outside }

-- the same of lists that are called otherwise
pub same_lists : (b : ChannelBlending) (start : ℕ) (front front_alpha : List ℤ) (a c o p new : List Float) → a ≡ c → o ≡ p → IsRowBlended b start front front_alpha a o new → IsRowBlended b start front front_alpha c p new
same_lists b start front front_alpha a c o p new e f h =
    subst (λ (l : List Float). IsRowBlended b start front front_alpha c l new) f (subst (λ (l : List Float). IsRowBlended b start front front_alpha l o new) e h)
