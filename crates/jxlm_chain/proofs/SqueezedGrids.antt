-- A grid of samples is decided by its averages and residuals.
use Rattle.std.proofs.Common.{◌≡◌, ℕ, ◌-◌, ◌/◌, ◌<◌, Bool, true, false, cond, inl, inr, List, [], ◌∷◌, ℤ, Some, FitsSigned, map, sym, refl, ap, ◌∙◌, subst, arith}
use Rattle.std.specs.List.{AllZip}
use Rattle.std.specs.Int.{Width}
use Rattle.std.proofs.lemmas.Bool.{cases_lt, lt-ltb, le-ltb}
use Rattle.jxlm_base.specs.Grid.{Grid, grid_by, at}
use Rattle.jxlm_lanes.specs.Squeeze.{averages, average_at, residual_at, squeezed, AreSamples, AreSame}
use Rattle.jxlm_base.proofs.Cells.{grid_same}
use Rattle.jxlm_base.proofs.GridLaws.{at-grid_by, cell_from_at}
use Rattle.jxlm_lanes.proofs.SqueezeLaws.{squeeze_loses_nothing}
use Rattle.jxlm_transform.specs.Channels.{Channel}
use Rattle.jxlm_inverse.specs.UndoneSqueeze.{average_grid, residual_grid}
use Rattle.jxlm_chain.proofs.SampleGrids.{IsGridOf}
use Rattle.jxlm_chain.proofs.ListLaws.{heads, tails}

-- a row is decided by its averages and residuals
module _ (w : Width) (n : ℕ) (a b : ℕ → ℤ) where
  halves_are_all : ((i : ℕ) → i < averages n → average_at w n a i ≡ average_at w n b i) → ((i : ℕ) → i < n / 2 → residual_at w n a i ≡ residual_at w n b i) →
      AreSame n (squeezed w n a) (squeezed w n b)
  halves_are_all m r i h =
      elim (cases_lt i (averages n)) [
        | inl lt ↦
            ap (λ (t : Bool). cond t (average_at w n a i) (residual_at w n a (i - averages n))) (lt-ltb i (averages n) lt) ∙ m i lt
            ∙ sym (ap (λ (t : Bool). cond t (average_at w n b i) (residual_at w n b (i - averages n))) (lt-ltb i (averages n) lt))
        | inr ge ↦
            ap (λ (t : Bool). cond t (average_at w n a i) (residual_at w n a (i - averages n))) (le-ltb i (averages n) ge) ∙ r (i - averages n) (omega arith)
            ∙ sym (ap (λ (t : Bool). cond t (average_at w n b i) (residual_at w n b (i - averages n))) (le-ltb i (averages n) ge))
      ]

  line_same : AreSamples w n a → AreSamples w n b → ((i : ℕ) → i < averages n → average_at w n a i ≡ average_at w n b i) →
      ((i : ℕ) → i < n / 2 → residual_at w n a i ≡ residual_at w n b i) → AreSame n a b
  line_same f g m r = (squeeze_loses_nothing w).one n a b f g (halves_are_all m r)

module _ (w : Width) (c : Channel) where
  pub fits_at : (g : Grid ℤ) → IsGridOf w c g → (x y : ℕ) → x < c.width → y < c.height → FitsSigned w (at g x y)
  fits_at g is x y p q = is.samples x y (subst (λ n. x < n) (sym is.same_width) p) (subst (λ n. y < n) (sym is.same_height) q)

  -- two grids of a channel with the same numbers are the same
  pub grids_same : (g h : Grid ℤ) → IsGridOf w c g → IsGridOf w c h → ((x y : ℕ) → x < c.width → y < c.height → at g x y ≡ at h x y) → g ≡ h
  grids_same g h a b same =
      grid_same g h a.full b.full (a.same_width ∙ sym b.same_width) (a.same_height ∙ sym b.same_height) (λ x y p q.
      let p' : x < c.width = subst (λ n. x < n) a.same_width p in
      let q' : y < c.height = subst (λ n. y < n) a.same_height q in
      cell_from_at g x y a.full p q ∙ ap Some (same x y p' q')
      ∙ sym (cell_from_at h x y b.full (subst (λ n. x < n) (sym b.same_width) p') (subst (λ n. y < n) (sym b.same_height) q')))

  -- the numbers of a grid that is made by coordinates
  pub made_at : (m n k l x y : ℕ) (f : ℕ → ℕ → ℤ) → m ≡ k → n ≡ l → x < k → y < l → at (grid_by m n f) x y ≡ f x y
  made_at m n k l x y f e d p q = at-grid_by m n f x y (subst (λ i. x < i) (sym e) p) (subst (λ i. y < i) (sym d) q)

  average_across : (g : Grid ℤ) → IsGridOf w c g → (x y : ℕ) → x < averages c.width → y < c.height → at (average_grid w true g) x y ≡ average_at w c.width (λ i. at g i y) x
  average_across g is x y p q =
      made_at (averages g.width) g.height (averages c.width) c.height x y (λ x y. average_at w g.width (λ i. at g i y) x) (ap averages is.same_width) is.same_height p q
      ∙ ap (λ n. average_at w n (λ i. at g i y) x) is.same_width

  residual_across : (g : Grid ℤ) → IsGridOf w c g → (x y : ℕ) → x < c.width / 2 → y < c.height → at (residual_grid w true g) x y ≡ residual_at w c.width (λ i. at g i y) x
  residual_across g is x y p q =
      made_at (g.width / 2) g.height (c.width / 2) c.height x y (λ x y. residual_at w g.width (λ i. at g i y) x) (ap (λ n. n / 2) is.same_width) is.same_height p q
      ∙ ap (λ n. residual_at w n (λ i. at g i y) x) is.same_width

  average_down : (g : Grid ℤ) → IsGridOf w c g → (x y : ℕ) → x < c.width → y < averages c.height → at (average_grid w false g) x y ≡ average_at w c.height (λ i. at g x i) y
  average_down g is x y p q =
      made_at g.width (averages g.height) c.width (averages c.height) x y (λ x y. average_at w g.height (λ i. at g x i) y) is.same_width (ap averages is.same_height) p q
      ∙ ap (λ n. average_at w n (λ i. at g x i) y) is.same_height

  residual_down : (g : Grid ℤ) → IsGridOf w c g → (x y : ℕ) → x < c.width → y < c.height / 2 → at (residual_grid w false g) x y ≡ residual_at w c.height (λ i. at g x i) y
  residual_down g is x y p q =
      made_at g.width (g.height / 2) c.width (c.height / 2) x y (λ x y. residual_at w g.height (λ i. at g x i) y) is.same_width (ap (λ n. n / 2) is.same_height) p q
      ∙ ap (λ n. residual_at w n (λ i. at g x i) y) is.same_height

  -- a grid is decided by its averages and residuals
  squeezed_same : (horizontal : Bool) (g h : Grid ℤ) → IsGridOf w c g → IsGridOf w c h → average_grid w horizontal g ≡ average_grid w horizontal h → residual_grid w horizontal g ≡ residual_grid w horizontal h → g ≡ h
  squeezed_same true g h a b m r =
      grids_same g h a b (λ x y p q.
      line_same w c.width (λ i. at g i y) (λ i. at h i y) (λ i l. fits_at g a i y l q) (λ i l. fits_at h b i y l q)
      (λ i l. sym (average_across g a i y l q) ∙ ap (λ k. at k i y) m ∙ average_across h b i y l q)
      (λ i l. sym (residual_across g a i y l q) ∙ ap (λ k. at k i y) r ∙ residual_across h b i y l q) x p)
  squeezed_same false g h a b m r =
      grids_same g h a b (λ x y p q.
      line_same w c.height (λ i. at g x i) (λ i. at h x i) (λ i l. fits_at g a x i p l) (λ i l. fits_at h b x i p l)
      (λ i l. sym (average_down g a x i p l) ∙ ap (λ k. at k x i) m ∙ average_down h b x i p l)
      (λ i l. sym (residual_down g a x i p l) ∙ ap (λ k. at k x i) r ∙ residual_down h b x i p l) y q)

-- so is a list of grids
pub halves_same : (w : Width) (horizontal : Bool) (cs : List Channel) (gs hs : List (Grid ℤ)) → AllZip (IsGridOf w) cs gs → AllZip (IsGridOf w) cs hs →
    map (average_grid w horizontal) gs ≡ map (average_grid w horizontal) hs → map (residual_grid w horizontal) gs ≡ map (residual_grid w horizontal) hs → gs ≡ hs
halves_same w horizontal [] [] [] a b m r = refl
halves_same w horizontal [] [] (h ∷ hs) a b m r = absurd b
halves_same w horizontal [] (g ∷ gs) hs a b m r = absurd a
halves_same w horizontal (c ∷ cs) [] hs a b m r = absurd a
halves_same w horizontal (c ∷ cs) (g ∷ gs) [] a b m r = absurd b
halves_same w horizontal (c ∷ cs) (g ∷ gs) (h ∷ hs) a b m r =
    ap (λ z. z ∷ gs) (squeezed_same w c horizontal g h a.0 b.0 (heads _ _ _ _ m) (heads _ _ _ _ r))
    ∙ ap (λ zs. h ∷ zs) (halves_same w horizontal cs gs hs a.1 b.1 (tails _ _ _ _ m) (tails _ _ _ _ r))
