-- Errors are known from the samples before: a later sample changes none of them.
use Rattle.std.proofs.Common.{◌≡◌, ℕ, zero, suc, ◌<◌, ◌≤◌, List, take, refl, sym, ap, ◌∙◌, arith, ℤ, pos, get_or}
use Rattle.std.specs.Prelude.{slice_index_or}
use Rattle.std.proofs.lemmas.List.{take-take, get_or-take}
use Rattle.jxlm_weighted.specs.SelfCorrecting.{errors_of}
use Rattle.jxlm_weighted.specs.declared.weights.WpHeader.{WpHeader}

module _ (header : WpHeader) (width : ℕ) where
  -- the errors of the first i samples depend on these alone
  pub errors_same : (xs ys : List ℤ) (i : ℕ) → take i xs ≡ take i ys → errors_of header xs width i ≡ errors_of header ys width i
  errors_same xs ys zero h = refl
  errors_same xs ys (suc i) h =
      let l : i ≤ suc i = omega arith in
      let w : i < suc i = omega arith in
      let before : take i xs ≡ take i ys = sym (take-take i (suc i) xs l) ∙ ap (take i) h ∙ take-take i (suc i) ys l in
      let cell : slice_index_or xs i (pos 0) ≡ slice_index_or ys i (pos 0) = sym (get_or-take (suc i) xs i (pos 0) w) ∙ ap (λ zs. get_or zs i (pos 0)) h ∙ get_or-take (suc i) ys i (pos 0) w in
      rw (errors_same xs ys i before, before, cell) refl
