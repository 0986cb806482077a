-- The residuals of the header, one more at a time.
use Rattle.std.proofs.Common.{◌≡◌, ℕ, ◌+◌, ◌%◌, ◌<◌, List, [], ◌∷◌, ◌++◌, length, take, inl, inr, sym, ap, subst, ◌∙◌, arith}
use Rattle.std.specs.Prelude.{slice_index}
use Rattle.std.proofs.lemmas.Bool.{cases_lt}
use Rattle.std.proofs.lemmas.List.{get_or_append_left, get_or_push, length_push}
use Rattle.jxl_icc.specs.Header.{predicted}
use Rattle.jxl_icc_write.specs.Inner.Streams.{AreResiduals}

pub no_residuals : (icc : List ℕ) → AreResiduals icc []
no_residuals icc = record { short = omega arith; each = λ i lt. absurd (omega (arith, lt)) }

pub residuals_next : (icc old new before : List ℕ) (b size i : ℕ) → AreResiduals icc old → length old ≡ i → i < length icc → size ≡ length icc → before ≡ take i icc →
    (b + predicted size before i) % 256 ≡ slice_index icc i → new ≡ old ++ b ∷ [] → AreResiduals icc new
residuals_next icc old new before b size i are here inside same is byte e =
    subst (AreResiduals icc) (sym e) (record {
      short = let l = length_push old b in omega (arith, l, here, inside);
      each = λ k lt.
          let l = length_push old b in
          elim (cases_lt k (length old)) [
            | inl below ↦
                ap (λ (x : ℕ). (x + predicted (length icc) (take k icc) k) % 256) (get_or_append_left old (b ∷ []) 0 k below) ∙ are.each k below
            | inr above ↦
                let at : k ≡ i = omega (arith, l, lt, above, here) in
                let first : before ≡ take k icc = is ∙ ap (λ (n : ℕ). take n icc) (sym at) in
                ap (λ (x : ℕ). (x + predicted (length icc) (take k icc) k) % 256) (get_or_push old b 0 k (omega (arith, above, lt, l)))
                ∙ ap (λ (n : ℕ). (b + predicted n (take k icc) k) % 256) (sym same)
                ∙ ap (λ (xs : List ℕ). (b + predicted size xs k) % 256) (sym first)
                ∙ ap (λ (n : ℕ). (b + predicted size before n) % 256) at
                ∙ byte ∙ ap (slice_index icc) (sym at)
          ];
    })
