-- The ends of regions after a step.
use Rattle.std.proofs.Common.{◌≡◌, ℕ, ◌+◌, ◌^◌, ◌<◌, Bool, true, false, List, [], ◌∷◌, ◌++◌, map, take, drop, subst, sym, arith, refl, ◌∙◌, Result, Ok, Err, IfOk, IfErr}
use Rattle.std.specs.List.{All}
use Rattle.std.proofs.lemmas.List.Elements.{All-cons, All-nil, All-append}
use Rattle.jxlm_base.specs.Regions.{region}
use Rattle.jxlm_base.specs.declared.subgrid.Region.{Region}
use Rattle.jxlm_transform.specs.ChannelSteps.{range, with_halves}
use Rattle.jxlm_transform.specs.declared.transform.SqueezeParams.{SqueezeParams}
use Rattle.jxlm_transform.specs.SqueezedRegions.{average_region, residual_region}
use Rattle.jxlm_transform.specs.Ends.{HasEnds}
use Rattle.jxlm_transform.proofs.RangeParts.{all_first, all_halves, all_range}

average_ends : (horizontal : Bool) (r : Region) → HasEnds r → HasEnds (average_region horizontal r)
average_ends true r h = let c = h.column in record { column = omega arith; row = h.row }
average_ends false r h = let c = h.row in record { column = h.column; row = omega arith }

residual_ends : (horizontal : Bool) (r : Region) → HasEnds r → HasEnds (residual_region horizontal r)
residual_ends true r h = let c = h.column in record { column = omega arith; row = h.row }
residual_ends false r h = let c = h.row in record { column = h.column; row = omega arith }

-- after a squeeze step
pub halves_end : (t : SqueezeParams) (rs new : List Region) → All HasEnds rs →
    new ≡ with_halves t (map (average_region t.horizontal) (range t.begin_c t.num_c rs)) (map (residual_region t.horizontal) (range t.begin_c t.num_c rs)) rs → All HasEnds new
halves_end t rs new ends is =
    subst (All HasEnds) (sym is) (all_halves HasEnds t (average_region t.horizontal) (residual_region t.horizontal) rs (average_ends t.horizontal) (residual_ends t.horizontal) ends)

-- and after a call that put the halves of a range into a list, or left it as it was
pub call_ends : {U E : Type 0} (t : SqueezeParams) (rs seen us averages residuals new : List Region) (r : Result U E) → All HasEnds rs → seen ≡ rs → us ≡ averages →
    averages ≡ map (average_region t.horizontal) (range t.begin_c t.num_c seen) → residuals ≡ map (residual_region t.horizontal) (range t.begin_c t.num_c seen) →
    IfOk r (λ _. new ≡ with_halves t us residuals rs) → IfErr r (λ _. new ≡ rs) → All HasEnds new
call_ends t rs seen us averages residuals new (Ok u) ends same same_us a r gives unchanged = halves_end t rs new ends (gives ∙ rw (same_us, a, r, same) refl)
call_ends t rs seen us averages residuals new (Err e) ends same same_us a r gives unchanged = subst (All HasEnds) (sym unchanged) ends

-- of a range
pub range_ends : (begin n : ℕ) (rs : List Region) → All HasEnds rs → All HasEnds (range begin n rs)
range_ends begin n rs ends = all_range HasEnds begin n rs ends

-- after a palette
pub first_ends : (begin n colours rows buffer : ℕ) (rs new : List Region) → All HasEnds rs → colours < 2 ^ 32 → rows < 2 ^ 32 →
    new ≡ region buffer 0 0 colours rows ∷ (take (begin + 1) rs ++ drop (begin + n) rs) → All HasEnds new
first_ends begin n colours rows buffer rs new ends c r is =
    subst (All HasEnds) (sym is)
    (All-cons HasEnds (region buffer 0 0 colours rows) (take (begin + 1) rs ++ drop (begin + n) rs) (record { column = omega arith; row = omega arith }) (all_first HasEnds begin n rs ends))

-- of one more
pub ends_push : (rs : List Region) (r : Region) → All HasEnds rs → HasEnds r → All HasEnds (rs ++ r ∷ [])
ends_push rs r ends end = All-append HasEnds rs (r ∷ []) ends (All-cons HasEnds r [] end (All-nil HasEnds))
