-- Which cell a state is at, and which after a sample more.
use Rattle.std.proofs.Common.{◌≡◌, ℕ, ◌+◌, ◌-◌, ◌*◌, ◌<◌, ◌≤◌, inl, inr, ℤ, List, length, reverse, get_or, Some, None, Option, subst, sym, ap, ◌∙◌, arith}
use Rattle.std.specs.Prelude.{slice_get}
use Rattle.std.proofs.lemmas.Bool.{cases_lt}
use Rattle.std.proofs.lemmas.List.{get_or-reverse, length-reverse, reverse-reverse}
use Rattle.std.proofs.lemmas.Option.{slice_get-get_or}
use Rattle.jxlm_weighted.specs.Correcting.{Corrects, IsMade, IsMadeBy, AtPlace, CorrectsAfter, HoldsColumn}
use Rattle.jxlm_weighted.specs.Neighbours.{Neighbours, neighbours, column, row}
use Rattle.jxlm_predictor.specs.Standing.{Setting, StandsAt, column_of, row_of, width_of, earlier_count, earlier_held}
use Rattle.jxlm_weighted.specs.declared.weights.WpHeader.{WpHeader}
use Rattle.jxlm_weighted.specs.declared.self_correcting.Corrector.{Corrector}
use Rattle.jxlm_weighted.specs.declared.self_correcting.PredictionResult.{PredictionResult}
use Rattle.jxlm_predictor.specs.declared.state.PredictorState.{PredictorState}
use Rattle.jxlm_predictor.proofs.Rolling.{column_is, row_is}

-- the next cell is in the row, or at the start of the next row
pub corrects_next : (o p : Option Corrector) (weights : Option WpHeader) (width x y i j : ℕ) (samples : List ℤ) → p ≡ o → CorrectsAfter o weights width x y samples →
    (x + 1 < width → (i ≡ x + 1) × (j ≡ y)) → (width ≤ x + 1 → (i ≡ 0) × (j ≡ y + 1)) → Corrects p weights width i j samples
corrects_next o p weights width x y i j samples same after_it inside ends =
    elim (cases_lt (x + 1) width) [ inl lt ↦ rw (same, (inside lt).0, (inside lt).1) (after_it.0 lt) | inr ge ↦ rw (same, (ends ge).0, (ends ge).1) (after_it.1 ge) ]

-- a corrector that keeps errors at (x, y) has column x
pub holds_column : (o : Option Corrector) (weights : Option WpHeader) (width x y : ℕ) (samples : List ℤ) → Corrects o weights width x y samples → x < width → HoldsColumn o x
holds_column None weights width x y samples h lt = tt
holds_column (Some c) None width x y samples h lt = absurd h
holds_column (Some c) (Some w) width x y samples h lt = rw h.same_width lt

-- what is made of a cell by a corrector that keeps errors there, where there are weights
pub made_there : (o : Option Corrector) (c : Corrector) (r : PredictionResult) (weights : Option WpHeader) (width x y : ℕ) (a : Neighbours) (samples : List ℤ) → o ≡ Some c → Corrects o weights width x y samples →
    length samples ≡ y * width + x → a ≡ neighbours samples width → AtPlace c x y a (IsMadeBy r) → IsMade (Some r) weights width samples
made_there o c r weights width x y a samples is h place around at = of weights (subst (λ (o : Option Corrector). Corrects o weights width x y samples) is h) where
  of : (weights : Option WpHeader) → Corrects (Some c) weights width x y samples → IsMade (Some r) weights width samples
  of None h = absurd h
  of (Some header) h = at header width samples h place around

-- what a cell of a state says of the samples before it
module _ {S : Type 0} (state : PredictorState S) (s : Setting) (samples : List ℤ) (stands : StandsAt state s samples) where
  pub stands_column : column samples s.width ≡ column_of state
  stands_column = column_is _ _ _ _ _ _ _ _ _ _ stands.rolls

  pub stands_row : row samples s.width ≡ row_of state
  stands_row = row_is _ _ _ _ _ _ _ _ _ _ stands.rolls

  pub stands_place : length samples ≡ row_of state * s.width + column_of state
  stands_place = stands.rolls.place

  pub stands_in_row : column_of state < s.width
  stands_in_row = stands.rolls.in_row

  pub stands_width : width_of state ≡ s.width
  stands_width = stands.same_width

  -- as many earlier channels as it has
  pub stands_earlier : earlier_count state ≡ length s.earlier
  stands_earlier = state.earlier.ok.0 ∙ ap length stands.same_earlier ∙ length-reverse s.earlier

  -- and the same ones
  pub stands_earlier_held : earlier_held state ≡ s.earlier
  stands_earlier_held = ap reverse stands.same_earlier ∙ reverse-reverse s.earlier

-- element k of a list that is kept the other way round
pub reversed_at : {X : Type 0} (xs items : List X) (len k : ℕ) (x : X) → items ≡ reverse xs → len ≡ length xs → k < length xs → x ≡ get_or items (len - 1 - k) x → slice_get xs k ≡ Some x
reversed_at xs items len k x is long near read =
    let same = length-reverse xs in
    slice_get-get_or xs k x near
    ∙ ap Some (
    ap (λ l. get_or l k x) (sym (reverse-reverse xs))
    ∙ get_or-reverse (reverse xs) k x (omega (arith, same, near))
    ∙ ap (λ n. get_or (reverse xs) (n - 1 - k) x) (same ∙ sym long)
    ∙ ap (λ l. get_or l (len - 1 - k) x) (sym is)
    ∙ sym read
    )
