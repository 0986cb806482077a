-- Steps of walks over the samples of a part of a channel.
use Rattle.std.proofs.Common.{◌≡◌, ◌<◌, ◌-◌, ◌++◌, ◌∷◌, [], arith, ℕ, ℤ, List, Option, refl, length, subst, sym, ◌∙◌, to_z, of_z, FitsSigned, Bool, true, false, Some}
use Rattle.std.proofs.Math.Nat.{div-le_self}
use Rattle.std.proofs.lemmas.Int.{to_z-of_z}
use Rattle.std.proofs.lemmas.List.{length-append}
use Rattle.std.specs.Int.{w32}
use Rattle.jxlm_base.specs.Grid.{Grid}
use Rattle.jxlm_predictor.specs.Standing.{IsReady, Setting, StandsAt, setting}
use Rattle.jxlm_predictor.specs.declared.state.PredictorState.{PredictorState}
use Rattle.jxlm_weighted.specs.SelfCorrecting.{IsHeader}
use Rattle.jxlm_weighted.specs.WeightsHeader.{default_weights}
use Rattle.jxlm_weighted.specs.declared.weights.WpHeader.{WpHeader}
use Rattle.jxl_encode_properties.specs.Inner.Underway.{IsUnderway}
use Rattle.jxl_encode_properties.specs.Walks.{Progress, Takes, progress, weights_by}

-- the state of a walk is ready for the properties of the next sample
pub is_ready : (state : PredictorState ℤ) (left : ℕ) (store : List (Grid ℤ)) → IsUnderway (progress state left) → IsReady state store
is_ready state left store at = record {
  where_set = setting at.width at.weights [];
  before = at.samples;
  stands = at.after.stands;
  few_rows = let d = div-le_self (length at.samples) at.width in let n = at.after.count in omega arith;
  earlier_hold = λ i d h. absurd (omega arith);
}

-- the walk takes a sample where its state does, and one sample fewer is left
pub takes_one : (state now next : PredictorState ℤ) (left : ℕ) (sample stored : ℤ) → 0 < left → now ≡ state → stored ≡ sample → ((s : Setting) (samples : List ℤ) → StandsAt now s samples → StandsAt next s (samples ++ stored ∷ [])) → Takes (progress state left) (progress next (left - 1)) sample
takes_one state now next left sample stored some same is goes = λ weights width samples at.
    let after = goes (setting width weights []) samples (subst (λ s. StandsAt s (setting width weights []) samples) (sym same) at.stands) in
    record {
      stands = subst (λ z. StandsAt next (setting width weights []) (samples ++ z ∷ [])) is after;
      count = let n = length-append samples (sample ∷ []) in let few = at.count in omega (arith, n, few, some);
    }

-- a walk goes on
pub goes_on : (old new : Progress) (sample : ℤ) → Takes old new sample → IsUnderway old → IsUnderway new
goes_on old new sample takes at = record {
  weights = at.weights;
  width = at.width;
  samples = at.samples ++ sample ∷ [];
  after = takes at.weights at.width at.samples at.after;
}

-- a number that is kept in 32 bits is the same
pub kept : (x y : ℤ) → FitsSigned w32 x → x ≡ y → to_z w32 (of_z w32 x) ≡ y
kept x y fits is = to_z-of_z w32 x fits ∙ is

-- one entry more, before equal lists
pub entry : (x y : ℤ) (xs ys : List ℤ) → FitsSigned w32 x → x ≡ y → xs ≡ ys → (to_z w32 (of_z w32 x) ∷ xs) ≡ (y ∷ ys)
entry x y xs ys fits is rest = rw (kept x y fits is, rest) refl

-- the default weights are those of a header
default_header : IsHeader default_weights
default_header = record { p1 = omega arith; p2 = omega arith; p3a = omega arith; p3b = omega arith; p3c = omega arith; p3d = omega arith; p3e = omega arith; w0 = omega arith; w1 = omega arith; w2 = omega arith; w3 = omega arith }

-- the weights of a walk are those of a header
pub are_header : (weighted : Bool) (x : WpHeader) → weights_by weighted ≡ Some x → IsHeader x
are_header true x is = let e : default_weights ≡ x = cc in subst IsHeader e default_header
are_header false x is = let no : ⊥ = cc in absurd no
