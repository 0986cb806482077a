-- Rows of three channels, coded cell by cell.
use Rattle.std.proofs.Common.{◌≡◌, ℕ, ◌+◌, ◌<◌, ℤ, List, length, set, ◌∙◌, arith}
use Rattle.jxlm_lanes.specs.Colour.{Triple, triple}
use Rattle.jxlm_lanes.proofs.ColourLaws.{triple_same}
use Rattle.jxlm_encode_transform.specs.Inner.ColourRows.{AreCoded, triple_in}
use Rattle.jxlm_encode_transform.proofs.Numbers.{below_next, number_set_same, number_set_other}

module _ {S : Type 0} (f : S → ℤ) (code : Triple → Triple) (x y z : List S) where
  pub coded_none : (a b c : List S) → AreCoded f code x y z a b c 0
  coded_none a b c i lt = absurd (omega arith)

  -- one cell more is coded
  pub coded_next : (a b c : List S) (i : ℕ) (u v t : S) → i < length a → i < length b → i < length c → triple (f u) (f v) (f t) ≡ code (triple_in f x y z i) → AreCoded f code x y z a b c i →
      AreCoded f code x y z (set a i u) (set b i v) (set c i t) (i + 1)
  coded_next a b c i u v t la lb lc is so_far =
      below_next (λ k. triple_in f (set a i u) (set b i v) (set c i t) k ≡ code (triple_in f x y z k)) i
      (λ k l. triple_same _ _ _ _ _ _ (number_set_other f a i k u (omega arith)) (number_set_other f b i k v (omega arith)) (number_set_other f c i k t (omega arith)) ∙ so_far k l)
      (triple_same _ _ _ _ _ _ (number_set_same f a i u la) (number_set_same f b i v lb) (number_set_same f c i t lc) ∙ is)
