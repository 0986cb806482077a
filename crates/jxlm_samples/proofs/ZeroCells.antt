-- Rows that are filled with one sample.
use Rattle.std.proofs.Common.{◌≡◌, ℕ, zero, suc, ◌+◌, ◌<◌, ◌≤◌, ◌⊎◌, inl, inr, List, Contains, length, Some, refl, sym, ap, ◌∙◌, subst, arith, ℤ, pos}
use Rattle.std.specs.Prelude.{replicate, slice_get}
use Rattle.std.specs.Int.{Width}
use Rattle.std.proofs.lemmas.List.{get_or-replicate, length-replicate}
use Rattle.std.proofs.lemmas.Option.{slice_get-get_or}
use Rattle.jxlm_bits.specs.Bits.{bytes_of, position_of}
use Rattle.jxlm_bits.specs.Decoding.{IsLawful, Meaning}
use Rattle.jxlm_predictor.specs.declared.predictor.Predictor.TheVariants as predictor
use Rattle.jxlm_tree.specs.FlatTree.{FlatTree}
use Rattle.jxlm_tree.specs.Paths.{Gives, IsLeafOf}
use Rattle.jxlm_ma_tree.specs.declared.leaf.Leaf.{Leaf}
use Rattle.jxlm_tree.specs.declared.paths.Path.{Path}
use Rattle.jxlm_tree.specs.declared.paths.Path.TheVariants as path
use Rattle.jxlm_samples.specs.Coded.{sample_of}
use Rattle.jxlm_samples.specs.Inner.Paths.{Allows, zero_rule}
use Rattle.jxlm_samples.specs.Inner.Rows.{ReadsCells}
use Rattle.jxlm_samples.specs.declared.source.Source.{Source}
use Rattle.jxlm_samples.specs.Rule.{Rule, CodedPrefix}

-- the elements of a filled list
get_filled : (n k : ℕ) (v : ℤ) → k < n → slice_get (replicate n v) k ≡ Some v
get_filled n k v inside = slice_get-get_or (replicate n v) k v (omega (arith, inside, length-replicate n v)) ∙ ap Some (get_or-replicate n k v v inside)

-- the path leads to a leaf that predicts by 0
pub record IsZero (t : FlatTree) (p : Path) (k : Leaf) : Type 0 where
  pub only : IsLeafOf t k
  pub predicts : k.predictor ≡ predictor.Zero

pub is_zero : (t : FlatTree) (p : Path) (k : Leaf) → (p ≡ path.Constant k) ⊎ (p ≡ path.Zero k) → Gives t p → Allows p → IsZero t p k
is_zero t p k (inl is) gives allows = record { only = subst (Gives t) is gives; predicts = subst Allows is allows }
is_zero t p k (inr is) gives allows = record { only = subst (Gives t) is gives; predicts = subst Allows is allows }

-- Where a cluster has one token, reading a row at a leaf that predicts by 0 fills the row with one sample.
module _ {D : Type 0} (d : Meaning D) (lawful : IsLawful d) (w : Width) (l : Leaf) (widest : ℕ) (at : Source D) (token : ℕ) (known : Contains (d.cluster_map at.decoder) l.cluster)
    (single : d.single_token at.decoder l.cluster ≡ Some token) where
  abbrev fixed : Rule D
  fixed = zero_rule d w (bytes_of at.bits) widest l

  abbrev cells : ℕ → List ℤ
  cells n = replicate n (sample_of w l (pos 0) token)

  fixed_cells : (n k : ℕ) → k ≤ n → CodedPrefix fixed (cells n) at.decoder (position_of at.bits) k at.decoder (position_of at.bits)
  fixed_cells n zero le = (refl, refl)
  fixed_cells n (suc k) le = (
    at.decoder,
    position_of at.bits,
    token,
    fixed_cells n k (omega arith),
    lawful.single_read at.decoder (bytes_of at.bits) (position_of at.bits) l.cluster widest token known single,
    get_filled n k (sample_of w l (pos 0) token) (omega arith),
  )

  pub fills_row : (n : ℕ) (R : List ℤ) → R ≡ cells n → ReadsCells d 0 fixed R (length R) at at
  fills_row n R is =
      let long : length (cells n) ≡ n = length-replicate n (sample_of w l (pos 0) token) in
      let all : ReadsCells d 0 fixed (cells n) (length (cells n)) at at = record { reads = fixed_cells n (length (cells n)) (omega (arith, long)); clusters = refl; bytes = refl; work = omega arith; more = omega arith } in
      subst (λ r. ReadsCells d 0 fixed r (length r) at at) (sym is) all
