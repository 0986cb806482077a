-- The tree of one leaf, by the gradient.
use Rattle.std.proofs.Common.{◌≡◌, pos, [], ◌∷◌, true, refl, arith}
use Rattle.std.proofs.lemmas.List.Elements.{All-cons, All-nil}
use Rattle.jxlm_predictor.specs.declared.predictor.Predictor.TheVariants.{Gradient}
use Rattle.jxlm_tree.specs.Tree.{leaf}
use Rattle.jxlm_ma_tree.specs.declared.leaf.Leaf.{Leaf}
use Rattle.jxlm_tree.specs.declared.ma.MaConfigParams.{MaConfigParams}
use Rattle.jxlm_encode_write.specs.Nodes.{has_token}
use Rattle.jxlm_encode_write.specs.declared.tree.EncodeNode.{EncodeNode}
use Rattle.jxlm_encode_write.specs.declared.tree.EncodeNode.TheVariants as given
use Rattle.jxl_coding.specs.Clusters.{are_used, greatest}
use Rattle.jxlm_encode.specs.declared.error.EncodeError.{EncodeError}
use Rattle.jxlm_encode.specs.declared.error.EncodeError.TheVariants as errors
use Rattle.jxl_encode_tree.specs.Trees.{IsClusteredTree, IsNoTree}

abbrev plain_leaf : Leaf
plain_leaf = record { cluster = 0; predictor = Gradient; offset = pos 0; multiplier = 1 }

pub plain_tree : (limits : MaConfigParams) → IsClusteredTree (given.Leaf Gradient (pos 0) ∷ []) (0 ∷ []) limits (leaf plain_leaf)
unfolding are_used greatest
plain_tree limits = record {
  listed = refl;
  properties = All-cons (λ (n : EncodeNode). has_token n ≡ true) (given.Leaf Gradient (pos 0)) [] refl (All-nil (λ (n : EncodeNode). has_token n ≡ true));
  leaves = refl;
  used = refl;
  limit = omega arith;
  within = omega arith;
}

-- so memory is all that fails with it
pub memory_alone : (limits : MaConfigParams) (e : EncodeError) → IsNoTree (given.Leaf Gradient (pos 0) ∷ []) (0 ∷ []) limits e → e ≡ errors.OutOfMemory
memory_alone limits (errors.InvalidTransform k) h = absurd h
memory_alone limits errors.InvalidTree h = absurd (h (leaf plain_leaf) (plain_tree limits))
memory_alone limits errors.OutOfMemory h = refl
