-- A code for flat trees, by which a proof tells them apart.
use Rattle.std.proofs.Common.{ℕ, refl}
use Rattle.std.specs.Coded.{Coded, code_by, coded×, coded_ℕ}
use Rattle.jxlm_tree.specs.FlatTree.{FlatTree}
use Rattle.jxlm_ma_tree.specs.Tree.{Shape}
use Rattle.jxlm_ma_tree.specs.TreeCode.{coded_shape}
use Rattle.jxlm_ma_tree.specs.declared.leaf.Leaf.{Leaf}

abbrev pub coded_flat : Coded Leaf → Coded FlatTree
coded_flat c =
    code_by (Shape Leaf × (ℕ × (ℕ × ℕ))) (coded× (coded_shape c) (coded× coded_ℕ (coded× coded_ℕ coded_ℕ))) (λ t. (t.tree, (t.channel, (t.stream_idx, t.prev_channels))))
    (λ p. record { tree = p.0; channel = p.1.0; stream_idx = p.1.1.0; prev_channels = p.1.1.1 }) (λ _. refl)
