-- What reading a tree returns, as the program holds it.
use Rattle.std.specs.Prelude.{ℕ, List, Result, Ok, Err}
use Rattle.jxlm_bits.specs.Decoding.{Meaning}
use Rattle.jxlm_bits.specs.declared.error.Error.{Error}
use Rattle.jxlm_ma_tree.specs.Tree.{config_of}
use Rattle.jxlm_ma_tree.specs.TreeReading.{TreeGives}
use Rattle.jxlm_ma_tree.specs.TreeShape.{shape_of}
use Rattle.jxlm_ma_tree.specs.declared.read.ParsedTree.{ParsedTree}

-- from position p to q the tree and its decoder were read, or there is the error of the first check that fails
abbrev pub ParsedGives : {S : Type 0} → Meaning S → List ℕ → ℕ → ℕ → ℕ → Result (ParsedTree S) Error → ℕ → Type 0
ParsedGives d bytes limit depth_limit p (Ok t) q =
    TreeGives d bytes limit depth_limit p (Ok (config_of (shape_of t.tree.root) t.decoder)) q
ParsedGives d bytes limit depth_limit p (Err e) q = TreeGives d bytes limit depth_limit p (Err e) q
