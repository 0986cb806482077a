use Rattle.std.proofs.Common.{◌+◌, ◌*◌}
use Rattle.jxlm_tree.specs.Inner.FlatShapes.{size}
use Rattle.jxlm_ma_tree.specs.Marked.{marked_shape}
use Rattle.jxlm_tree.specs.Inner.Chosen.{hanging}
use Rattle.jxlm_tree.proofs.compile.+compile.Given as goal

abbrev pub decreases-compile : goal.decreases-compile
decreases-compile l = 3 * size (marked_shape l.tree.now) + 1

abbrev pub decreases-compile_side : goal.decreases-compile_side
decreases-compile_side l = 3 * size (marked_shape l.tree.now) + 2

abbrev pub decreases-fill : goal.decreases-fill
decreases-fill l = 3 * hanging l.property (marked_shape l.tree.now) + 2
