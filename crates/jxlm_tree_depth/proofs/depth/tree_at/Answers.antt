use Rattle.std.proofs.Common.{◌≡◌, ◌∙◌, false, sym}
use Rattle.jxlm_bits.specs.Bits.{position_of}
use Rattle.jxlm_bits.specs.ErrorKind.{kind_of}
use Rattle.jxlm_tree_depth.specs.Inner.{is_memory}
use Rattle.jxlm_tree_depth.proofs.Depths.{reasoned}
use Rattle.jxlm_tree_depth.proofs.depth.tree_at.Goals as goal

pub returns-else-is_memory : goal.returns-else-is_memory
returns-else-is_memory g c =
    let e = kind_of c.in-Err.error in
    let other : is_memory e ≡ false = sym c.is_memory.ensures ∙ c.if-is_memory.false in
    (e, (position_of c.header_tree.new.bits, reasoned e other c.in-Err.ensures.err))
