use Rattle.std.proofs.Common.{◌≡◌, ◌∙◌, None, Option, Some, ap, inl, inr, subst, sym}
use Rattle.std.specs.Option.{option_copied}
use Rattle.jxlm_bits.specs.Bits.{bytes_of, position_of}
use Rattle.jxlm_transform.specs.Lists.{list_of}
use Rattle.jxlm_tree.specs.Tree.{Config, depth}
use Rattle.jxlm_tree_depth.specs.Inner.{TreeIs}
use Rattle.jxlm_tree_depth.proofs.Depths.{compared}
use Rattle.jxlm_tree_depth.proofs.depth.is_deeper.Goals as goal

pub returns-in-Some : goal.returns-in-Some
returns-in-Some g c =
    let d = g.D.Decoder.meaning in
    let says = λ (o : Option (Config g.row.D.Denot)). TreeIs d (option_copied c.args.global) (list_of c.args.given.channels) (bytes_of c.args.bits) (position_of c.args.bits) o in
    let at : says (Some c.in-Some.config) = subst says c.in-Some.is c.in_ok-tree.ensures in
    let own = at.0 in
    let same : c.tree_depth.result ≡ depth own.config.tree = c.tree_depth.ensures.depth ∙ ap (λ (x : Config g.row.D.Denot). depth x.tree) (sym at.1) in
    compared c.args.deepest c.tree_depth.result (depth own.config.tree) same (λ deep. (own, deep)) (λ low. inl (own, low))

pub returns-in-None : goal.returns-in-None
returns-in-None g c =
    let d = g.D.Decoder.meaning in
    let says = λ (o : Option (Config g.row.D.Denot)). TreeIs d (option_copied c.args.global) (list_of c.args.given.channels) (bytes_of c.args.bits) (position_of c.args.bits) o in
    inr (subst says c.in-None.is c.in_ok-tree.ensures)
