use Rattle.std.proofs.Common.{◌≡◌, ◌∙◌, ℕ, Bool, Err, List, Ok, Option, Result, refl, subst, sym}
use Rattle.std.specs.Option.{option_copied}
use Rattle.std.specs.Prelude.{◌⊎◌, IfErr, IfOk, is_some}
use Rattle.jxlm_bits.specs.Bits.{bytes_of, position_of}
use Rattle.jxlm_bits.specs.Decoding.{Meaning}
use Rattle.jxlm_bits.specs.ErrorKind.{UnlessMemory, kind_of}
use Rattle.jxlm_bits.specs.Grammar.{IsErrorAt}
use Rattle.jxlm_bits.specs.declared.error.Error.{Error}
use Rattle.jxlm_chain.specs.declared.placed.PlacedChannels.{PlacedChannels}
use Rattle.jxlm_header.specs.Opening.{opening}
use Rattle.jxlm_header.specs.declared.header.ModularHeader.{ModularHeader}
use Rattle.jxlm_transform.specs.Channels.{ChannelList}
use Rattle.jxlm_transform.specs.Lists.{list_of}
use Rattle.jxlm_tree.specs.Tree.{Config}
use Rattle.jxlm_nested.specs.Opened.{TreeOfGives, opened_of}
use Rattle.jxlm_nested.specs.Starts.{IsTreeErrorAt, Start, opening_at}
use Rattle.jxlm_nested.proofs.StartLaws.{lent_some, no_tree, starts}
use Rattle.jxlm_tree_depth.proofs.depth.header_tree.Goals as goal

-- what a header that was opened and its tree come to
module _ {D : Type 0} (d : Meaning D) (global : Option (Config D)) (bytes : List ℕ) (list : ChannelList) (p : ℕ)
    (o : ModularHeader × PlacedChannels) (m : ℕ) (opens : opening_at global bytes list p ≡ Ok (record { value = opened_of o; position = m })) where
  tree_is : (result : Result (Config D) Error) (q : ℕ) → TreeOfGives d global bytes o.0.use_global_tree (list_of o.1.channels).channels m result q → IfOk result (λ config. (own : Start d global bytes list p) × (own.config ≡ config))
  tree_is (Ok config) q tree = (record { head = opened_of o; config = config; samples_at = q; start = starts d global bytes list p o m opens config q tree }, refl)
  tree_is (Err e) q tree = tt

  tree_fails : (result : Result (Config D) Error) (q : ℕ) → TreeOfGives d global bytes o.0.use_global_tree (list_of o.1.channels).channels m result q →
      IfErr result (λ e. UnlessMemory (kind_of e) (IsErrorAt (opening_at global bytes list p) (kind_of e) q ⊎ IsTreeErrorAt d global bytes list p (kind_of e) q))
  tree_fails (Ok config) q tree = tt
  tree_fails (Err e) q tree = no_tree d global bytes list p o m opens e q tree

pub returns-clause-tree : goal.returns-clause-tree
returns-clause-tree g c =
    let d = g.D.Decoder.meaning in
    let bytes = bytes_of c.args.bits.now in
    let p = position_of c.args.bits.now in
    let list = list_of c.args.given.channels in
    let global = option_copied c.args.global in
    let o : ModularHeader × PlacedChannels = (c.in_ok-header.header, c.in_ok-header.placed) in
    let m = position_of c.open.new.bits in
    let has : c.is_some.result ≡ is_some global = c.is_some.ensures ∙ sym (lent_some c.args.global) in
    let opens : opening_at global bytes list p ≡ Ok (record { value = opened_of o; position = m }) =
    subst (λ (b : Bool). (opening b list).read bytes p ≡ Ok (record { value = opened_of o; position = m })) has c.in_ok-header.ensures.gives in
    let q = position_of c.tree_of.new.bits in
    let tree : TreeOfGives d global bytes o.0.use_global_tree (list_of o.1.channels).channels m c.tree_of.result q = rw (c.in_ok-header.ensures.bytes, c.deref.ensures.value) at c.tree_of.ensures.gives in
    tree_is d global bytes list p o m opens c.tree_of.result q tree

pub returns-clause-err : goal.returns-clause-err
returns-clause-err g c =
    let d = g.D.Decoder.meaning in
    let bytes = bytes_of c.args.bits.now in
    let p = position_of c.args.bits.now in
    let list = list_of c.args.given.channels in
    let global = option_copied c.args.global in
    let o : ModularHeader × PlacedChannels = (c.in_ok-header.header, c.in_ok-header.placed) in
    let m = position_of c.open.new.bits in
    let has : c.is_some.result ≡ is_some global = c.is_some.ensures ∙ sym (lent_some c.args.global) in
    let opens : opening_at global bytes list p ≡ Ok (record { value = opened_of o; position = m }) =
    subst (λ (b : Bool). (opening b list).read bytes p ≡ Ok (record { value = opened_of o; position = m })) has c.in_ok-header.ensures.gives in
    let q = position_of c.tree_of.new.bits in
    let tree : TreeOfGives d global bytes o.0.use_global_tree (list_of o.1.channels).channels m c.tree_of.result q = rw (c.in_ok-header.ensures.bytes, c.deref.ensures.value) at c.tree_of.ensures.gives in
    tree_fails d global bytes list p o m opens c.tree_of.result q tree
