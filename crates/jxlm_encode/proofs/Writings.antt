-- What an encoder writes, and the part whose samples it writes.
use Rattle.std.proofs.Common.{◌≡◌, ℕ, ◌^◌, ◌<◌, ◌≤◌, List, [], ◌++◌, length, Result, Ok, Err, IfOk, sym, ap, ◌∙◌, subst, append_assoc, arith}
use Rattle.std.specs.Global.{Vec}
use Rattle.std.proofs.lemmas.List.{length-map}
use Rattle.std.specs.List.{All}
use Rattle.jxlm_base.specs.Grid.{Grid}
use Rattle.jxlm_base.specs.Regions.{AllLie, LieApart}
use Rattle.jxlm_chain.specs.declared.placed.PlacedChannels.{PlacedChannels}
use Rattle.jxlm_samples.specs.Placed.{PartLies}
use Rattle.jxlm_samples.specs.declared.part.PlacedPart.{PlacedPart}
use Rattle.jxlm_transform.specs.Channels.{AreRegionsOf, IsNarrow, infos, regions}
use Rattle.jxlm_transform.specs.declared.channels.PlacedChannel.{PlacedChannel}
use Rattle.jxlm_transform.specs.Transforms.{Transform}
use Rattle.jxlm_weighted.specs.SelfCorrecting.{IsHeader}
use Rattle.jxlm_weighted.specs.WeightsHeader.{default_weights}
use Rattle.jxlm_encode_write.specs.Headers.{header_bits}
use Rattle.jxlm_encode_write.specs.Nodes.{tree_tokens}
use Rattle.jxlm_encode_write.specs.Tokens.{gamma_token_bits, token_bits}
use Rattle.jxlm_encode_write.specs.Trees.{gamma_tree_bits, tree_bits}
use Rattle.jxlm_bit_writer.specs.Written.{AreFilled}
use Rattle.jxlm_encode_write.specs.declared.tree.EncodeNode.{EncodeNode}
use Rattle.jxlm_encode.specs.Bytes.{AreWritten, AreWritten2, IsLeastWidth}
use Rattle.jxlm_encode.specs.Inner.Writing.{ChannelsLie}

-- the least width of a list of tokens
least_of : (of_nodes tokens : List ℕ) (width : ℕ) → of_nodes ≡ tokens → All (λ t. t < 2 ^ width) of_nodes → ((n : ℕ) → All (λ t. t < 2 ^ n) of_nodes → width ≤ n) → IsLeastWidth tokens width
least_of of_nodes tokens width are fits least = subst (λ (ts : List ℕ). IsLeastWidth ts width) are (record { fits = fits; least = least })

-- header, tree and tokens, one after another
pub all_written : {E : Type 0} (r : Result (Vec ℕ) E) (ts : List Transform) (nodes : List EncodeNode) (of_nodes tokens : List ℕ) (own width : ℕ) (start a b d : List ℕ) → start ≡ [] → a ≡ start ++ header_bits ts →
    b ≡ a ++ tree_bits nodes own width → d ≡ b ++ token_bits width tokens → All (λ t. t < 2 ^ own) of_nodes → ((n : ℕ) → All (λ t. t < 2 ^ n) of_nodes → own ≤ n) →
    All (λ t. t < 2 ^ width) tokens → ((n : ℕ) → All (λ t. t < 2 ^ n) tokens → width ≤ n) → of_nodes ≡ tree_tokens nodes →
    IfOk r (λ v. AreFilled v.items d) → IfOk r (λ v. AreWritten ts nodes tokens v.items)
all_written (Err e) ts nodes of_nodes tokens own width start a b d none header tree last own_fits own_least fits least are filled = filled
all_written (Ok v) ts nodes of_nodes tokens own width start a b d none header tree last own_fits own_least fits least are filled =
    let all : d ≡ header_bits ts ++ (tree_bits nodes own width ++ token_bits width tokens) =
    last ∙ ap (λ xs. xs ++ token_bits width tokens) (tree ∙ ap (λ xs. xs ++ tree_bits nodes own width) (header ∙ ap (λ xs. xs ++ header_bits ts) none))
    ∙ append_assoc (header_bits ts) (tree_bits nodes own width) (token_bits width tokens) in
    record {
      own = own;
      own_least = least_of of_nodes (tree_tokens nodes) own are own_fits own_least;
      width = width;
      least = record { fits = fits; least = least };
      filled = subst (AreFilled v.items) all filled;
    }

-- so they are in the second format
pub all_written2 : {E : Type 0} (r : Result (Vec ℕ) E) (ts : List Transform) (nodes : List EncodeNode) (tokens start a b d : List ℕ) → start ≡ [] → a ≡ start ++ header_bits ts →
    b ≡ a ++ gamma_tree_bits nodes → d ≡ b ++ gamma_token_bits tokens → IfOk r (λ v. AreFilled v.items d) → IfOk r (λ v. AreWritten2 ts nodes tokens v.items)
all_written2 (Err e) ts nodes tokens start a b d none header tree last filled = filled
all_written2 (Ok v) ts nodes tokens start a b d none header tree last filled =
    let all : d ≡ header_bits ts ++ (gamma_tree_bits nodes ++ gamma_token_bits tokens) =
    last ∙ ap (λ xs. xs ++ gamma_token_bits tokens) (tree ∙ ap (λ xs. xs ++ gamma_tree_bits nodes) (header ∙ ap (λ xs. xs ++ header_bits ts) none))
    ∙ append_assoc (header_bits ts) (gamma_tree_bits nodes) (gamma_token_bits tokens) in
    subst (AreFilled v.items) all filled

default_header : IsHeader default_weights
default_header = record { p1 = omega arith; p2 = omega arith; p3a = omega arith; p3b = omega arith; p3c = omega arith; p3d = omega arith; p3e = omega arith; w0 = omega arith; w1 = omega arith; w2 = omega arith; w3 = omega arith }

-- the part of channels that lie in a store
pub part_lies : {D S : Type 0} (p : PlacedChannels) (store : List (Grid S)) → ChannelsLie p store → (part : PlacedPart D) → part.channels.now ≡ p.channels.placed.items → part.weights ≡ default_weights →
    PartLies part store
part_lies p store h part same weights = record {
  sizes = subst (λ (ps : List PlacedChannel). AreRegionsOf (infos ps) (regions ps)) (sym same) h.sizes;
  narrow = subst (λ (ps : List PlacedChannel). All IsNarrow (infos ps)) (sym same) h.narrow;
  few = subst (λ (ps : List PlacedChannel). length ps ≤ 65536) (sym same)
      (omega (arith, h.few, length-map p.channels.placed.items (λ (c : PlacedChannel). c.info)));
  weights = subst IsHeader (sym weights) default_header;
  lie = subst (λ (ps : List PlacedChannel). AllLie (regions ps) store) (sym same) h.lie;
  apart = subst (λ (ps : List PlacedChannel). LieApart (regions ps)) (sym same) h.apart;
}
