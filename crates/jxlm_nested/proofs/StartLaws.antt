-- What reading a header and its tree returns, from what its steps return.
use Rattle.std.proofs.Common.{◌≡◌, ℕ, List, Ok, Err, inr, refl}
use Rattle.std.specs.Prelude.{◌⊎◌, Option, None, Some, is_some}
use Rattle.std.specs.Borrow.{Bor}
use Rattle.std.specs.Option.{option_copied}
use Rattle.jxlm_bits.specs.Decoding.{Meaning}
use Rattle.jxlm_bits.specs.ErrorKind.{UnlessMemory, kind_of}
use Rattle.jxlm_bits.specs.Grammar.{IsErrorAt}
use Rattle.jxlm_bits.specs.declared.error.Error.{Error}
use Rattle.jxlm_transform.specs.Channels.{ChannelList}
use Rattle.jxlm_ma_tree.proofs.Memory.{unless_so}
use Rattle.jxlm_tree.specs.Tree.{Config}
use Rattle.jxlm_chain.specs.declared.placed.PlacedChannels.{PlacedChannels}
use Rattle.jxlm_header.specs.declared.header.ModularHeader.{ModularHeader}
use Rattle.jxlm_transform.specs.Lists.{list_of}
use Rattle.jxlm_nested.specs.Opened.{TreeOfGives, opened_of}
use Rattle.jxlm_nested.specs.Starts.{IsStartAt, IsTreeErrorAt, opening_at}

-- whether there is a tree does not depend on its being lent
pub lent_some : {A : Type 0} (o : Option (Bor A)) → is_some (option_copied o) ≡ is_some o
lent_some None = refl
lent_some (Some x) = refl

-- header and tree for channels of any list
module _ {D : Type 0} (d : Meaning D) (global : Option (Config D)) (bytes : List ℕ) (given : ChannelList) (p : ℕ) where
  module _ (o : ModularHeader × PlacedChannels) (m : ℕ) (opens : opening_at global bytes given p ≡ Ok (record { value = opened_of o; position = m })) where
    -- where the header's tree stands, there is one
    pub starts : (config : Config D) (q : ℕ) → TreeOfGives d global bytes o.0.use_global_tree (list_of o.1.channels).channels m (Ok config) q → IsStartAt d global bytes given p (opened_of o) config q
    starts config q tree = record { tree_at = m; header = opens; tree = tree }

    -- where the tree gives an error, there is none
    pub no_tree : (e : Error) (q : ℕ) → TreeOfGives d global bytes o.0.use_global_tree (list_of o.1.channels).channels m (Err e) q →
        UnlessMemory (kind_of e) (IsErrorAt (opening_at global bytes given p) (kind_of e) q ⊎ IsTreeErrorAt d global bytes given p (kind_of e) q)
    no_tree e q gives =
        unless_so (kind_of e) (λ tree. inr (record {
          head = opened_of o;
          tree_at = m;
          header = opens;
          tree = tree;
        })) gives
