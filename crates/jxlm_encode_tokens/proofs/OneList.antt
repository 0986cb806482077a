-- The cells of a part have one list of tokens.
use Rattle.std.proofs.Common.{◌≡◌, inl, inr, ℕ, ◌^◌, ◌<◌, List, length, take, get_or, sym, ◌∙◌, subst, arith, ℤ, pos, negsuc, ◌+ℤ◌, ◌*ℤ◌, FitsSigned}
use Rattle.std.specs.Int.{Width, w32}
use Rattle.std.proofs.lemmas.Int.{ints, SFits-int_wrap}
use Rattle.std.proofs.lemmas.List.{get_or_default, same_lists}
use Rattle.jxlm_bits.specs.Numbers.{unpack}
use Rattle.jxlm_tree.specs.Tree.{AllLeaves}
use Rattle.jxlm_ma_tree.specs.declared.leaf.Leaf.{Leaf}
use Rattle.jxlm_tree.proofs.FlatTrees.{reached_leaf}
use Rattle.jxlm_samples.specs.Coded.{next_prediction}
use Rattle.jxlm_samples.specs.Part.{Part, clamps, next_channel, next_leaf, property_by, surroundings}
use Rattle.jxlm_samples.proofs.TokenLaw.{each_has_token}
use Rattle.jxlm_encode_write.specs.Nodes.{packed_number}
use Rattle.jxlm_encode_tokens.specs.Laws.{EachPartHasOneList}
use Rattle.jxlm_encode_tokens.specs.Tokens.{AreTokensOf, IsSampleToken, MultipliesByOdd, MultipliesByOne}
use Rattle.jxlm_encode_tokens.proofs.OneToken.{one_token, packed_unpack}

-- a token whose number has 32 bits has 32 bits
packed_below : (u : ℤ) → FitsSigned w32 u → packed_number u < 2 ^ 32
packed_below (pos n) h = omega (arith, ints)
packed_below (negsuc n) h = omega (arith, ints)

below : (token : ℕ) → FitsSigned w32 (unpack token) → token < 2 ^ 32
below token h = subst (λ n. n < 2 ^ 32) (packed_unpack token) (packed_below (unpack token) h)

-- at a leaf that multiplies by an odd number each sample of 32 bits has one token
one_odd : (leaf : Leaf) (predicted sample : ℤ) (a b : ℕ) → MultipliesByOdd leaf → IsSampleToken w32 leaf predicted sample a → IsSampleToken w32 leaf predicted sample b → a ≡ b
one_odd leaf predicted sample a b odd ha hb =
    let fits : FitsSigned w32 sample = subst (FitsSigned w32) ha.stands (SFits-int_wrap w32 (unpack a *ℤ pos leaf.multiplier +ℤ leaf.offset +ℤ predicted)) in
    let only = (each_has_token leaf predicted sample odd fits).1.only in
    only a (below a ha.fits) ha.stands ∙ sym (only b (below b hb.fits) hb.stands)

module _ (w : Width) (part : Part) (cells : List ℤ) (a b : List ℕ) (P : Leaf → Type 0) (one : (leaf : Leaf) (predicted sample : ℤ) (x y : ℕ) → P leaf → IsSampleToken w leaf predicted sample x → IsSampleToken w leaf predicted sample y → x ≡ y)
    (leaves : AllLeaves P part.tree) (ha : AreTokensOf w part cells a) (hb : AreTokensOf w part cells b) where
  leaf_has : (before : List ℤ) → P (next_leaf part before)
  leaf_has before = reached_leaf P part.tree (property_by (clamps part (next_channel part.channels before)) (next_channel part.channels before) part.stream (surroundings part before)) leaves

  one_list : a ≡ b
  one_list =
      let m = ha.count in
      let n = hb.count in
      same_lists a b (m ∙ sym n) (λ k e less.
      let inside : k < length cells = omega (arith, m, less) in
      get_or_default a k e 0 less
      ∙ one (next_leaf part (take k cells)) (next_prediction part (take k cells)) (get_or cells k (pos 0)) (get_or a k 0) (get_or b k 0) (leaf_has (take k cells)) (ha.each k inside) (hb.each k inside)
      ∙ get_or_default b k 0 e (omega (arith, n, inside)))

pub one_list_each : EachPartHasOneList
one_list_each w part cells a b (inl ones) ha hb = one_list w part cells a b MultipliesByOne (one_token w) ones ha hb
one_list_each w part cells a b (inr odd) ha hb =
    one_list w32 part cells a b MultipliesByOdd one_odd odd.1 (subst (λ v. AreTokensOf v part cells a) odd.0 ha) (subst (λ v. AreTokensOf v part cells b) odd.0 hb)
