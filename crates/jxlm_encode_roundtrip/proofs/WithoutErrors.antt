-- Where header, tree or samples stand, reading them returns no error.
use Rattle.std.proofs.Common.{◌≡◌, ◌⊎◌, inl, inr, ℕ, ℤ, List, take, Bool, true, false, Option, Some, Result, Ok, Err, sym, ap, ◌∙◌, subst, arith}
use Rattle.std.specs.Prelude.{MatchBool}
use Rattle.std.specs.Int.{Width}
use Rattle.jxlm_bits.specs.Decoding.{Found, Meaning, Taken}
use Rattle.jxlm_bits.specs.ErrorKind.{ErrorAt, ErrorKind}
use Rattle.jxlm_bits.specs.Grammar.{IsErrorAt}
use Rattle.jxlm_bits.specs.declared.decoder.DecoderError.{DecoderError}
use Rattle.jxlm_base.specs.Grid.{Grid}
use Rattle.jxlm_header.specs.Opening.{Opening, depth_limit, node_limit}
use Rattle.jxlm_tree.specs.Tree.{Config, Node, depth, levels}
use Rattle.jxlm_ma_tree.specs.declared.leaf.Leaf.{Leaf}
use Rattle.jxlm_tree.specs.TreeReading.{IsTooDeep, IsTreeAt, listing_at}
use Rattle.jxlm_ma_tree.proofs.Listing.{levels-injective}
use Rattle.jxlm_nested.specs.Starts.{IsStartAt, IsTreeErrorAt, opening_at}
use Rattle.jxlm_samples.specs.Coded.{DecodingFails, FailsAfter, IsCodedWhole, part_rule}
use Rattle.jxlm_samples.specs.Rule.{CodedPrefix}
use Rattle.jxlm_samples.specs.Part.{Part, cell_count, cells_of}
use Rattle.jxlm_samples.proofs.Prefixes.{prefix_one, prefix_part}
use Rattle.jxlm_transform.specs.Channels.{ChannelList}
use Rattle.jxlm_encode_roundtrip.proofs.TwoPictures.{same_found, same_listing, same_opening}

clash : {X : Type 0} (r : Result X DecoderError) (x : X) (e : DecoderError) → r ≡ Ok x → r ≡ Err e → ⊥
clash r x e h k = cc

pub refused : {X : Type 0} (x : X) (e : ErrorAt) (r : Result X ErrorAt) → r ≡ Ok x → r ≡ Err e → ⊥
refused x e r h k = cc

-- ---- a tree

module _ {D : Type 0} (d : Meaning D) (bytes : List ℕ) (limit most p : ℕ) (config : Config D) (q : ℕ) (h : IsTreeAt d bytes limit most p config q) where
  -- it is the only one
  pub only_tree : (other : Config D) (r : ℕ) → listing_at d bytes limit p ≡ Ok (record { value = levels other.tree; state = other.decoder; position = r }) → other.tree ≡ config.tree
  only_tree other r reads =
      levels-injective other.tree config.tree (ap (λ (t : Taken (List (Node Leaf)) D). t.value) (same_listing _ _ (listing_at d bytes limit p) reads h.reads))

  pub tree_without_error : (error : ErrorKind) (r : ℕ) → IsErrorAt (listing_at d bytes limit p) error r ⊎ IsTooDeep d bytes limit most p error r → ⊥
  tree_without_error error r (inl failed) = refused _ _ (listing_at d bytes limit p) h.reads failed.refuses
  tree_without_error error r (inr deep) =
      let is = only_tree deep.config r deep.reads in
      let within = h.within in
      let beyond = deep.beyond in
      omega (arith, within, beyond, ap depth is)

-- ---- a header and its tree

module _ {D : Type 0} (d : Meaning D) (global : Option (Config D)) (bytes : List ℕ) (given : ChannelList) (p : ℕ) where
  own_tree : (b : Bool) (limit tree_at : ℕ) (config : Config D) (q : ℕ) → MatchBool b ((global ≡ Some config) × (q ≡ tree_at)) (IsTreeAt d bytes limit depth_limit tree_at config q) →
      (error : ErrorKind) (r : ℕ) → (b ≡ false) × (IsErrorAt (listing_at d bytes limit tree_at) error r ⊎ IsTooDeep d bytes limit depth_limit tree_at error r) → ⊥
  own_tree true limit tree_at config q h error r k = let wrong = k.0 in cc
  own_tree false limit tree_at config q h error r k = tree_without_error d bytes limit depth_limit tree_at config q h error r k.1

  abbrev TreeErrorAfter : ErrorKind → ℕ → Found Opening → Type 0
  TreeErrorAfter error r f =
      (f.value.uses_global ≡ false) × (IsErrorAt (listing_at d bytes (node_limit f.value.coded.list.channels) f.position) error r ⊎ IsTooDeep d bytes (node_limit f.value.coded.list.channels) depth_limit f.position error r)

  pub start_without_error : (head : Opening) (config : Config D) (q : ℕ) → IsStartAt d global bytes given p head config q →
      (error : ErrorKind) (r : ℕ) → IsErrorAt (opening_at global bytes given p) error r ⊎ IsTreeErrorAt d global bytes given p error r → ⊥
  start_without_error head config q s error r (inl failed) = refused _ _ (opening_at global bytes given p) s.header failed.refuses
  start_without_error head config q s error r (inr h) =
      let same = same_opening _ _ (opening_at global bytes given p) s.header h.header in
      own_tree head.uses_global (node_limit head.coded.list.channels) s.tree_at config q s.tree error r (subst (TreeErrorAfter error r) (sym same) h.tree)

-- ---- samples

module _ {D : Type 0} (d : Meaning D) (w : Width) (part : Part) (bytes : List ℕ) (decoder : D) (p : ℕ) (grids : List (Grid ℤ)) (end : ℕ) where
  pub samples_without_error : IsCodedWhole d w part bytes decoder p grids end → (cause : DecoderError) (q tried : ℕ) → DecodingFails d w part bytes decoder p cause q tried → ⊥
  samples_without_error (inr none) cause q tried h = let zero_cells = none.0 in let some = h.0 in omega (arith, zero_cells, some)
  samples_without_error (inl whole) cause q tried h = of_failure h.1 where
    of_failure : ((d.begin decoder bytes p ≡ Err cause) × (q ≡ p) × (tried ≡ 0)) ⊎ ((n : ℕ) × (others : List (Grid ℤ)) × FailsAfter d w part bytes decoder p n others q cause tried) → ⊥
    of_failure (inl begins) = clash (d.begin decoder bytes p) _ _ whole.1.coded.begins begins.0
    of_failure (inr later) =
        let f = later.2 in
        let n : ℕ = later.0 in
        let x = same_found _ _ (d.begin decoder bytes p) whole.1.coded.begins f.coded.begins in
        let rule = part_rule d w part bytes in
        elim f.error [
          | inl read ↦
              let shorter = prefix_part rule whole.1.coded.start.value whole.1.coded.start.position (cells_of grids) (cell_count part.channels) n whole.1.state end read.0 whole.1.coded.joined in
              let one = prefix_one rule whole.1.coded.start.value whole.1.coded.start.position (cells_of grids) (cells_of later.1) n shorter.0 f.state shorter.1 q shorter.3 (rw x f.coded.joined) in
              let ok : rule.read (take n (cells_of later.1)) f.state q ≡ Ok shorter.2 = rw (← one.state, ← one.place, ← one.cells) shorter.4 in
              clash (rule.read (take n (cells_of later.1)) f.state q) _ _ ok read.2
          | inr end_of ↦
              let joined = subst (λ k. CodedPrefix rule (cells_of later.1) f.coded.start.value f.coded.start.position k f.state q) end_of.0 f.coded.joined in
              let one = prefix_one rule whole.1.coded.start.value whole.1.coded.start.position (cells_of grids) (cells_of later.1) (cell_count part.channels) whole.1.state f.state end q whole.1.coded.joined (rw x joined) in
              clash (d.finalize f.state) _ _ (ap d.finalize (sym one.state) ∙ whole.1.accepts) end_of.2
        ]
