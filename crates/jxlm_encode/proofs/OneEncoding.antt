-- An image has one encoding: its steps, its coded samples, its tree, their tokens and their bytes are one.
use Rattle.std.proofs.Common.{◌≡◌, inl, ℕ, ℤ, List, [], ◌∷◌, Result, Ok, sym, ◌∙◌, subst}
use Rattle.std.specs.List.{All}
use Rattle.std.specs.Int.{Width}
use Rattle.std.proofs.lemmas.List.Elements.{All-head, All-tail}
use Rattle.jxlm_bits.specs.Decoding.{Meaning}
use Rattle.jxlm_bits.specs.ErrorKind.{ErrorKind}
use Rattle.jxlm_base.specs.Grid.{Grid}
use Rattle.jxlm_chain.specs.Chain.{Chain, Codes}
use Rattle.jxlm_tree.specs.Tree.{Shape}
use Rattle.jxlm_ma_tree.specs.declared.leaf.Leaf.{Leaf}
use Rattle.jxlm_ma_tree.proofs.Listing.{levels-injective}
use Rattle.jxlm_samples.specs.Part.{cells_of}
use Rattle.jxlm_plain.specs.Plain.{plain, plain2}
use Rattle.jxlm_encode_transform.specs.Redo.{IsNoPalette}
use Rattle.jxlm_encode_tokens.specs.Tokens.{AreTokensOf}
use Rattle.jxlm_encode_tokens.proofs.OneList.{one_list_each}
use Rattle.jxlm_transform.specs.Channels.{ChannelList}
use Rattle.jxlm_transform.specs.ChannelSteps.{CodedList, Step, RctStep, PaletteStep, SqueezeStep}
use Rattle.jxlm_transform.specs.Transforms.{Transform}
use Rattle.jxlm_encode_write.specs.declared.tree.EncodeNode.{EncodeNode}
use Rattle.jxlm_encode.specs.Bytes.{AreBytesFor, AreBytesOf, AreBytesOf2, AreWritten, AreWritten2}
use Rattle.jxlm_encode.specs.Encoded.{IsEncodedFor, coded_part, given_list}
use Rattle.jxlm_encode.specs.Laws.{DetermineBytes}
use Rattle.jxlm_encode.proofs.Encodings.{multipliers}
use Rattle.jxlm_encode.proofs.NoPalettes.{written_steps}
use Rattle.jxlm_encode.proofs.OneWriting.{written_one, written_one2}

same_ok : {X : Type 0} (x y : X) → ◌≡◌ {A = Result X ErrorKind} (Ok x) (Ok y) → x ≡ y
same_ok x y e = cc

module _ (w : Width) (depth : ℕ) where
  -- what a step makes of grids is one, unless it is a palette
  step_one : (s : Step) (before after other : List (Grid ℤ)) → IsNoPalette s → Codes w depth s before after → Codes w depth s before other → after ≡ other
  step_one (RctStep t) before after other h c d = c.1 ∙ sym d.1
  step_one (PaletteStep t) before after other h c d = absurd h
  step_one (SqueezeStep t) before after other h c d = c.1 ∙ sym d.1

  -- so is what several steps make of an image
  coded_one : (ss : List Step) (l : ChannelList) (image coded other : List (Grid ℤ)) → All IsNoPalette ss → Chain w depth ss l image coded → Chain w depth ss l image other → coded ≡ other
  coded_one [] l image coded other h c d = c.1 ∙ sym d.1
  coded_one (s ∷ ss) l image coded other h c d =
      let lists : c.1 ≡ d.1 = same_ok c.1 d.1 (sym c.3 ∙ d.3) in
      let nexts : c.2 ≡ d.2 = step_one s image c.2 d.2 (All-head IsNoPalette s ss h) c.4 d.4 in
      coded_one ss c.1 c.2 coded other (All-tail IsNoPalette s ss h) c.5
      (subst (λ (next : List (Grid ℤ)). Chain w depth ss c.1 next other) (sym nexts) (subst (λ (m : ChannelList). Chain w depth ss m d.2 other) (sym lists) d.5))

module _ {V : Type 0} (d : Meaning V) (Written : List ℕ → List ℕ → Type 0) (ts : List Transform) (nodes : List EncodeNode) (image : List (Grid ℤ)) (w : Width) (xs ys : List ℕ)
    (a : AreBytesFor ts nodes image d Written w xs) (b : AreBytesFor ts nodes image d Written w ys) where
  abbrev here : IsEncodedFor ts nodes image d w xs
  here = a.encoded

  abbrev there : IsEncodedFor ts nodes image d w ys
  there = b.encoded

  same_coded : here.coded ≡ there.coded
  same_coded = same_ok here.coded there.coded (sym here.accepted.come ∙ there.accepted.come)

  same_tree : here.tree ≡ there.tree
  same_tree = levels-injective here.tree there.tree (here.given.listed ∙ sym there.given.listed)

  same_samples : here.samples ≡ there.samples
  same_samples =
      coded_one w 0 here.coded.steps (given_list image) image here.samples there.samples (written_steps ts (given_list image) here.coded here.accepted.written here.accepted.come) (here.chain 0)
      (subst (λ (c : CodedList). Chain w 0 c.steps (given_list image) image there.samples) (sym same_coded) (there.chain 0))

  same_tokens : a.tokens ≡ b.tokens
  same_tokens =
      let first : AreTokensOf w (coded_part here.coded there.tree) (cells_of there.samples) b.tokens = subst (λ (c : CodedList). AreTokensOf w (coded_part c there.tree) (cells_of there.samples) b.tokens) (sym same_coded) b.are in
      let second : AreTokensOf w (coded_part here.coded here.tree) (cells_of there.samples) b.tokens = subst (λ (t : Shape Leaf). AreTokensOf w (coded_part here.coded t) (cells_of there.samples) b.tokens) (sym same_tree) first in
      let third : AreTokensOf w (coded_part here.coded here.tree) (cells_of here.samples) b.tokens = subst (λ (gs : List (Grid ℤ)). AreTokensOf w (coded_part here.coded here.tree) (cells_of gs) b.tokens) (sym same_samples) second in
      one_list_each w (coded_part here.coded here.tree) (cells_of here.samples) a.tokens b.tokens (inl (multipliers nodes here.coded.list.channels here.tree here.given)) a.are third

  -- the same tokens are written
  both_written : Written a.tokens ys
  both_written = subst (λ (ts : List ℕ). Written ts ys) (sym same_tokens) b.written

pub first_is_one : DetermineBytes AreBytesOf
first_is_one ts nodes image w xs ys h k a b =
    written_one ts nodes a.tokens xs ys h k a.written (both_written plain (AreWritten ts nodes) ts nodes image w xs ys a b)

pub second_is_one : DetermineBytes AreBytesOf2
second_is_one ts nodes image w xs ys h k a b =
    written_one2 ts nodes a.tokens xs ys h k a.written (both_written plain2 (AreWritten2 ts nodes) ts nodes image w xs ys a b)
