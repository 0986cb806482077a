-- The first coded channels of an image, as a part.
use Rattle.std.proofs.Common.{◌≡◌, ℕ, ◌+◌, ◌*◌, List, length, Bool, Result, ap, ◌∙◌, subst, arith, ℤ}
use Rattle.std.proofs.Math.Nat.{mul-le-mul_left}
use Rattle.std.proofs.lemmas.List.{length-map, length-take, take_all}
use Rattle.std.proofs.lemmas.List.Elements.{All-take}
use Rattle.std.specs.Int.{Width}
use Rattle.jxlm_bits.specs.Decoding.{Meaning}
use Rattle.jxlm_base.specs.Regions.{AreApart, Lies}
use Rattle.jxlm_bits.specs.declared.error.Error.{Error}
use Rattle.jxlm_base.specs.declared.subgrid.Region.{Region}
use Rattle.jxlm_chain.proofs.ListsApart.{pairs_take, zip_take}
use Rattle.jxlm_transform.specs.Channels.{Channel, IsNarrow, infos, regions}
use Rattle.jxlm_tree.specs.Steps.{most_steps}
use Rattle.jxlm_tree.specs.Tree.{Shape, depth}
use Rattle.jxlm_ma_tree.specs.declared.leaf.Leaf.{Leaf}
use Rattle.jxlm_tree.proofs.FewSteps.{no_more_steps}
use Rattle.jxlm_weighted.specs.declared.weights.WpHeader.{WpHeader}
use Rattle.jxlm_samples.specs.Decode.{DecodeGives, MovesWithin}
use Rattle.jxlm_samples.specs.Part.{Part}
use Rattle.jxlm_samples.specs.Placed.{PartLies, standing_in}
use Rattle.jxlm_samples.specs.declared.part.PlacedPart.{PlacedPart}
use Rattle.jxlm_samples.proofs.Loops.{same_count}
use Rattle.jxl_modular.specs.Image.{Image, cost_of, front_channels, front_part, front_regions}
use Rattle.jxl_modular.specs.Inner.Filled.{whole_part}
use Rattle.jxl_modular.specs.Inner.Laid.{IsLaidOut}
use Rattle.jxl_modular.specs.Parts.{FrontGives}
use Rattle.jxl_modular.proofs.Laid.{coded_apart, coded_lie, coded_sizes}

-- for each sample no more steps than the tree is deep, and one more
pub by_depth : (before after tried : ℕ) (t : Shape Leaf) → MovesWithin before after (tried * most_steps t) → MovesWithin before after (tried * (depth t + 1))
by_depth before after tried t (more, few) =
    let most = mul-le-mul_left tried (no_more_steps t) in
    (more, omega (arith, few, most))

abbrev part_with : List Channel → WpHeader → Shape Leaf → ℕ → Part
part_with channels weights tree stream = record { channels = channels; weights = weights; tree = tree; stream = stream }

module _ {S D : Type 0} (x : Image S D) (laid : IsLaidOut x) where
  -- the first coded channels lie in the image's store
  pub front_lies : (n : ℕ) (p : PlacedPart D) → infos p.channels.now ≡ front_channels n x → regions p.channels.now ≡ front_regions n x → p.weights ≡ x.weights → PartLies p x.store
  front_lies n p channels lie weights = record {
    sizes = rw (channels, lie) (zip_take _ n x.channels x.coded (coded_sizes x laid));
    narrow = rw channels (All-take IsNarrow n x.channels laid.narrow);
    few = let many : length (infos p.channels.now) ≡ length p.channels.now = length-map p.channels.now (λ c. c.info) in
        let l = length-take n x.channels in let f = laid.few in omega (arith, l, f, many, ap (λ cs. length cs) channels);
    weights = rw weights laid.weights;
    lie = rw lie (All-take (λ r. Lies r x.store) n x.coded (coded_lie x laid));
    apart = rw lie (pairs_take AreApart n x.coded (coded_apart x laid));
  }

  -- as many as there are coded channels are all of them
  pub all_channels : front_channels (length x.channels) x ≡ x.channels
  all_channels = take_all (length x.channels) x.channels (omega arith)

  pub all_regions : front_regions (length x.channels) x ≡ x.coded
  all_regions = let n = same_count x.channels x.coded (coded_sizes x laid) in take_all (length x.channels) x.coded (omega (arith, n))

  pub all_is_whole : (stream : ℕ) → front_part (length x.channels) x stream ≡ whole_part x stream
  all_is_whole stream = ap (λ cs. part_with cs x.weights x.config.tree stream) all_channels

-- What decoding all coded channels of an image returns.
module _ {S D : Type 0} (d : Meaning D) (w : Width) (to_int : S → ℤ) (bytes : List ℕ) (stream : ℕ) (old : Image S D) (p : ℕ) (partial : Bool) (before : ℕ)
    (new : Image S D) (q : ℕ) (still : Bool) (after : ℕ) (allow : Bool) (result : Result (Unit {0}) Error) where
  abbrev pub WholeGives : Type 0
  WholeGives =
      (tried : ℕ) × DecodeGives d w (whole_part old stream) bytes old.config.decoder (standing_in to_int old.coded old.store p partial) (standing_in to_int old.coded new.store q still) allow result tried
      × MovesWithin before after (tried * cost_of old)

  pub whole_gives : (n : ℕ) → n ≡ length old.channels → IsLaidOut old → FrontGives d w to_int bytes stream n old p partial before new q still after allow result → WholeGives
  whole_gives n is laid h = (
    h.0,
    subst (λ (part : Part). DecodeGives d w part bytes old.config.decoder (standing_in to_int old.coded old.store p partial) (standing_in to_int old.coded new.store q still) allow result h.0)
        (ap (λ k. front_part k old stream) is ∙ all_is_whole old laid stream)
        (subst (λ (rs : List Region). DecodeGives d w (front_part n old stream) bytes old.config.decoder (standing_in to_int rs old.store p partial) (standing_in to_int rs new.store q still) allow result h.0)
        (ap (λ k. front_regions k old) is ∙ all_regions old laid) h.1),
    by_depth before after h.0 old.config.tree h.2,
  )
