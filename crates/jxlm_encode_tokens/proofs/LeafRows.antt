-- Rows of a channel whose leaves are as one.
use Rattle.std.proofs.Common.{◌≡◌, ◌≢◌, ◌⊎◌, inl, inr, ℕ, suc, ◌+◌, ◌*◌, ◌<◌, List, [], length, take, map, refl, sym, ap, ◌∙◌, subst, arith, ℤ, pos}
use Rattle.std.specs.Prelude.{get_or, ◌+ℤ◌, ◌-ℤ◌, ◌*ℤ◌, Bool, true, false}
use Rattle.std.specs.Int.{Width, w32, int_wrap}
use Rattle.std.proofs.lemmas.List.{get_or-take, get_or_default, length-map}
use Rattle.std.proofs.lemmas.Nat.{mul-le}
use Rattle.jxlm_bits.specs.Numbers.{clamped_gradient, unpack}
use Rattle.jxlm_base.specs.Grid.{Grid}
use Rattle.jxlm_base.specs.Regions.{grid_of, store_meanings}
use Rattle.jxlm_base.specs.declared.subgrid.Region.{Region}
use Rattle.jxlm_tree.specs.ClusterTables.{Clusters, table_leaf}
use Rattle.jxlm_tree.specs.FlatTree.{FlatTree, leaf_reached}
use Rattle.jxlm_tree.specs.Paths.{IsGradientTable}
use Rattle.jxlm_tree.specs.ShortTrees.{Fits}
use Rattle.jxlm_tree.specs.Tree.{AllLeaves}
use Rattle.jxlm_ma_tree.specs.declared.leaf.Leaf.{Leaf}
use Rattle.jxlm_tree.proofs.FlatTrees.{standing_leaf}
use Rattle.jxlm_predictor.specs.Holding.{surroundings}
use Rattle.jxlm_weighted.specs.Neighbours.{at, column, neighbours, row as line}
use Rattle.jxlm_predictor.specs.Predictions.{prediction}
use Rattle.jxlm_predictor.specs.declared.predictor.Predictor.{Predictor}
use Rattle.jxlm_predictor.specs.declared.predictor.Predictor.TheVariants.{Zero, Gradient}
use Rattle.jxlm_samples.specs.Part.{clamps, place_by}
use Rattle.jxlm_samples.specs.Reading.{IsCodingOf, LeadsAlone, ReadsAlone, part_of, regions_of, tree_of}
use Rattle.jxlm_samples.specs.declared.coding.Alone.TheVariants as alone
use Rattle.jxlm_samples.specs.declared.coding.PartCoding.{PartCoding}
use Rattle.jxlm_samples.specs.ChannelSettings.{region_at, setting_of, weights_at}
use Rattle.jxlm_samples.specs.RowNeighbours.{gradient_in, north_in, north_west_in, property_9_in, sum_by, west_in}
use Rattle.jxlm_predictor.specs.Properties.{gradient_at}
use Rattle.std.proofs.lemmas.Bool.{true≢false}
use Rattle.std.proofs.lemmas.Int.{SFits-int_wrap, int_wrap_fits}
use Rattle.jxlm_samples.proofs.ClampedSums.{by-fit}
use Rattle.jxlm_samples.proofs.NextSample.{place-fit}
use Rattle.jxlm_samples.proofs.RowNeighbours.{from_three, zero_is}
use Rattle.jxlm_encode_tokens.specs.Inner.Walks.{AreLeafTokens, AreRowTokens, HasRow, IsLoneLeaf, IsNextToken}
use Rattle.jxlm_encode_tokens.specs.Tokens.{IsSampleToken, MultipliesByOne}
use Rattle.jxlm_encode_tokens.specs.Inner.Forms.{Form, IsLeafToken}
use Rattle.jxlm_encode_tokens.proofs.Cells.{number_is, own_long, token_is, within_at}

-- leaves that differ in the cluster alone have the same tokens
same_token : (w : Width) (k l : Leaf) (q : Predictor → ℤ) (sample : ℤ) (token : ℕ) → k.predictor ≡ l.predictor → k.offset ≡ l.offset → k.multiplier ≡ l.multiplier →
    IsSampleToken w l (q l.predictor) sample token → IsSampleToken w k (q k.predictor) sample token
same_token w k l q sample token p o m h = record {
  fits = h.fits;
  stands =
      ap (λ r. int_wrap w (unpack token *ℤ pos k.multiplier +ℤ k.offset +ℤ q r)) p
      ∙ ap (λ z. int_wrap w (unpack token *ℤ pos k.multiplier +ℤ z +ℤ q l.predictor)) o
      ∙ ap (λ n. int_wrap w (unpack token *ℤ pos n +ℤ l.offset +ℤ q l.predictor)) m
      ∙ h.stands;
}

-- leaves agree, but for the cluster where clusters are not kept
record Agree (clustered : Bool) (k l : Leaf) : Type 0 where
  predictor : k.predictor ≡ l.predictor
  offset : k.offset ≡ l.offset
  multiplier : k.multiplier ≡ l.multiplier
  cluster : clustered ≡ true → k.cluster ≡ l.cluster

same_kept : {T : Type 0} (form : Form T) (w : Width) (k l : Leaf) (q : Predictor → ℤ) (sample : ℤ) (token : T) → Agree form.clustered k l →
    IsLeafToken form w l (q l.predictor) sample token → IsLeafToken form w k (q k.predictor) sample token
same_kept form w k l q sample token a h = record {
  value = same_token w k l q sample (form.value token) a.predictor a.offset a.multiplier h.value;
  cluster = λ yes. h.cluster yes ∙ sym (a.cluster yes);
}

-- a leaf by which rows are read alone
of_leaf : (l : Leaf) → ReadsAlone l → (l.predictor ≡ Zero) ⊎ (l.predictor ≡ Gradient)
of_leaf l (inl zero_is) = inl zero_is
of_leaf l (inr plain) = inr plain.0

pub lone_of_leaf : (clustered : Bool) (t : FlatTree) (l : Leaf) → LeadsAlone t (alone.Leaf l) → AllLeaves MultipliesByOne t.tree → IsLoneLeaf clustered t l
lone_of_leaf clustered t l leads ones = record {
  predictors = λ f fit. ap (λ (k : Leaf). k.predictor) (leads.0.leaf f);
  offsets = λ f fit. ap (λ (k : Leaf). k.offset) (leads.0.leaf f);
  multipliers = λ f fit. ap (λ (k : Leaf). k.multiplier) (leads.0.leaf f);
  clusters = λ yes f fit. ap (λ (k : Leaf). k.cluster) (leads.0.leaf f);
  predictor = of_leaf l leads.1;
  one = standing_leaf MultipliesByOne t.tree l ones leads.0.stands;
}

-- the leaves of a table
in_table : (t : FlatTree) (c : Clusters) → IsGradientTable t c → (f : ℕ → ℤ) → Fits f → leaf_reached t f ≡ table_leaf c (f c.property)
in_table t c table f fit = table.table.leaf f (record { low = λ k. fit.low c.property; high = λ k. fit.high c.property })

-- they are as one where clusters are not kept
pub lone_of_table : (clustered : Bool) (t : FlatTree) (c : Clusters) (l : Leaf) → clustered ≡ false → IsGradientTable t c → l.predictor ≡ Gradient → l.offset ≡ pos 0 → l.multiplier ≡ 1 → IsLoneLeaf clustered t l
lone_of_table clustered t c l off table p o m = record {
  predictors = λ f fit. ap (λ (k : Leaf). k.predictor) (in_table t c table f fit) ∙ table.gradient.1.0 ∙ sym p;
  offsets = λ f fit. ap (λ (k : Leaf). k.offset) (in_table t c table f fit) ∙ table.gradient.1.1.0 ∙ sym o;
  multipliers = λ f fit. ap (λ (k : Leaf). k.multiplier) (in_table t c table f fit) ∙ table.gradient.1.1.1 ∙ sym m;
  clusters = λ yes. absurd (true≢false (sym yes ∙ off));
  predictor = inr p;
  one = m;
}

module _ {D X : Type 0} (c : PartCoding D) (coding : IsCodingOf c) (i : ℕ) (li : i < length (regions_of c)) (to_int : X → ℤ) (store : List (Grid X)) (y : ℕ) (row : List X) (has : HasRow c store i y row)
    (w : Width) {T : Type 0} (form : Form T) where
  abbrev reg : Region
  reg = region_at (regions_of c) i

  abbrev ints : List (Grid ℤ)
  ints = store_meanings to_int store

  abbrev own : List ℤ
  own = (grid_of ints reg).cells

  abbrev numbers : List ℤ
  numbers = map to_int row

  -- the cells before column x
  abbrev before : ℕ → List ℤ
  before x = take (y * reg.width + x) own

  -- the properties of the cell in column x
  abbrev of_place : ℕ → ℕ → ℤ
  of_place x = place_by (clamps (part_of c) i) (surroundings (setting_of c i) ints (before x))

  fit : (x : ℕ) → Fits (of_place x)
  fit x = by-fit (clamps (part_of c) i) (surroundings (setting_of c i) ints (before x)) (place-fit (surroundings (setting_of c i) ints (before x)))

  -- at leaves with which those that are reached agree, and over the predictions of these
  by_leaves : (leaves : ℕ → Leaf) (predicted : ℕ → ℤ) → ((x : ℕ) → x < reg.width → Agree form.clustered (leaf_reached (tree_of c i) (of_place x)) (leaves x)) →
      ((x : ℕ) → x < reg.width → prediction (weights_at c i) (before x) reg.width (leaves x).predictor ≡ predicted x) →
      (out : List T) → AreLeafTokens form w leaves predicted numbers reg.width out → AreRowTokens c w to_int store form i y reg.width out
  by_leaves leaves predicted agree same out tokens x d px =
      let sample : ℤ = get_or numbers x (pos 0) in
      let token : T = get_or out x d in
      let here : IsLeafToken form w (leaves x) (prediction (weights_at c i) (before x) reg.width (leaves x).predictor) sample token =
      subst (λ z. IsLeafToken form w (leaves x) z sample token) (sym (same x px)) (tokens x d px) in
      let next : IsNextToken form (clamps (part_of c) i) (tree_of c i) w ints (setting_of c i) (before x) sample token =
      same_kept form w (leaf_reached (tree_of c i) (of_place x)) (leaves x) (prediction (weights_at c i) (before x) reg.width) sample token (agree x px) here in
      token_is c coding i li to_int store (y * reg.width + x) (within_at c coding i li to_int store x y px has.below) form w (tree_of c i) sample token refl
      (number_is c coding i li to_int store x y px has.below row has) next

  lone_agrees : (l : Leaf) → IsLoneLeaf form.clustered (tree_of c i) l → (x : ℕ) → Agree form.clustered (leaf_reached (tree_of c i) (of_place x)) l
  lone_agrees l lone x = record {
    predictor = lone.predictors (of_place x) (fit x);
    offset = lone.offsets (of_place x) (fit x);
    multiplier = lone.multipliers (of_place x) (fit x);
    cluster = λ yes. lone.clusters yes (of_place x) (fit x);
  }

  -- another row above it, or none above the first one
  module _ (above : List X) (none : y ≡ 0 → above ≡ []) (over : (z : ℕ) → y ≡ suc z → HasRow c store i z above) where
    own_there : (x : ℕ) → x < reg.width → (a : ℕ) → a < x → at (before x) reg.width a y ≡ get_or numbers a (pos 0)
    own_there x px a less =
        get_or-take (y * reg.width + x) own (y * reg.width + a) (pos 0) (omega (arith, less))
        ∙ sym (number_is c coding i li to_int store a y (omega (arith, less, px)) has.below row has)

    above_there : (x : ℕ) → x < reg.width → (z : ℕ) → y ≡ suc z → (a : ℕ) (e : ℤ) → a < reg.width → at (before x) reg.width a z ≡ get_or (map to_int above) a e
    above_there x px z is a e pa =
        let up = over z is in
        let m = mul-le (suc z) reg.width y reg.width (omega (arith, is)) (omega arith) in
        let n = length-map above to_int in
        let long = up.long in
        get_or-take (y * reg.width + x) own (z * reg.width + a) (pos 0) (omega (arith, m, pa))
        ∙ sym (number_is c coding i li to_int store a z pa up.below above up)
        ∙ get_or_default (map to_int above) a (pos 0) e (omega (arith, n, long, pa))

    -- what is computed from the three nearest neighbours
    by_three : (f : ℤ → ℤ → ℤ → ℤ) (x : ℕ) → x < reg.width →
        f (neighbours (before x) reg.width).n (neighbours (before x) reg.width).w (neighbours (before x) reg.width).nw
        ≡ f (north_in (map to_int above) numbers x) (west_in (map to_int above) numbers x) (north_west_in (map to_int above) numbers x)
    by_three f x px =
        from_three (before x) (map to_int above) numbers reg.width f x y (own_long c coding i li to_int store x y px has.below) px (λ first. ap (map to_int) (none first)) (above_there x px) (own_there x px)

    gradient_is : (x : ℕ) → x < reg.width → prediction (weights_at c i) (before x) reg.width Gradient ≡ gradient_in (map to_int above) numbers x
    gradient_is x px = by_three (λ n w nw. int_wrap w32 (clamped_gradient n w nw)) x px

    -- property 9, as a walk sees it
    property_by : (b : Bool) (x : ℕ) → x < reg.width → place_by b (surroundings (setting_of c i) ints (before x)) 9 ≡ property_9_in (map to_int above) numbers b x
    property_by true x px = by_three (λ n w nw. sum_by true (w -ℤ nw +ℤ n)) x px
    property_by false x px =
        int_wrap_fits w32 (gradient_at (before x) reg.width (column (before x) reg.width) (line (before x) reg.width)) (SFits-int_wrap w32 _)
        ∙ by_three (λ n w nw. int_wrap w32 (w -ℤ nw +ℤ n)) x px

    -- where a table gives the leaves
    pub table_tokens : (t : Clusters) → IsGradientTable (tree_of c i) t → (b : Bool) → b ≡ clamps (part_of c) i → (out : List T) →
        AreLeafTokens form w (λ x. table_leaf t (property_9_in (map to_int above) numbers b x)) (gradient_in (map to_int above) numbers) numbers (length row) out → AreRowTokens c w to_int store form i y reg.width out
    table_tokens t table b clamped out tokens =
        by_leaves (λ x. table_leaf t (property_9_in (map to_int above) numbers b x)) (gradient_in (map to_int above) numbers)
        (λ x px.
        let e : leaf_reached (tree_of c i) (of_place x) ≡ table_leaf t (property_9_in (map to_int above) numbers b x) =
        in_table (tree_of c i) t table (of_place x) (fit x) ∙ ap (λ (k : ℕ). table_leaf t (of_place x k)) table.gradient.0
        ∙ ap (table_leaf t) (property_by (clamps (part_of c) i) x px ∙ ap (λ (v : Bool). property_9_in (map to_int above) numbers v x) (sym clamped)) in
        record {
          predictor = ap (λ (k : Leaf). k.predictor) e;
          offset = ap (λ (k : Leaf). k.offset) e;
          multiplier = ap (λ (k : Leaf). k.multiplier) e;
          cluster = λ yes. ap (λ (k : Leaf). k.cluster) e;
        })
        (λ x px. ap (prediction (weights_at c i) (before x) reg.width) table.gradient.1.0 ∙ gradient_is x px) out
        (subst (λ n. AreLeafTokens form w (λ x. table_leaf t (property_9_in (map to_int above) numbers b x)) (gradient_in (map to_int above) numbers) numbers n out) has.long tokens)

    -- where one leaf predicts by the clamped gradient
    pub gradient_tokens : (l : Leaf) → IsLoneLeaf form.clustered (tree_of c i) l → l.predictor ≡ Gradient → (out : List T) →
        AreLeafTokens form w (λ x. l) (gradient_in (map to_int above) numbers) numbers reg.width out → AreRowTokens c w to_int store form i y reg.width out
    gradient_tokens l lone is out tokens =
        by_leaves (λ x. l) (gradient_in (map to_int above) numbers) (λ x px. lone_agrees l lone x) (λ x px. ap (prediction (weights_at c i) (before x) reg.width) is ∙ gradient_is x px) out tokens

  -- where one leaf predicts by 0
  pub zero_tokens : (l : Leaf) → IsLoneLeaf form.clustered (tree_of c i) l → l.predictor ≡ Zero → (out : List T) → AreLeafTokens form w (λ x. l) (λ x. pos 0) numbers reg.width out →
      AreRowTokens c w to_int store form i y reg.width out
  zero_tokens l lone is out tokens =
      by_leaves (λ x. l) (λ x. pos 0) (λ x px. lone_agrees l lone x) (λ x px. ap (prediction (weights_at c i) (before x) reg.width) is ∙ zero_is (weights_at c i) (before x) reg.width) out tokens

-- a leaf that predicts by 0 or by the clamped gradient, and not by 0
pub other_predictor : (l : Leaf) → (l.predictor ≡ Zero) ⊎ (l.predictor ≡ Gradient) → l.predictor ≢ Zero → l.predictor ≡ Gradient
other_predictor l (inl zero_is) not = absurd (not zero_is)
other_predictor l (inr is) not = is
