-- How a state is set for a channel, and what is made ready for it.
use Rattle.std.proofs.Common.{◌≡◌, ℕ, zero, suc, ◌+◌, ◌-◌, ◌^◌, ◌<◌, ◌≤◌, ◌⊎◌, inl, inr, List, [], ◌∷◌, ◌++◌, length, map, Bool, true, false, if◌then◌else◌, Option, None, Some, refl, sym, ap, ◌∙◌, subst, arith, get_or, slice_index_or, ℤ}
use Rattle.std.specs.Prelude.{◌==◌, filter, is_some, max, IfSome}
use Rattle.std.specs.List.{All}
use Rattle.std.proofs.lemmas.Bool.{cases_lt}
use Rattle.std.proofs.lemmas.Bool.Decides.{nat_tests}
use Rattle.std.proofs.lemmas.List.Elements.{All-head, All-tail}
use Rattle.std.proofs.lemmas.List.{length-append, length-map, get_or-map, get_or_append_left, nil_from_length}
use Rattle.std.proofs.Math.Seq.{get_or-append_seam}
use Rattle.jxlm_base.specs.declared.subgrid.Region.{Region}
use Rattle.jxlm_predictor.specs.Standing.{HasSameRoom, Setting, Stands, StandsAt, earlier_count, earlier_room_of, room_of, setting}
use Rattle.jxlm_tree.specs.FlatTree.{FlatTree, flat_tree}
use Rattle.jxlm_tree.specs.Tree.{Shape}
use Rattle.jxlm_ma_tree.specs.declared.leaf.Leaf.{Leaf}
use Rattle.jxlm_weighted.specs.declared.weights.WpHeader.{WpHeader}
use Rattle.jxlm_predictor.specs.declared.state.PredictorState.{PredictorState}
use Rattle.jxlm_predictor.proofs.StandingLaws.{stands_earlier}
use Rattle.jxlm_transform.specs.ChannelSteps.{table_channel}
use Rattle.jxlm_transform.specs.Channels.{Channel, IsNarrow, infos}
use Rattle.jxlm_transform.specs.declared.channels.PlacedChannel.{PlacedChannel}
use Rattle.jxlm_samples.specs.Part.{channel, downward, earlier_alike, is_alike}
use Rattle.jxlm_samples.specs.Reading.{HasFlats, HasRoom, HasRoomFor, IsCodingOf, IsRoomy, IsRoomyFor, IsTreeOf, LeadsAlone, alone_at, alone_in, flat, part_of, regions_of, row_width, sampled_width, state_width, tree_of, walked_width, width_in_state}
use Rattle.jxlm_samples.specs.ChannelSettings.{IsAfterChannel, IsNext, StandsIn, all_alike, asked_at, earlier_regions, earlier_for, region_at, setting_of, weights_at}
use Rattle.jxlm_samples.specs.declared.coding.Alone.{Alone}
use Rattle.jxlm_samples.specs.declared.coding.ChannelTree.{ChannelTree}
use Rattle.jxlm_samples.specs.declared.coding.PartCoding.{PartCoding}
use Rattle.jxlm_samples.specs.declared.coding.PartState.{PartState}
use Rattle.jxlm_samples.proofs.CellLaws.{alone_is, asked_is, roomy_still, tree_at}
use Rattle.jxlm_samples.proofs.Earlier.{few, few_earlier, same_alike, same_sides}
use Rattle.jxlm_samples.proofs.Loops.{same_count, same_size}

max_first : (one rest : ℕ) → one ≤ max one rest
max_first one rest = omega arith

max_rest : (one rest n : ℕ) → n ≤ rest → n ≤ max one rest
max_rest one rest n h = omega arith

max_below : (one rest n : ℕ) → one ≤ n → rest ≤ n → max one rest ≤ n
max_below one rest n h k = omega arith

row_within : (none : Bool) (width n : ℕ) → width ≤ n → (if none then 0 else width) ≤ n
row_within true width n h = omega arith
row_within false width n h = h

-- where all channels are narrow, so is the widest with rows
pub narrow_widest : (channels : List Channel) → All IsNarrow channels → sampled_width channels ≤ 2 ^ 30
narrow_widest [] h = omega arith
narrow_widest (c ∷ cs) h =
    max_below (if c.height == 0 then 0 else c.width) (sampled_width cs) (2 ^ 30) (row_within (c.height == 0) c.width (2 ^ 30) (All-head IsNarrow c cs h).0) (narrow_widest cs (All-tail IsNarrow c cs h))

-- ---- channels that are read in the predictors' state

none_by : (o : Option Alone) → is_some o ≡ false → o ≡ None
none_by None is = refl
none_by (Some a) is = cc

whole_width : (none : Bool) (width : ℕ) → none ≡ false → width ≤ (if none then 0 else width)
whole_width true width some = cc
whole_width false width some = omega arith

-- one that is, and has rows, takes its width
takes_width : (alone : Option Alone) (c : Channel) → alone ≡ None → 0 < c.height → c.width ≤ width_in_state alone c
takes_width None c walked some = whole_width (c.height == 0) c.width (grind (arith, nat_tests))
takes_width (Some a) c walked some = cc

-- no such channel is wider than the widest of them
within_walked : (channels : List Channel) (flats : List ChannelTree) (n i : ℕ) → i < n → alone_in flats i ≡ None → 0 < (channel channels i).height → (channel channels i).width ≤ walked_width channels flats n
within_walked channels flats zero i l walked some = absurd (omega arith)
within_walked channels flats (suc n) i l walked some = either (cases_lt i n) (λ lt. within_walked channels flats n i lt walked some) where
  either : (i < n) ⊎ (n ≤ i) → (i < n → (channel channels i).width ≤ walked_width channels flats n) → (channel channels i).width ≤ max (walked_width channels flats n) (width_in_state (alone_in flats n) (channel channels n))
  either (inl lt) before = let h = before lt in omega (arith, h)
  either (inr ge) before =
      let last : i ≡ n = omega (arith, l, ge) in
      let h = takes_width (alone_in flats i) (channel channels i) walked some in
      let same = ap (λ k. width_in_state (alone_in flats k) (channel channels k)) last in
      omega (arith, h, same)

-- they are channels with rows
width_within : (alone : Option Alone) (channels : List Channel) (i : ℕ) → i < length channels → width_in_state alone (channel channels i) ≤ sampled_width channels
width_within alone [] i l = absurd (omega arith)
width_within (Some k) (c ∷ cs) i l = omega arith
width_within None (c ∷ cs) zero l = max_first (if c.height == 0 then 0 else c.width) (sampled_width cs)
width_within None (c ∷ cs) (suc i) l = max_rest (if c.height == 0 then 0 else c.width) (sampled_width cs) _ (width_within None cs i (omega arith))

pub walked_within : (channels : List Channel) (flats : List ChannelTree) (n : ℕ) → n ≤ length channels → walked_width channels flats n ≤ sampled_width channels
walked_within channels flats zero l = omega arith
walked_within channels flats (suc n) l =
    max_below (walked_width channels flats n) (width_in_state (alone_in flats n) (channel channels n)) (sampled_width channels) (walked_within channels flats n (omega arith)) (width_within (alone_in flats n) channels n (omega arith))

-- and so no channel with rows is wider than the widest of these
within_widest : (channels : List Channel) (i : ℕ) → i < length channels → 0 < (channel channels i).height → (channel channels i).width ≤ sampled_width channels
within_widest channels i l some =
    let here = within_walked channels [] (length channels) i l refl some in
    let all = walked_within channels [] (length channels) (omega arith) in
    omega (arith, here, all)

-- where a tree asks for earlier channels, all are given
pub some_asked : (n : ℕ) (all : List Region) → 0 < n → earlier_for n all ≡ all
some_asked zero all h = absurd (omega (arith, h))
some_asked (suc n) all h = refl

module _ {D : Type 0} (c : PartCoding D) (i : ℕ) where
  abbrev passes : ℕ → Bool
  passes e = is_alike (channel (part_of c).channels e) (channel (part_of c).channels i)

  -- the regions of the channels below e that are like channel i
  abbrev pub below : ℕ → List Region
  below e = map (region_at (regions_of c)) (filter passes (downward e))

  below_suc : (e : ℕ) (b : Bool) → passes e ≡ b → below (suc e) ≡ (if b then region_at (regions_of c) e ∷ below e else below e)
  below_suc e true is = rw is refl
  below_suc e false is = rw is refl

  pub one_more : (e : ℕ) (b : Bool) → passes e ≡ b → below (e + 1) ≡ (if b then region_at (regions_of c) e ∷ below e else below e)
  one_more e b is = ap below (let n : e + 1 ≡ suc e = omega arith in n) ∙ below_suc e b is

  -- after a channel that is like it a channel has one earlier channel more
  pub next_alike : (last : ℕ) → i ≡ last + 1 → passes last ≡ true → all_alike c i ≡ region_at (regions_of c) last ∷ all_alike c last
  next_alike last next is =
      ap below next ∙ one_more last true is
      ∙ ap (λ before. region_at (regions_of c) last ∷ map (region_at (regions_of c)) before) (sym (same_alike (part_of c).channels (channel (part_of c).channels last) (channel (part_of c).channels i) last is))

module _ {D X : Type 0} (c : PartCoding D) (i : ℕ) where
  -- The channels below e were looked at: a state is given the regions of those that are like channel i.
  pub record IsUnderWay (room e : ℕ) (old state : PredictorState X) : Type 0 where
    pub stands : (width : ℕ) (weights : Option WpHeader) (samples : List ℤ) → StandsAt old (setting width weights []) samples → StandsAt state (setting width weights (below c i e)) samples
    pub counted : earlier_count state ≡ length (below c i e)
    pub roomy : HasRoomFor room c state

  pub begun : {room : ℕ} (state : PredictorState X) → earlier_count state ≡ 0 → HasRoomFor room c state → IsUnderWay room 0 state state
  begun state none roomy = record { stands = λ width weights samples h. h; counted = none; roomy = roomy }

  -- there is room for one more
  pub has_room : {room : ℕ} (e : ℕ) (old state : PredictorState X) → i < length (regions_of c) → e < i → IsUnderWay room e old state → earlier_count state < earlier_room_of state
  has_room e old state li less h =
      let few = few (passes c i) e in
      let long = length-map (filter (passes c i) (downward e)) (region_at (regions_of c)) in
      let count = h.counted in
      let room = h.roomy.earlier in
      omega (arith, few, long, count, room, li, less)

  pub takes_alike : {room : ℕ} (coding : IsCodingOf c) (li : i < length (regions_of c)) (e : ℕ) (old state new : PredictorState X) → passes c i e ≡ true → IsUnderWay room e old state →
      ((s : Setting) (samples : List ℤ) → StandsAt state s samples → StandsAt new (setting s.width s.weights (region_at (regions_of c) e ∷ s.earlier)) samples) →
      earlier_count new ≡ earlier_count state + 1 → HasSameRoom state new → IsUnderWay room (e + 1) old new
  takes_alike coding li e old state new is h adds more same = record {
    stands = λ width weights samples at. subst (λ rs. StandsAt new (setting width weights rs) samples) (sym (one_more c i e true is)) (adds _ samples (h.stands width weights samples at));
    counted = let n = ap length (one_more c i e true is) in let m = h.counted in omega (arith, n, m, more);
    roomy = roomy_still c coding i li state new same h.roomy;
  }

  pub passes_over : {room : ℕ} (e : ℕ) (old state : PredictorState X) → passes c i e ≡ false → IsUnderWay room e old state → IsUnderWay room (e + 1) old state
  passes_over e old state is h = record {
    stands = λ width weights samples at. subst (λ rs. StandsAt state (setting width weights rs) samples) (sym (one_more c i e false is)) (h.stands width weights samples at);
    counted = h.counted ∙ ap length (sym (one_more c i e false is));
    roomy = h.roomy;
  }

  -- after all, it is given all that are like it, where it had none
  pub all_given : {room : ℕ} (e : ℕ) (old state : PredictorState X) → e ≡ i → earlier_count old ≡ 0 → IsUnderWay room e old state → (s : Setting) (samples : List ℤ) → StandsAt old s samples →
      StandsAt state (setting s.width s.weights (all_alike c i)) samples
  all_given e old state all none h s samples at =
      let first = subst (λ rs. StandsAt old (setting s.width s.weights rs) samples) (nil_from_length s.earlier (sym (stands_earlier old s samples at) ∙ none)) at in
      subst (λ n. StandsAt state (setting s.width s.weights (below c i n)) samples) all (h.stands s.width s.weights samples first)

-- a channel, as it is kept
pub info_at : (placed : List PlacedChannel) (k : ℕ) (d : PlacedChannel) → k < length placed → channel (infos placed) k ≡ (get_or placed k d).info
info_at placed k d l = get_or-map (λ p. p.info) placed k d (table_channel 0 0) l

pub passes_is : {D : Type 0} (c : PartCoding D) (i e : ℕ) (a b : PlacedChannel) (r : Bool) → e < length c.channels.now → i < length c.channels.now →
    r ≡ is_alike (get_or c.channels.now e a).info (get_or c.channels.now i b).info → passes c i e ≡ r
passes_is c i e a b r le li is = ap (λ x. is_alike x (channel (part_of c).channels i)) (info_at c.channels.now e a le) ∙ ap (is_alike (get_or c.channels.now e a).info) (info_at c.channels.now i b li) ∙ sym is

-- there is a channel for each region
pub as_many_channels : {D : Type 0} (c : PartCoding D) → length c.channels.now ≡ length (regions_of c)
as_many_channels c = sym (length-map c.channels.now (λ p. p.region))

module _ {D : Type 0} (c : PartCoding D) (coding : IsCodingOf c) where
  module _ (i : ℕ) (li : i < length (regions_of c)) (r : Region) (is : r ≡ region_at (regions_of c) i) (rows : 0 < r.height) where
    sizes : ((region_at (regions_of c) i).width ≡ (channel (part_of c).channels i).width) × ((region_at (regions_of c) i).height ≡ (channel (part_of c).channels i).height)
    sizes = same_size (part_of c).channels (regions_of c) i coding.sizes li

    there : i < length (part_of c).channels
    there = let n = same_count (part_of c).channels (regions_of c) coding.sizes in omega (arith, n, li)

    some : 0 < (channel (part_of c).channels i).height
    some = subst (λ n. 0 < n) (ap (λ (q : Region). q.height) is ∙ sizes.1) rows

    -- a channel with rows is not wider than a row may be, nor than the state, where it is read in that
    pub fits_widest : r.width ≤ row_width c
    fits_widest = rw (is, sizes.0) (within_widest (part_of c).channels i there some)

    pub fits_state : alone_at c i ≡ None → r.width ≤ state_width c
    fits_state walked = rw (is, sizes.0) (within_walked (part_of c).channels c.flats.now (length (part_of c).channels) i there walked some)

module _ {D : Type 0} (c : PartCoding D) (coding : IsCodingOf c) (i : ℕ) (li : i < length (regions_of c)) (last : ℕ) (next : i ≡ last + 1) (alike : passes c i last ≡ true) where
  sides : ((channel (part_of c).channels last).width ≡ (channel (part_of c).channels i).width) × ((channel (part_of c).channels last).height ≡ (channel (part_of c).channels i).height)
  sides = same_sides (channel (part_of c).channels last) (channel (part_of c).channels i) alike

  before : i < length (regions_of c) → last < length (regions_of c)
  before l = omega (arith, next, l)

  -- the channel before is as wide, and as high
  pub same_width : (region_at (regions_of c) last).width ≡ (region_at (regions_of c) i).width
  same_width = (same_size (part_of c).channels (regions_of c) last coding.sizes (before li)).0 ∙ sides.0 ∙ sym (same_size (part_of c).channels (regions_of c) i coding.sizes li).0

  same_height : (region_at (regions_of c) last).height ≡ (region_at (regions_of c) i).height
  same_height = (same_size (part_of c).channels (regions_of c) last coding.sizes (before li)).1 ∙ sides.1 ∙ sym (same_size (part_of c).channels (regions_of c) i coding.sizes li).1

  -- so the state was last in it, where it was read in the state
  pub was_last : {X : Type 0} (state : PredictorState X) → 0 < (region_at (regions_of c) i).width → 0 < (region_at (regions_of c) i).height → alone_at c last ≡ None → IsAfterChannel c i state → StandsIn c last state
  was_last state columns rows walked after = after last next (subst (λ n. 0 < n) (sym same_width) columns) (subst (λ n. 0 < n) (sym same_height) rows) walked

-- a channel whose tree asks for earlier ones has one before it
pub is_later : {D : Type 0} (c : PartCoding D) (coding : IsCodingOf c) (i : ℕ) (li : i < length (regions_of c)) (other : ChannelTree) → 0 < (slice_index_or c.flats.now i other).asked → 0 < i
is_later c coding i li other some = let n = (tree_at c coding i li other).few in omega (arith, n, some)

module _ {D : Type 0} (c : PartCoding D) (coding : IsCodingOf c) (i : ℕ) (li : i < length (regions_of c)) (other : ChannelTree) where
  -- a channel that is read by a leaf or a table alone is not read in the state
  pub lone_at : (a : Alone) → (slice_index_or c.flats.now i other).alone ≡ Some a → LeadsAlone (tree_of c i) a
  lone_at a is = subst (λ o. IfSome o (LeadsAlone (tree_of c i))) is (tree_at c coding i li other).alone

  pub not_walked : (a : Alone) → (slice_index_or c.flats.now i other).alone ≡ Some a → alone_at c i ≡ None → ⊥
  not_walked a is none = let same = alone_is c coding i li other in cc

  -- one that is not, is
  pub walked_at : is_some (slice_index_or c.flats.now i other).alone ≡ false → alone_at c i ≡ None
  walked_at is = alone_is c coding i li other ∙ none_by (slice_index_or c.flats.now i other).alone is

-- the state has room for the next channel, where it is read in it
pub has_room_for_next : {D X : Type 0} {c : PartCoding D} {i : ℕ} {state : PredictorState X} (n : IsNext c i state) → alone_at c i ≡ None → (region_at (regions_of c) i).width ≤ room_of state
has_room_for_next {c = c} {i = i} n walked = let fits = fits_state c n.coding i n.channel (region_at (regions_of c) i) refl n.rows walked in let room = n.roomy.widest in omega (arith, fits, room)

-- Channel i asks for earlier channels; the one before it is like it and asks for some, and the state was last in that.
pub record ComesAfterAlike {D X : Type 0} (c : PartCoding D) (i : ℕ) (state : PredictorState X) : Type 0 where
  pub next : i ≡ i - 1 + 1
  pub alike : passes c i (i - 1) ≡ true
  pub stood : StandsIn c (i - 1) state
  pub asks : 0 < asked_at c i
  pub asked : 0 < asked_at c (i - 1)

pub comes_after_alike : {D X : Type 0} {c : PartCoding D} {i : ℕ} {state : PredictorState X} (n : IsNext c i state) (o p : ChannelTree) (a b : PlacedChannel) → 0 < (slice_index_or c.flats.now i o).asked →
    is_some (slice_index_or c.flats.now (i - 1) p).alone ≡ false → 0 < (slice_index_or c.flats.now (i - 1) p).asked → true ≡ is_alike (get_or c.channels.now (i - 1) a).info (get_or c.channels.now i b).info → ComesAfterAlike c i state
comes_after_alike {c = c} {i = i} {state = state} n o p a b some none asked same =
    let later = is_later c n.coding i n.channel o some in
    let next : i ≡ i - 1 + 1 = omega (arith, later) in
    let li = n.channel in
    let le : i - 1 < length (regions_of c) = omega (arith, li) in
    let many = as_many_channels c in
    let alike = passes_is c i (i - 1) a b true (omega (arith, many, le)) (omega (arith, many, li)) same in
    record {
      next = next;
      alike = alike;
      stood = was_last c n.coding i li (i - 1) next alike state n.columns n.rows (walked_at c n.coding (i - 1) le p none) n.last;
      asks = rw (asked_is c n.coding i li o) some;
      asked = rw (asked_is c n.coding (i - 1) le p) asked;
    }

module _ {D X : Type 0} (c : PartCoding D) (i : ℕ) where
  -- a state without earlier channels is set for a channel whose tree asks for none
  pub set_for_none : (state : PredictorState X) (weights : Option WpHeader) → weights ≡ weights_at c i → asked_at c i ≡ 0 →
      StandsAt state (setting (region_at (regions_of c) i).width weights []) [] → StandsAt state (setting_of c i) []
  set_for_none state weights same none h =
      let no : earlier_regions c i ≡ [] = ap (λ n. earlier_for n (all_alike c i)) none in
      subst (λ rs. StandsAt state (setting (region_at (regions_of c) i).width (weights_at c i) rs) []) (sym no)
      (subst (λ w. StandsAt state (setting (region_at (regions_of c) i).width w []) []) same h)

  -- one with all earlier channels is set for a channel whose tree asks for some
  pub set_for_all : (state : PredictorState X) (weights : Option WpHeader) → weights ≡ weights_at c i → 0 < asked_at c i →
      StandsAt state (setting (region_at (regions_of c) i).width weights (all_alike c i)) [] → StandsAt state (setting_of c i) []
  set_for_all state weights same asked h =
      subst (λ rs. StandsAt state (setting (region_at (regions_of c) i).width (weights_at c i) rs) []) (sym (some_asked (asked_at c i) (all_alike c i) asked))
      (subst (λ w. StandsAt state (setting (region_at (regions_of c) i).width w (all_alike c i)) []) same h)

  pub somewhere : (state : PredictorState X) → StandsIn c i state → Stands state
  somewhere state h = record { where_set = setting_of c i; before = h.before; stands = h.stands }

  -- it was last in the channel before the next one
  pub after_channel : (state : PredictorState X) → (alone_at c i ≡ None → StandsIn c i state) → IsAfterChannel c (i + 1) state
  after_channel state h = λ last next columns rows walked. let is : last ≡ i = omega (arith, next) in subst (λ n. StandsIn c n state) (sym is) (h (subst (λ n. alone_at c n ≡ None) is walked))

  -- a channel without cells leaves none after it
  pub after_empty : (state : PredictorState X) → (0 < (region_at (regions_of c) i).width → 0 < (region_at (regions_of c) i).height → ⊥) → IsAfterChannel c (i + 1) state
  after_empty state none = λ last next columns rows walked. let is : last ≡ i = omega (arith, next) in absurd ((rw (← is) at none) columns rows)

  -- none was before the first channel
  pub after_none : (state : PredictorState X) → IsAfterChannel c 0 state
  after_none state = λ last next columns rows walked. absurd (omega (arith, next))

-- after a channel that is like it
module _ {D X : Type 0} {c : PartCoding D} {i : ℕ} {old : PredictorState X} (last : ComesAfterAlike c i old) (li : i < length (regions_of c)) (mid : PredictorState X) where
  all : earlier_regions c (i - 1) ≡ all_alike c (i - 1)
  all = some_asked (asked_at c (i - 1)) (all_alike c (i - 1)) last.asked

  -- there is room for that channel
  pub room_for_last : earlier_count mid ≡ earlier_count old → HasSameRoom old mid → HasRoom c old → earlier_count mid < earlier_room_of mid
  room_for_last count same roomy =
      let has = stands_earlier old (setting_of c (i - 1)) last.stood.before last.stood.stands in
      let given = ap length all in
      let long = length-map (earlier_alike (part_of c).channels (i - 1)) (region_at (regions_of c)) in
      let few = few_earlier (part_of c).channels (i - 1) in
      let room = roomy.earlier in
      let kept = same.same_earlier_room in
      let next = last.next in
      omega (arith, has, given, long, few, room, kept, count, next, li)

  -- with it the state has all
  pub set_by_last : (coding : IsCodingOf c) → weights_at c (i - 1) ≡ weights_at c i → (new : PredictorState X) → ((s : Setting) (samples : List ℤ) → StandsAt old s samples → StandsAt mid s []) →
      ((s : Setting) (samples : List ℤ) → StandsAt mid s samples → StandsAt new (setting s.width s.weights (region_at (regions_of c) (i - 1) ∷ s.earlier)) samples) →
      StandsAt new (setting_of c i) []
  set_by_last coding weights new restarts adds =
      let one = adds _ [] (restarts (setting_of c (i - 1)) last.stood.before last.stood.stands) in
      set_for_all c i new (weights_at c (i - 1)) weights last.asks
      (subst (λ rs. StandsAt new (setting (region_at (regions_of c) i).width (weights_at c (i - 1)) rs) [])
      (ap (λ rs. region_at (regions_of c) (i - 1) ∷ rs) all ∙ sym (next_alike c i (i - 1) last.next last.alike))
      (subst (λ n. StandsAt new (setting n (weights_at c (i - 1)) (region_at (regions_of c) (i - 1) ∷ earlier_regions c (i - 1))) []) (same_width c coding i li (i - 1) last.next last.alike) one))

pub no_flats : (t : Shape Leaf) (stream : ℕ) → HasFlats t stream 0 []
no_flats t stream = record { count_is = refl; each = λ i other h. absurd (omega arith) }

-- one flat tree more
pub flats_more : (t : Shape Leaf) (stream k : ℕ) (flats : List ChannelTree) (next : ChannelTree) → HasFlats t stream k flats → IsTreeOf (flat t stream k) next → HasFlats t stream (k + 1) (flats ++ next ∷ [])
flats_more t stream k flats next h is = record {
  count_is = let n = h.count_is in let m = length-append flats (next ∷ []) in omega (arith, n, m);
  each = λ i other less. either i other less (cases_lt i k);
} where
  either : (i : ℕ) (other : ChannelTree) → i < k + 1 → (i < k) ⊎ (k ≤ i) → IsTreeOf (flat t stream i) (get_or (flats ++ next ∷ []) i other)
  either i other less (inl lt) =
      let n = h.count_is in
      subst (IsTreeOf (flat t stream i)) (sym (get_or_append_left flats (next ∷ []) other i (omega (arith, n, lt)))) (h.each i other lt)
  either i other less (inr ge) =
      let n = h.count_is in
      let at : i ≡ length flats = omega (arith, n, less, ge) in
      let it : i ≡ k = omega (arith, less, ge) in
      subst (IsTreeOf (flat t stream i)) (sym (ap (λ n. get_or (flats ++ next ∷ []) n other) at ∙ get_or-append_seam flats next [] other)) (subst (λ n. IsTreeOf (flat t stream n) next) (sym it) is)

-- the flat tree after that of the channel before
pub flat_next : (t : Shape Leaf) (stream channel : ℕ) (flats : List ChannelTree) (other : ChannelTree) (next : FlatTree) → HasFlats t stream channel flats → 0 < channel →
    (let last : FlatTree = (get_or flats (channel - 1) other).flat in next ≡ flat_tree last.tree (last.channel + 1) last.stream_idx (last.prev_channels + 1)) → next ≡ flat t stream channel
flat_next t stream channel flats other next h some is =
    let tree = h.each (channel - 1) other (omega (arith, some)) in
    is ∙ ap (λ (u : FlatTree). flat_tree u.tree (u.channel + 1) u.stream_idx (u.prev_channels + 1)) tree.flat_is ∙ ap (flat t stream) (let n : channel - 1 + 1 ≡ channel = omega (arith, some) in n)

-- a state that has room for channels of flat trees has room for those of a part
pub roomy_for : {D X : Type 0} (c : PartCoding D) (width : ℕ) (state : PartState X) → IsCodingOf c → IsRoomyFor width (row_width c) c.weights c.flats.now state → IsRoomy width c state
roomy_for c width state coding h =
    let wide = h.widest_is in
    let earlier = h.earlier_is in
    let long = h.row_is in
    let count = coding.flats.count_is in
    record {
      predictor = record {
        widest = omega (arith, wide);
        earlier = omega (arith, earlier, count);
        weights = h.weights_is;
      };
      row = omega (arith, long);
    }
