-- A coded image: its tables come first, and its other channels are channels of the picture.
use Rattle.std.proofs.Common.{◌≡◌, ◌∙◌, ◌⊎◌, inl, inr, ℕ, zero, suc, ◌+◌, ◌-◌, ◌<◌, ◌≤◌, Bool, true, false, ℤ, List, [], ◌∷◌, ◌++◌, length, get_or, leb-true, take, drop, IsTrue, Result, Ok, refl, sym, ap, subst, arith, nat_lt, nat_le, not, ◌||◌, if◌then◌else◌}
use Rattle.std.specs.Prelude.{◌&&◌}
use Rattle.std.specs.Int.{Width}
use Rattle.std.specs.List.{All, list_all}
use Rattle.std.proofs.lemmas.Bool.{cases_lt, le-ltb, lt-ltb}
use Rattle.std.proofs.lemmas.List.{get_or-append_right, get_or-drop, get_or-take, get_or_append_left, length-append, length-drop, length-take}
use Rattle.std.proofs.lemmas.List.Elements.{All-head, All-tail}
use Rattle.std.proofs.lemmas.List.Sums.{prefix_len_is}
use Rattle.jxlm_bits.specs.ErrorKind.{BadPalette, BadRct, ErrorKind}
use Rattle.jxlm_base.specs.Grid.{Grid}
use Rattle.jxlm_groups.specs.Cutting.{can_cut, fits_group, global_count, has_cells}
use Rattle.jxlm_transform.specs.Channels.{Channel, ChannelList, image_list}
use Rattle.jxlm_transform.specs.ChannelSteps.{CodedList, PaletteStep, RctStep, Step, coded_list, has_range, keeps_meta, list_after_all, one_size, range, steps_of, table_channel, table_of}
use Rattle.jxlm_transform.specs.Params.{IsGroupDim, IsValidChannel}
use Rattle.jxlm_transform.specs.Transforms.{Transform}
use Rattle.jxlm_transform.specs.declared.channels.ModularChannels.{ModularChannels}
use Rattle.jxlm_transform.specs.declared.param.ModularChannelParams.{ModularChannelParams}
use Rattle.jxlm_transform.specs.declared.transform.Palette.{Palette}
use Rattle.jxlm_transform.proofs.SideBounds.{came}
use Rattle.jxlm_transform.proofs.StepFacts.{both_of, chosen, first_step, in_range, same_ok}
use Rattle.jxl_codestream.specs.Layouts.{Layout, layout_of, section_count_of}
use Rattle.jxl_encode_frame.specs.Laws.{IsOfSize}
use Rattle.jxl_encode_image.specs.Images.{IsCodedImage}
use Rattle.jxl_encode_image.specs.Preparations.{IsSpelled, image_transforms, transform_listed}
use Rattle.jxl_encode_image.specs.declared.transform.ImageTransform.{ImageTransform}
use Rattle.jxl_encode_image.specs.declared.transform.ImageTransform.TheVariants as images
use Rattle.jxl_image_header.specs.declared.size.Size.{Size}
use Rattle.jxl_encode_sections.proofs.OneGroup.{each_fits, one_group}

same_list : (x y : CodedList) → ◌≡◌ {A = Result CodedList ErrorKind} (Ok x) (Ok y) → x ≡ y
same_list x y e = cc

same_steps : (x y : List Step) → ◌≡◌ {A = Result (List Step) ErrorKind} (Ok x) (Ok y) → x ≡ y
same_steps x y e = cc

passes_all : {X : Type 0} (p : X → Bool) (xs : List X) → All (λ x. p x ≡ true) xs → list_all p xs ≡ true
passes_all p [] h = refl
passes_all p (x ∷ xs) h = rw (All-head (λ x. p x ≡ true) x xs h) (passes_all p xs (All-tail (λ x. p x ≡ true) x xs h))

-- a range that begins among the meta channels ends there
ends : (begin n meta : ℕ) → (not (nat_lt begin meta) || nat_le (begin + n) meta) ≡ true → begin < meta → begin + n ≤ meta
ends begin n meta e lt = leb_of (rw_of (nat_lt begin meta) (lt-ltb begin meta lt) e) where
  rw_of : (b : Bool) → b ≡ true → (not b || nat_le (begin + n) meta) ≡ true → nat_le (begin + n) meta ≡ true
  rw_of true s f = f
  rw_of false s f = cc

  leb_of : nat_le (begin + n) meta ≡ true → begin + n ≤ meta
  leb_of f = leb-true (begin + n) meta f

-- the list after a palette
abbrev meta_after : Palette → ChannelList → ℕ
meta_after t l = if nat_lt t.begin_c l.nb_meta then l.nb_meta + 2 - t.num_c else l.nb_meta + 1

abbrev after_palette : Palette → ChannelList → ChannelList
after_palette t l = record { channels = table_of t l.channels ∷ (take (t.begin_c + 1) l.channels ++ drop (t.begin_c + t.num_c) l.channels); nb_meta = meta_after t l }

module _ (P : Channel → Type 0) where
  -- what holds of each channel that is no meta channel
  abbrev AreRest : ChannelList → Type 0
  AreRest l = (l.nb_meta ≤ length l.channels) × ((i : ℕ) (d : Channel) → l.nb_meta ≤ i → i < length l.channels → P (get_or l.channels i d))

  -- holds after a palette
  module _ (t : Palette) (some : 1 ≤ t.num_c) (l : ChannelList) (rest : AreRest l) (there : t.begin_c + t.num_c ≤ length l.channels) (meta : ℕ)
      (is : ((t.begin_c < l.nb_meta) × (t.begin_c + t.num_c ≤ l.nb_meta) × (meta ≡ l.nb_meta + 2 - t.num_c)) ⊎ ((l.nb_meta ≤ t.begin_c) × (meta ≡ l.nb_meta + 1))) where
    abbrev cs : List Channel
    cs = l.channels

    abbrev front : List Channel
    front = take (t.begin_c + 1) cs

    abbrev back : List Channel
    back = drop (t.begin_c + t.num_c) cs

    abbrev m : ChannelList
    m = record { channels = table_of t cs ∷ (front ++ back); nb_meta = meta }

    front_long : length front ≡ t.begin_c + 1
    front_long = let a = length-take (t.begin_c + 1) cs in omega (arith, a, there, some)

    back_long : length back ≡ length cs - (t.begin_c + t.num_c)
    back_long = length-drop (t.begin_c + t.num_c) cs

    long : length (front ++ back) ≡ length cs + 1 - t.num_c
    long = let both = length-append front back in omega (arith, both, front_long, back_long, there, some)

    within : meta ≤ suc (length (front ++ back))
    within =
        let least = rest.0 in
        elim is [
          | inl h ↦ let (a, b, c) = h in omega (arith, long, least, a, b, c, there, some)
          | inr h ↦ let (a, c) = h in omega (arith, long, least, a, c, there, some)
        ]

    low : (j : ℕ) → meta ≤ suc j → j < t.begin_c + 1 → l.nb_meta ≤ j
    low j least lt = elim is [
      | inl h ↦ let (a, b, c) = h in absurd (omega (arith, least, lt, a, b, c, some))
      | inr h ↦ let (a, c) = h in omega (arith, least, c)
    ]

    high : (j : ℕ) → meta ≤ suc j → t.begin_c + 1 ≤ j → l.nb_meta ≤ t.begin_c + t.num_c + (j - (t.begin_c + 1))
    high j least ge = elim is [
      | inl h ↦ let (a, b, c) = h in omega (arith, least, ge, a, b, c, some)
      | inr h ↦ let (a, c) = h in omega (arith, least, ge, c, some)
    ]

    after_rest : (j : ℕ) (d : Channel) → meta ≤ suc j → j < length (front ++ back) → P (get_or (front ++ back) j d)
    after_rest j d least lt = elim (cases_lt j (t.begin_c + 1)) [
      | inl less ↦
          subst P (sym (get_or_append_left front back d j (omega (arith, front_long, less)) ∙ get_or-take (t.begin_c + 1) cs j d less))
          (rest.1 j d (low j least less) (omega (arith, less, there, some)))
      | inr more ↦
          subst P (sym (get_or-append_right front back (t.begin_c + 1) j d front_long more ∙ get_or-drop (t.begin_c + t.num_c) cs (j - (t.begin_c + 1)) d))
          (rest.1 (t.begin_c + t.num_c + (j - (t.begin_c + 1))) d (high j least more) (omega (arith, long, lt, more, there, some)))
    ]

    palette_rest : AreRest m
    palette_rest = (within, each) where
      each : (i : ℕ) (d : Channel) → meta ≤ i → i < suc (length (front ++ back)) → P (get_or m.channels i d)
      each zero d least lt = let low = rest.0 in elim is [
        | inl h ↦ let (a, b, c) = h in absurd (omega (arith, least, a, b, c, some))
        | inr h ↦ let (a, c) = h in absurd (omega (arith, least, c))
      ]
      each (suc j) d least lt = after_rest j d least (omega (arith, lt))

  step_rest : (t : ImageTransform) (l m : ChannelList) (ss : List Step) → IsSpelled (transform_listed t) → steps_of (transform_listed t) l ≡ Ok ss → list_after_all ss l ≡ Ok m → AreRest l → AreRest m
  step_rest (images.Colour t) l m ss spelled e found rest =
      let (k, first, end) = first_step (RctStep t) [] l m (subst (λ (us : List Step). list_after_all us l ≡ Ok m) (sym (same_steps (RctStep t ∷ []) ss e)) found) in
      let picked = chosen (has_range t.begin_c 3 l.channels && one_size (range t.begin_c 3 l.channels)) l k BadRct first in
      subst AreRest (picked.1 ∙ same_ok k m end) rest
  step_rest (images.Palette t) l m ss spelled e found rest =
      let (k, first, end) = first_step (PaletteStep t) [] l m (subst (λ (us : List Step). list_after_all us l ≡ Ok m) (sym (same_steps (PaletteStep t ∷ []) ss e)) found) in
      let here : Bool = has_range t.begin_c t.num_c l.channels in
      let sized : Bool = one_size (range t.begin_c t.num_c l.channels) in
      let kept : Bool = keeps_meta t.begin_c t.num_c l.nb_meta in
      let picked = chosen (here && sized && kept) (after_palette t l) k BadPalette first in
      let both = both_of (here && sized) kept picked.0 in
      let there = in_range t.begin_c t.num_c l.channels (both_of here sized both.0).0 in
      let some = spelled.ranges.some_channels in
      let made : AreRest (after_palette t l) = elim (cases_lt t.begin_c l.nb_meta) [
        | inl lt ↦ palette_rest t some l rest there (meta_after t l) (inl (lt, ends t.begin_c t.num_c l.nb_meta both.1 lt, ap (λ b. if b then l.nb_meta + 2 - t.num_c else l.nb_meta + 1) (lt-ltb t.begin_c l.nb_meta lt)))
        | inr ge ↦ palette_rest t some l rest there (meta_after t l) (inr (ge, ap (λ b. if b then l.nb_meta + 2 - t.num_c else l.nb_meta + 1) (le-ltb t.begin_c l.nb_meta ge)))
      ] in
      subst AreRest (picked.1 ∙ same_ok k m end) made

  list_rest : (ts : List ImageTransform) (l : ChannelList) (c : CodedList) → All IsSpelled (image_transforms ts) → coded_list (image_transforms ts) l ≡ Ok c → AreRest l → AreRest c.list
  list_rest [] l c spelled e rest = subst (λ (x : CodedList). AreRest x.list) (same_list (record { steps = []; list = l }) c e) rest
  list_rest (t ∷ ts) l c spelled e rest =
      let (ss, steps, after_it) = came (steps_of (transform_listed t) l) _ c e in
      let (m, list, others) = came (list_after_all ss l) _ c after_it in
      let (more, all, last) = came (coded_list (image_transforms ts) m) _ c others in
      let next = step_rest t l m ss (All-head IsSpelled (transform_listed t) (image_transforms ts) spelled) steps list rest in
      subst (λ (x : CodedList). AreRest x.list) (same_list (record { steps = ss ++ more.steps; list = more.list }) c last)
      (list_rest ts m more (All-tail IsSpelled (transform_listed t) (image_transforms ts) spelled) all next)

module _ {S : Type 0} (to_int : S → ℤ) (w : Width) (ts : List ImageTransform) (given : List ModularChannelParams) (image : List (Grid ℤ)) (channels : ModularChannels) (store : List (Grid S))
    (coded : IsCodedImage to_int w (image_transforms ts) (image_list given) image channels store) (dim : ℕ) where
  abbrev list : ChannelList
  list = coded.ready.coded.list

  abbrev rest : List Channel
  rest = drop list.nb_meta list.channels

  spelled : All IsSpelled (image_transforms ts)
  spelled = subst (All IsSpelled) coded.transforms_are coded.ready.accepted.spelled

  come : coded_list (image_transforms ts) (image_list given) ≡ Ok coded.ready.coded
  come = subst (λ (us : List Transform). coded_list us (image_list given) ≡ Ok coded.ready.coded) coded.transforms_are coded.ready.accepted.come

  each_rest : (P : Channel → Type 0) → All P (image_list given).channels → AreRest P list
  each_rest P h = list_rest P ts (image_list given) coded.ready.coded spelled come (omega arith, λ i d least lt. h i d lt)

  rest_long : length rest ≡ length list.channels - list.nb_meta
  rest_long = length-drop list.nb_meta list.channels

  pub cells_are_cut : All (λ c. has_cells dim c ≡ true) (image_list given).channels → IsTrue (can_cut dim list)
  cells_are_cut cells =
      let n : ℕ = global_count dim list in
      let each = each_rest (λ c. has_cells dim c ≡ true) cells in
      let all = passes_all (has_cells dim) (drop n list.channels) (λ i d lt.
      let long = length-drop n list.channels in
      subst (λ (c : Channel). has_cells dim c ≡ true) (sym (get_or-drop n list.channels i d)) (each.1 (n + i) d (omega arith) (omega (arith, long, lt)))) in
      subst IsTrue (sym all) refl

  pub one_is_global : IsGroupDim dim → All IsValidChannel given → (size : Size) → All (IsOfSize size) given → (l : Layout) → l ≡ layout_of size dim 1 → section_count_of l ≡ 1 → length list.channels ≤ global_count dim list
  one_is_global group valid size sized l cut is =
      let (wide, high) = one_group dim group size given valid sized (subst (λ (k : Layout). section_count_of k ≡ 1) cut is) in
      let each = each_rest (λ c. fits_group dim c ≡ true) (each_fits dim group size given valid sized wide high) in
      let least = each.0 in
      let all = prefix_len_is (fits_group dim) rest (length rest) (table_channel 0 0) (omega arith) (λ k lt.
      subst (λ (c : Channel). fits_group dim c ≡ true) (sym (get_or-drop list.nb_meta list.channels k (table_channel 0 0))) (each.1 (list.nb_meta + k) (table_channel 0 0) (omega arith) (omega (arith, rest_long, lt))))
      (λ lt. absurd (omega (arith, lt))) in
      omega (arith, all, rest_long, least)
