-- Lists of placed channels, by the channels alone and by the regions alone.
use Rattle.std.proofs.Common.{◌≡◌, ◌∙◌, ◌+◌, ◌-◌, ◌<◌, ◌≤◌, List, [], ◌∷◌, ◌++◌, length, map, take, drop, true, false, Bool, suc, Result, Ok, Err, IfOk, IsOk, refl, sym, ap, subst, arith}
use Rattle.std.specs.Prelude.{◌&&◌, ◌||◌, if◌then◌else◌, nat_lt, IsTrue}
use Rattle.std.specs.List.{All, list_all, list_any}
use Rattle.std.specs.Result.{is_ok}
use Rattle.std.proofs.lemmas.List.{length-map, drop-map, take-map, get_or-map}
use Rattle.jxlm_bits.specs.ErrorKind.{BadPalette, BadSqueeze}
use Rattle.jxlm_transform.specs.Channels.{Channel, ChannelList, infos, regions}
use Rattle.jxlm_transform.specs.ChannelSteps.{can_be_squeezed, has_range, keeps_meta, one_size, range, squeeze_range, with_halves, SqueezeStep, list_after}
use Rattle.jxlm_transform.specs.Ends.{HasEnds}
use Rattle.jxlm_transform.specs.declared.channels.PlacedChannel.{PlacedChannel}
use Rattle.jxlm_transform.specs.declared.transform.Palette.{Palette}
use Rattle.jxlm_transform.specs.declared.transform.SqueezeParams.{SqueezeParams}
use Rattle.std.specs.Prelude.{IsOk}
use Rattle.std.proofs.lemmas.List.{map-append}
use Rattle.std.proofs.lemmas.List.Folds.{list_all-map}
use Rattle.std.proofs.lemmas.List.Sums.{AllPass-from_list_all}
use Rattle.jxlm_base.specs.Regions.{region}
use Rattle.jxlm_transform.specs.ChannelSteps.{PaletteStep, table_of}
use Rattle.jxlm_transform.specs.Layout.{no_region}
use Rattle.jxlm_transform.specs.Lists.{IsAfter, list_of}
use Rattle.jxlm_transform.specs.declared.channels.ModularChannels.{ModularChannels}
use Rattle.jxlm_transform.proofs.Ranges.{range_map, with_halves_map}
use Rattle.jxlm_transform.proofs.RangeParts.{all_range, with_first}
use Rattle.jxlm_transform.proofs.StepFacts.{both_of, in_range}

pub any_map : {X Y : Type 0} (p : Y → Bool) (f : X → Y) (xs : List X) → list_any p (map f xs) ≡ list_any (λ x. p (f x)) xs
any_map p f [] = refl
any_map p f (x ∷ xs) = ap (λ b. p (f x) || b) (any_map p f xs)

-- what is decided by one condition is Ok where that holds
pub ok_if : {X E : Type 0} (b : Bool) (x : X) (e : E) → is_ok (if b then Ok x else Err e) ≡ b
ok_if true x e = refl
ok_if false x e = refl

-- a call that put halves of a range into a list, by either part of its elements
pub put_halves_by : {X Y U E : Type 0} (part : X → Y) (t : SqueezeParams) (f g : Y → Y) (averages residuals xs seen us new : List X) (r : Result U E) → seen ≡ range t.begin_c t.num_c xs → us ≡ averages →
    map part averages ≡ map f (map part seen) → map part residuals ≡ map g (map part seen) →
    IfOk r (λ _. new ≡ with_halves t us residuals xs) →
    IfOk r (λ _. map part new ≡ with_halves t (map f (range t.begin_c t.num_c (map part xs))) (map g (range t.begin_c t.num_c (map part xs))) (map part xs))
put_halves_by {X} part t f g averages residuals xs seen us new (Ok u) same same_us a r e =
    let here : map part seen ≡ range t.begin_c t.num_c (map part xs) = ap (map part) same ∙ sym (range_map part t.begin_c t.num_c xs) in
    ap (map part) (e ∙ ap (λ (ys : List X). with_halves t ys residuals xs) same_us) ∙ with_halves_map part t averages residuals xs
    ∙ ap (λ ys. with_halves t ys (map part residuals) (map part xs)) (a ∙ ap (map f) here) ∙ ap (λ ys. with_halves t (map f (range t.begin_c t.num_c (map part xs))) ys (map part xs)) (r ∙ ap (map g) here)
put_halves_by part t f g averages residuals xs seen us new (Err e) same same_us a r said = tt

-- which lists a squeeze step suits
pub squeeze_suits : (t : SqueezeParams) (l : ChannelList) → is_ok (list_after (SqueezeStep t) l) ≡ (squeeze_range t l && list_all can_be_squeezed (range t.begin_c t.num_c l.channels))
squeeze_suits t l = ok_if (squeeze_range t l && list_all can_be_squeezed (range t.begin_c t.num_c l.channels)) _ _

-- the condition of what is Ok
pub if_ok : {X E : Type 0} (b : Bool) (x : X) (e : E) → IsOk (if◌then◌else◌ {A = Result X E} b (Ok x) (Err e)) → b ≡ true
if_ok true x e h = refl
if_ok false x e h = cc

-- a list with another element instead of a range, before it a first one, by a part of each
pub table_first : {X Y : Type 0} (part : X → Y) (t : Palette) (x : X) (xs new : List X) → new ≡ x ∷ (take (t.begin_c + 1) xs ++ drop (t.begin_c + t.num_c) xs) →
    map part new ≡ part x ∷ (take (t.begin_c + 1) (map part xs) ++ drop (t.begin_c + t.num_c) (map part xs))
table_first part t x xs new is = ap (map part) is ∙ ap (λ ys. part x ∷ ys) (simp (map-append, take-map, drop-map))

-- what a palette does to a list that it suits, and to the places in it
pub palette_after : (t : Palette) (l m : ModularChannels) (table : PlacedChannel) → IsOk (list_after (PaletteStep t) (list_of l)) → 1 ≤ t.num_c →
    table.info ≡ table_of t (infos l.placed.items) → table.region ≡ region l.buffers 0 0 t.nb_colours t.num_c →
    m.placed.items ≡ table ∷ (take (t.begin_c + 1) l.placed.items ++ drop (t.begin_c + t.num_c) l.placed.items) →
    m.nb_meta_channels ≡ (if nat_lt t.begin_c l.nb_meta_channels then l.nb_meta_channels + 2 - t.num_c else l.nb_meta_channels + 1) →
    m.buffers ≡ l.buffers + 1 → IsAfter (PaletteStep t) l m
palette_after t l m table ok some info place items nb_meta buffers =
    let xs : List PlacedChannel = l.placed.items in
    let cs : List Channel = infos xs in
    let here : Bool = has_range t.begin_c t.num_c cs in
    let sized : Bool = one_size (range t.begin_c t.num_c cs) in
    let keeps : Bool = keeps_meta t.begin_c t.num_c l.nb_meta_channels in
    let suits : here && sized && keeps ≡ true = if_ok (here && sized && keeps) _ BadPalette ok in
    let there : t.begin_c + t.num_c ≤ length cs = in_range t.begin_c t.num_c cs (both_of here sized (both_of (here && sized) keeps suits).0).0 in
    let channels : infos m.placed.items ≡ table_of t cs ∷ (take (t.begin_c + 1) cs ++ drop (t.begin_c + t.num_c) cs) =
    table_first (λ p. p.info) t table xs m.placed.items items ∙ ap (λ c. c ∷ (take (t.begin_c + 1) cs ++ drop (t.begin_c + t.num_c) cs)) info in
    let lie : regions m.placed.items ≡ region l.buffers 0 0 t.nb_colours t.num_c ∷ (take (t.begin_c + 1) (regions xs) ++ drop (t.begin_c + t.num_c) (regions xs)) =
    table_first (λ p. p.region) t table xs m.placed.items items ∙ ap (λ r. r ∷ (take (t.begin_c + 1) (regions xs) ++ drop (t.begin_c + t.num_c) (regions xs))) place in
    let long : length cs ≡ length xs = length-map xs (λ p. p.info) in
    let long_too : length (regions xs) ≡ length xs = length-map xs (λ p. p.region) in
    let first = with_first t.begin_c t.num_c (regions xs) no_region (omega (arith, there, some, long, long_too)) in
    let next : m.buffers ≡ suc l.buffers = omega (arith, buffers) in
    record {
      list = rw (suits, channels, nb_meta) refl;
      layout = rw (lie, first, next) refl;
    }

-- the channels of a step that suits them can be squeezed
pub squeezable : (t : SqueezeParams) (l : ModularChannels) → IsOk (list_after (SqueezeStep t) (list_of l)) → All (λ p. IsTrue (can_be_squeezed p.info)) (range t.begin_c t.num_c l.placed.items)
squeezable t l ok =
    let xs : List PlacedChannel = l.placed.items in
    let cs : List Channel = range t.begin_c t.num_c (infos xs) in
    let suits = if_ok (squeeze_range t (list_of l) && list_all can_be_squeezed cs) _ BadSqueeze ok in
    let each : list_all can_be_squeezed (infos (range t.begin_c t.num_c xs)) ≡ true = subst (λ ys. list_all can_be_squeezed ys ≡ true) (range_map (λ p. p.info) t.begin_c t.num_c xs) (both_of (squeeze_range t (list_of l)) (list_all can_be_squeezed cs) suits).1 in
    AllPass-from_list_all (λ p. can_be_squeezed p.info) (range t.begin_c t.num_c xs) (sym (list_all-map can_be_squeezed (λ p. p.info) (range t.begin_c t.num_c xs)) ∙ each)

-- and their regions have ends
pub ends_of : (t : SqueezeParams) (xs : List PlacedChannel) → All HasEnds (regions xs) → All (λ p. HasEnds p.region) (range t.begin_c t.num_c xs)
ends_of t xs ends =
    let ys : List PlacedChannel = range t.begin_c t.num_c xs in
    let all : All HasEnds (regions ys) = subst (All HasEnds) (range_map (λ p. p.region) t.begin_c t.num_c xs) (all_range HasEnds t.begin_c t.num_c (regions xs) ends) in
    λ k d l. subst HasEnds (get_or-map (λ p. p.region) ys k d d.region l) (all k d.region (subst (λ n. k < n) (sym (length-map ys (λ p. p.region))) l))
