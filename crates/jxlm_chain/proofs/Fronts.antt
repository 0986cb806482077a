-- Steps at the front of a list are steps of the list.
use Rattle.std.proofs.Common.{◌≡◌, ℕ, ◌+◌, ◌-◌, ◌≤◌, ◌<◌, Bool, true, false, ◌&&◌, if◌then◌else◌, nat_lt, List, [], ◌∷◌, ◌++◌, length, map, take, drop, get_or, Result, Ok, Err, refl, sym, ap, ◌∙◌, subst, append_assoc, le-leb, arith}
use Rattle.std.specs.List.{list_all}
use Rattle.std.proofs.lemmas.Bool.{le-ltb}
use Rattle.std.proofs.lemmas.List.{take-append-le, drop-append-le, length-append, length-map, length-take, length-drop, take_all, drop_all, append-nil, take_more, map-append}
use Rattle.jxlm_bits.specs.ErrorKind.{ErrorKind, BadSqueeze}
use Rattle.jxlm_base.specs.declared.subgrid.Region.{Region}
use Rattle.jxlm_transform.specs.Channels.{Channel, ChannelList, HasItsMeta}
use Rattle.jxlm_transform.specs.Lists.{list_of, layout_of}
use Rattle.jxlm_transform.specs.ChannelSteps.{Step, SqueezeStep, average_channel, residual_channel, can_be_squeezed, list_after, range, squeeze_range, with_halves, with_each_halved}
use Rattle.jxlm_transform.specs.SqueezedRegions.{average_region, residual_region}
use Rattle.jxlm_transform.specs.Steps.{Sides, tables_of}
use Rattle.jxlm_transform.specs.declared.transform.SqueezeParams.{SqueezeParams}
use Rattle.jxlm_chain.specs.Inner.Fronts.{AppendsLast, FrontGoesOn, IsFrontOf, KeepsRest, is_within, layout_with, list_with, meta_after, suits_meta}
use Rattle.jxlm_transform.specs.Layout.{Layout, layout_after, layout_after_all}
use Rattle.jxlm_chain.specs.Placed.{GoesOn, IsPlaced, sides_in}
use Rattle.jxlm_chain.specs.Undo.{Undo, UndoSqueeze, undo_of_all}
use Rattle.jxlm_chain.specs.Undoings.{undos_of}
use Rattle.jxlm_chain.specs.declared.front.Front.{Front}
use Rattle.jxlm_chain.specs.declared.placed.PlacedChannels.{PlacedChannels}
use Rattle.jxlm_chain.proofs.ListLaws.{length-range}
use Rattle.jxlm_chain.proofs.PlacedSteps.{even_of, undos_both, layout_both}
use Rattle.jxlm_transform.proofs.StepFacts.{chosen, squeeze_applies}

module _ {X : Type 0} where
  -- a range of the front
  pub front_range : (b n : ℕ) (f tl : List X) → b + n ≤ length f → range b n (f ++ tl) ≡ range b n f
  front_range b n f tl le =
      ap (λ ys. take (b + n - b) ys) (drop-append-le b f tl (omega arith)) ∙ take-append-le (b + n - b) (drop b f) tl (let l = length-drop b f in omega arith)

  -- both halves in their place
  pub inside_front : (t : SqueezeParams) (g h : X → X) (f tl : List X) → t.in_place ≡ true → t.begin_c + t.num_c ≤ length f → with_each_halved t g h (f ++ tl) ≡ with_each_halved t g h f ++ tl
  inside_front t g h f tl inside le =
      let us : List X = map g (range t.begin_c t.num_c f) ++ map h (range t.begin_c t.num_c f) in
      rw (front_range t.begin_c t.num_c f tl le, inside, take-append-le t.begin_c f tl (omega arith), drop-append-le (t.begin_c + t.num_c) f tl le)
      (sym (append_assoc (take t.begin_c f ++ us) (drop (t.begin_c + t.num_c) f) tl))

  -- averages in their place, and residuals at the end
  pub halves_at_end : (t : SqueezeParams) (g h : X → X) (f tl : List X) → t.in_place ≡ false → t.begin_c + t.num_c ≤ length f →
      with_each_halved t g h (f ++ tl) ≡ take t.begin_c f ++ map g (range t.begin_c t.num_c f) ++ drop (t.begin_c + t.num_c) f ++ tl ++ map h (range t.begin_c t.num_c f)
  halves_at_end t g h f tl at_end le =
      rw (front_range t.begin_c t.num_c f tl le, at_end, take-append-le t.begin_c f tl (omega arith), drop-append-le (t.begin_c + t.num_c) f tl le)
      (ap (λ ys. ys ++ map h (range t.begin_c t.num_c f)) (sym (append_assoc (take t.begin_c f ++ map g (range t.begin_c t.num_c f)) (drop (t.begin_c + t.num_c) f) tl)))

-- a step of a list is that of its front
pub whole_step : (t : SqueezeParams) (f tl : List Channel) (m : ℕ) → t.begin_c + t.num_c ≤ length f → suits_meta m t ≡ true →
    list_after (SqueezeStep t) (record { channels = f ++ tl; nb_meta = m }) ≡
    (if list_all can_be_squeezed (range t.begin_c t.num_c f) then Ok (record { channels = with_each_halved t (average_channel t.horizontal) (residual_channel t.horizontal) (f ++ tl); nb_meta = meta_after m t }) else Err BadSqueeze)
whole_step t f tl m le suits =
    let there = le-leb (t.begin_c + t.num_c) (length (f ++ tl)) (let l = length-append f tl in omega arith) in
    rw (there, suits, front_range t.begin_c t.num_c f tl le) refl

module _ {X : Type 0} where
  -- as many more as the range has
  pub length_halved : (t : SqueezeParams) (g h : X → X) (f : List X) → t.begin_c + t.num_c ≤ length f → length (with_each_halved t g h f) ≡ length f + t.num_c
  length_halved t g h f le = sized t.in_place refl where
    rs : List X
    rs = range t.begin_c t.num_c f

    many : length rs ≡ t.num_c
    many = length-range t.begin_c t.num_c f le

    sized : (inside : Bool) → t.in_place ≡ inside → length (with_each_halved t g h f) ≡ length f + t.num_c
    sized true e =
        let a = length-append (take t.begin_c f ++ (map g rs ++ map h rs)) (drop (t.begin_c + t.num_c) f) in
        let b = length-append (take t.begin_c f) (map g rs ++ map h rs) in
        let c = length-append (map g rs) (map h rs) in
        let k = length-take t.begin_c f in
        let d = length-drop (t.begin_c + t.num_c) f in
        let m = length-map rs g in
        let n = length-map rs h in
        rw e (omega (arith, a, b, c, k, d, m, n, many, le))
    sized false e =
        let a = length-append (take t.begin_c f ++ map g rs ++ drop (t.begin_c + t.num_c) f) (map h rs) in
        let b = length-append (take t.begin_c f ++ map g rs) (drop (t.begin_c + t.num_c) f) in
        let c = length-append (take t.begin_c f) (map g rs) in
        let k = length-take t.begin_c f in
        let d = length-drop (t.begin_c + t.num_c) f in
        let m = length-map rs g in
        let n = length-map rs h in
        rw e (omega (arith, a, b, c, k, d, m, n, many, le))

  -- residuals at the end of the front go to the end of the list
  pub end_front : (t : SqueezeParams) (g h : X → X) (f new us : List X) (k count : ℕ) → t.in_place ≡ false → t.begin_c + t.num_c ≤ length f → count ≤ length us → new ≡ with_each_halved t g h f → k + t.num_c ≡ length new →
      take k new ++ drop count (us ++ drop k new) ≡ with_each_halved t g h (f ++ drop count us)
  end_front t g h f new us k count at_end le there is long =
      let rs : List X = range t.begin_c t.num_c f in
      let base : List X = take t.begin_c f ++ map g rs ++ drop (t.begin_c + t.num_c) f in
      let both : new ≡ base ++ map h rs = is ∙ rw at_end refl in
      let many = length-range t.begin_c t.num_c f le in
      let one = length-map rs h in
      let two = length-append base (map h rs) in
      let three : length new ≡ length (base ++ map h rs) = ap length both in
      let cut : k ≡ length base = omega (arith, many, one, two, three, long) in
      let kept : take k new ≡ base = ap (take k) both ∙ take-append-le k base (map h rs) (omega (arith, cut)) ∙ take_all k base (omega (arith, cut)) in
      let last : drop k new ≡ map h rs = ap (drop k) both ∙ drop-append-le k base (map h rs) (omega (arith, cut)) ∙ ap (λ ys. ys ++ map h rs) (drop_all k base (omega (arith, cut))) in
      rw (kept, last, drop-append-le count us (map h rs) there) (sym (append_assoc base (drop count us) (map h rs)) ∙ sym (halves_at_end t g h f (drop count us) at_end le))

-- ---- one step

-- what a squeeze step that suits a list makes of the number of meta channels
pub squeezed_meta : (t : SqueezeParams) (l m : ChannelList) → list_after (SqueezeStep t) l ≡ Ok m → m.nb_meta ≡ meta_after l.nb_meta t
squeezed_meta t l m e =
    let cs : List Channel = range t.begin_c t.num_c l.channels in
    let (test, same) = chosen (squeeze_range t l && list_all can_be_squeezed cs) (record {
      channels = with_halves t (map (average_channel t.horizontal) cs) (map (residual_channel t.horizontal) cs) l.channels;
      nb_meta = meta_after l.nb_meta t;
    }) m BadSqueeze e in
    sym (λ i. (same i).nb_meta)

none_after : (t : SqueezeParams) (a b : ℕ) → a ≡ 0 → b ≡ meta_after a t → b ≡ 0
none_after t a b none is = is ∙ rw (none, le-ltb t.begin_c 0 (omega arith)) refl

meta_grows : (m : ℕ) (t : SqueezeParams) → meta_after m t ≤ m + t.num_c
meta_grows m t = grows (nat_lt t.begin_c m) where
  grows : (b : Bool) → (if b then m + t.num_c else m) ≤ m + t.num_c
  grows true = omega arith
  grows false = omega arith

-- a step that suits the front suits the list, if the meta channels allow it
pub suits_whole : (t : SqueezeParams) (f new tl all : List Channel) (a b m n : ℕ) → list_after (SqueezeStep t) (record { channels = f; nb_meta = a }) ≡ Ok (record { channels = new; nb_meta = b }) → suits_meta m t ≡ true →
    all ≡ with_each_halved t (average_channel t.horizontal) (residual_channel t.horizontal) (f ++ tl) → n ≡ meta_after m t →
    list_after (SqueezeStep t) (record { channels = f ++ tl; nb_meta = m }) ≡ Ok (record { channels = all; nb_meta = n })
suits_whole t f new tl all a b m n e suits is meta =
    let applies = squeeze_applies t (record { channels = f; nb_meta = a }) (record { channels = new; nb_meta = b }) e in
    whole_step t f tl m applies.there suits ∙ rw (applies.can, is, meta) refl

never : (l : ChannelList) (k : ErrorKind) → ◌≡◌ {A = Result ChannelList ErrorKind} (Ok l) (Err k) → ⊥
never l k e = cc

-- and one that does not suit the front does not suit the list
pub fails_whole : (t : SqueezeParams) (f tl : List Channel) (m : ℕ) (k : ErrorKind) → t.begin_c + t.num_c ≤ length f → suits_meta m t ≡ true → list_after (SqueezeStep t) (record { channels = f; nb_meta = 0 }) ≡ Err k →
    list_after (SqueezeStep t) (record { channels = f ++ tl; nb_meta = m }) ≡ Err k
fails_whole t f tl m k le suits e = tested (list_all can_be_squeezed (range t.begin_c t.num_c f)) refl where
  free : suits_meta 0 t ≡ true
  free = rw (le-ltb t.begin_c 0 (omega arith)) refl

  here : list_after (SqueezeStep t) (record { channels = f ++ []; nb_meta = 0 }) ≡ Err k
  here = rw (append-nil f) e

  tested : (can : Bool) → list_all can_be_squeezed (range t.begin_c t.num_c f) ≡ can → list_after (SqueezeStep t) (record { channels = f ++ tl; nb_meta = m }) ≡ Err k
  tested true is =
      let said = sym (whole_step t f [] 0 le free) ∙ here in
      let both : ◌≡◌ {A = Result ChannelList ErrorKind} (Ok (record { channels = with_each_halved t (average_channel t.horizontal) (residual_channel t.horizontal) (f ++ []); nb_meta = meta_after 0 t })) (Err k) = rw is at said in
      absurd (never _ k both)
  tested false is =
      let said = sym (whole_step t f [] 0 le free) ∙ here in
      let same : ◌≡◌ {A = Result ChannelList ErrorKind} (Err BadSqueeze) (Err k) = rw is at said in
      whole_step t f tl m le suits ∙ rw is same

-- the meta channels do not allow it
pub meta_fails : (t : SqueezeParams) (f tl : List Channel) (m : ℕ) → t.begin_c + t.num_c ≤ length f → suits_meta m t ≡ false → list_after (SqueezeStep t) (record { channels = f ++ tl; nb_meta = m }) ≡ Err BadSqueeze
meta_fails t f tl m le unsuited =
    let there = le-leb (t.begin_c + t.num_c) (length (f ++ tl)) (let l = length-append f tl in omega arith) in
    rw (there, unsuited) refl

-- the list before a front settles
pub record Between (t : SqueezeParams) (p q : PlacedChannels) : Type 0 where
  pub info : (list_of q.channels).channels ≡ (list_of p.channels).channels
  pub meta : q.channels.nb_meta_channels ≡ meta_after p.channels.nb_meta_channels t
  pub places : layout_of q.channels ≡ layout_of p.channels
  pub rest : KeepsRest p q

-- where both halves lie in the front
pub went_inside : (t : SqueezeParams) (f g : Front) (p q : PlacedChannels) → IsFrontOf p f → is_within f.count t ≡ true → t.in_place ≡ true → g.count ≡ f.count →
    list_after (SqueezeStep t) (list_of f.placed.channels) ≡ Ok (list_of g.placed.channels) → GoesOn (SqueezeStep t ∷ []) f.placed g.placed → Between t p q → FrontGoesOn (SqueezeStep t ∷ []) f p g q
went_inside t f g p q is within inside count e goes rest =
    let fs : List Channel = (list_of f.placed.channels).channels in
    let rs : List Region = (layout_of f.placed.channels).regions in
    let applies = squeeze_applies t (list_of f.placed.channels) (list_of g.placed.channels) e in
    let le = applies.there in
    let f_even = even_of f.placed.channels in
    let le_regions : t.begin_c + t.num_c ≤ length rs = omega (arith, le, f_even) in
    let g_list = sym applies.after_it in
    let g_regions : (layout_of g.placed.channels).regions ≡ with_each_halved t (average_region t.horizontal) (residual_region t.horizontal) rs = ap (λ (l : Layout). l.regions) goes.layout in
    let longer : length (list_of g.placed.channels).channels ≡ length fs + t.num_c = ap length g_list ∙ length_halved t (average_channel t.horizontal) (residual_channel t.horizontal) fs le in
    let long = is.long in
    let none = none_after t f.placed.channels.nb_meta_channels g.placed.channels.nb_meta_channels is.none (squeezed_meta t (list_of f.placed.channels) (list_of g.placed.channels) e) in
    let q_regions : (layout_of q.channels).regions ≡ (layout_of p.channels).regions = ap (λ (l : Layout). l.regions) rest.places in
    let q_buffers : q.channels.buffers ≡ p.channels.buffers = ap (λ (l : Layout). l.buffers) rest.places in
    let tail : List Channel = drop f.count (list_of p.channels).channels in
    let all : length ((list_of g.placed.channels).channels ++ drop g.count (list_of q.channels).channels) ≡ length (fs ++ tail) + t.num_c =
    rw (count, rest.info) (let a = length-append (list_of g.placed.channels).channels tail in let b = length-append fs tail in omega (arith, a, b, longer)) in
    let old_meta = is.meta in
    let grows = meta_grows p.channels.nb_meta_channels t in
    let meta = rest.meta in
    let there = is.within in
    let q_long : length (list_of q.channels).channels ≡ length (list_of p.channels).channels = ap length rest.info in
    record {
      stands = record {
        placed = goes.placed;
        none = none;
        long = omega (arith, long, longer, count);
        within = omega (arith, there, q_long, count);
        meta = omega (arith, all, old_meta, grows, meta);
      };
      undos = goes.undos ∙ ap (λ (xs : List Region). undos_of f.placed.undoings.items ++ (map (UndoSqueeze t.horizontal) xs ++ [])) (sym (front_range t.begin_c t.num_c rs (drop f.count (layout_of p.channels).regions) le_regions));
      layout = rw (count, q_regions, q_buffers, g_regions, inside_front t (average_region t.horizontal) (residual_region t.horizontal) rs (drop f.count (layout_of p.channels).regions) inside le_regions) refl;
      rest = rest.rest;
      count = count;
    }

-- where residuals went to the end of the list
pub went_to_end : (t : SqueezeParams) (f mf g : Front) (p mp q : PlacedChannels) → IsFrontOf p f → t.in_place ≡ false → mf.count ≡ f.count →
    list_after (SqueezeStep t) (list_of f.placed.channels) ≡ Ok (list_of mf.placed.channels) → GoesOn (SqueezeStep t ∷ []) f.placed mf.placed → Between t p mp → AppendsLast t.num_c mf mp g q → FrontGoesOn (SqueezeStep t ∷ []) f p g q
went_to_end t f mf g p mp q is at_end count e goes between last =
    let fs : List Channel = (list_of f.placed.channels).channels in
    let rs : List Region = (layout_of f.placed.channels).regions in
    let new : List Channel = (list_of mf.placed.channels).channels in
    let new_r : List Region = (layout_of mf.placed.channels).regions in
    let k : ℕ = length new - t.num_c in
    let applies = squeeze_applies t (list_of f.placed.channels) (list_of mf.placed.channels) e in
    let le = applies.there in
    let f_even = even_of f.placed.channels in
    let le_regions : t.begin_c + t.num_c ≤ length rs = omega (arith, le, f_even) in
    let m_list = sym applies.after_it in
    let m_regions : new_r ≡ with_each_halved t (average_region t.horizontal) (residual_region t.horizontal) rs = ap (λ (l : Layout). l.regions) goes.layout in
    let longer : length new ≡ length fs + t.num_c = ap length m_list ∙ length_halved t (average_channel t.horizontal) (residual_channel t.horizontal) fs le in
    let m_even : length new_r ≡ length new = even_of mf.placed.channels in
    let g_list : (list_of g.placed.channels).channels ≡ take k new = ap (λ (l : ChannelList). l.channels) last.kept in
    let g_regions : (layout_of g.placed.channels).regions ≡ take k new_r = ap (λ (l : Layout). l.regions) last.kept_regions in
    let g_buffers : g.placed.channels.buffers ≡ mf.placed.channels.buffers = ap (λ (l : Layout). l.buffers) last.kept_regions in
    let g_count : g.count ≡ f.count = last.count ∙ count in
    let q_list : (list_of q.channels).channels ≡ (list_of p.channels).channels ++ drop k new = ap (λ (l : ChannelList). l.channels) last.list ∙ ap (λ (cs : List Channel). cs ++ drop k new) between.info in
    let q_meta : q.channels.nb_meta_channels ≡ meta_after p.channels.nb_meta_channels t = ap (λ (l : ChannelList). l.nb_meta) last.list ∙ between.meta in
    let q_regions : (layout_of q.channels).regions ≡ (layout_of p.channels).regions ++ drop k new_r = ap (λ (l : Layout). l.regions) last.layout ∙ ap (λ (l : Layout). l.regions ++ drop k new_r) between.places in
    let q_buffers : q.channels.buffers ≡ p.channels.buffers = ap (λ (l : Layout). l.buffers) last.layout ∙ ap (λ (l : Layout). l.buffers) between.places in
    let there = is.within in
    let even = even_of p.channels in
    let tail : List Channel = drop f.count (list_of p.channels).channels in
    let all : (list_of g.placed.channels).channels ++ drop g.count (list_of q.channels).channels ≡ with_each_halved t (average_channel t.horizontal) (residual_channel t.horizontal) (fs ++ tail) =
    rw (g_list, g_count, q_list)
    (end_front t (average_channel t.horizontal) (residual_channel t.horizontal) fs new (list_of p.channels).channels k f.count at_end le there m_list (omega (arith, longer))) in
    let all_regions : (layout_of g.placed.channels).regions ++ drop g.count (layout_of q.channels).regions ≡ with_each_halved t (average_region t.horizontal) (residual_region t.horizontal) (rs ++ drop f.count (layout_of p.channels).regions) =
    rw (g_regions, g_count, q_regions)
    (end_front t (average_region t.horizontal) (residual_region t.horizontal) rs new_r (layout_of p.channels).regions k f.count at_end le_regions (omega (arith, there, even)) m_regions (omega (arith, longer, m_even))) in
    let both = length-append fs tail in
    let all_long = ap length all ∙ length_halved t (average_channel t.horizontal) (residual_channel t.horizontal) (fs ++ tail) (omega (arith, le, both)) in
    let long = is.long in
    let none : g.placed.channels.nb_meta_channels ≡ 0 =
    ap (λ (l : ChannelList). l.nb_meta) last.kept ∙ none_after t f.placed.channels.nb_meta_channels mf.placed.channels.nb_meta_channels is.none (squeezed_meta t (list_of f.placed.channels) (list_of mf.placed.channels) e) in
    let g_long : length (list_of g.placed.channels).channels ≡ length fs = ap length g_list ∙ (let l = length-take k new in omega (arith, l, longer)) in
    let m_room = goes.placed.room in
    let g_tables : length g.placed.tables.items ≡ length mf.placed.tables.items = ap (λ v. length v.items) last.front_rest.tables in
    let q_long : length (list_of q.channels).channels ≡ length (list_of p.channels).channels + t.num_c =
    ap length q_list ∙ (let a = length-append (list_of p.channels).channels (drop k new) in let d = length-drop k new in omega (arith, a, d, longer)) in
    let old_meta = is.meta in
    let grows = meta_grows p.channels.nb_meta_channels t in
    record {
      stands = record {
        placed = record { meta = omega (arith, none); room = omega (arith, m_room, g_buffers, g_tables) };
        none = none;
        long = omega (arith, long, g_long, g_count);
        within = omega (arith, there, q_long, g_count);
        meta = omega (arith, all_long, old_meta, grows, q_meta);
      };
      undos = ap (λ v. undos_of v.items) last.front_rest.undoings ∙ goes.undos
          ∙ ap (λ (xs : List Region). undos_of f.placed.undoings.items ++ (map (UndoSqueeze t.horizontal) xs ++ [])) (sym (front_range t.begin_c t.num_c rs (drop f.count (layout_of p.channels).regions) le_regions));
      layout = rw (all_regions, q_buffers) refl;
      rest = record { undoings = last.rest.undoings ∙ between.rest.undoings; tables = last.rest.tables ∙ between.rest.tables };
      count = g_count;
    }

-- a step of the front, however it settles
pub went : (t : SqueezeParams) (f mf g : Front) (p mp q : PlacedChannels) → IsFrontOf p f → is_within f.count t ≡ true → mf.count ≡ f.count →
    list_after (SqueezeStep t) (list_of f.placed.channels) ≡ Ok (list_of mf.placed.channels) → GoesOn (SqueezeStep t ∷ []) f.placed mf.placed → Between t p mp →
    (t.in_place ≡ true → (q ≡ mp) × (g ≡ mf)) → (t.in_place ≡ false → AppendsLast t.num_c mf mp g q) → FrontGoesOn (SqueezeStep t ∷ []) f p g q
went t f mf g p mp q is within count e goes between inside at_end = by_place t.in_place refl where
  by_place : (b : Bool) → t.in_place ≡ b → FrontGoesOn (SqueezeStep t ∷ []) f p g q
  by_place true h =
      let s = inside h in
      let mid : FrontGoesOn (SqueezeStep t ∷ []) f p mf mp = went_inside t f mf p mp is within h count e goes between in
      subst (λ (x : Front). FrontGoesOn (SqueezeStep t ∷ []) f p x q) (sym s.1) (subst (λ (y : PlacedChannels). FrontGoesOn (SqueezeStep t ∷ []) f p mf y) (sym s.0) mid)
  by_place false h = went_to_end t f mf g p mp q is h count e goes between (at_end h)

-- ---- steps one after another

pub front_nowhere : (f : Front) (p : PlacedChannels) → IsFrontOf p f → FrontGoesOn [] f p f p
front_nowhere f p is = record { stands = is; undos = sym (append-nil (undos_of f.placed.undoings.items)); layout = refl; rest = record { undoings = refl; tables = refl }; count = refl }

front_both : (a b : List Step) (f g h : Front) (p q r : PlacedChannels) → FrontGoesOn a f p g q → FrontGoesOn b g q h r → FrontGoesOn (a ++ b) f p h r
front_both a b f g h p q r s k = record {
  stands = k.stands;
  undos =
      k.undos ∙ ap (λ (us : List Undo). us ++ undo_of_all b (layout_with g q)) s.undos ∙ append_assoc (undos_of f.placed.undoings.items) (undo_of_all a (layout_with f p)) (undo_of_all b (layout_with g q))
      ∙ ap (λ (l : Layout). undos_of f.placed.undoings.items ++ (undo_of_all a (layout_with f p) ++ undo_of_all b l)) s.layout
      ∙ ap (λ (us : List Undo). undos_of f.placed.undoings.items ++ us) (sym (undos_both a b (layout_with f p)));
  layout = k.layout ∙ ap (layout_after_all b) s.layout ∙ sym (layout_both a b (layout_with f p));
  rest = record { undoings = k.rest.undoings ∙ s.rest.undoings; tables = k.rest.tables ∙ s.rest.tables };
  count = k.count ∙ s.count;
}

pub front_next : (xs : List SqueezeParams) (i : ℕ) (d : SqueezeParams) (f g h : Front) (p q r : PlacedChannels) → i < length xs → FrontGoesOn (map SqueezeStep (take i xs)) f p g q → FrontGoesOn (SqueezeStep (get_or xs i d) ∷ []) g q h r →
    FrontGoesOn (map SqueezeStep (take (i + 1) xs)) f p h r
front_next xs i d f g h p q r lt s k =
    let e : map SqueezeStep (take (i + 1) xs) ≡ map SqueezeStep (take i xs) ++ SqueezeStep (get_or xs i d) ∷ [] = ap (map SqueezeStep) (take_more xs i d lt) ∙ map-append SqueezeStep (take i xs) (get_or xs i d ∷ []) in
    subst (λ (ss : List Step). FrontGoesOn ss f p h r) (sym e) (front_both (map SqueezeStep (take i xs)) (SqueezeStep (get_or xs i d) ∷ []) f g h p q r s k)

-- ---- back in its place

no_tables : (ts : List SqueezeParams) → tables_of (map SqueezeStep ts) ≡ []
no_tables [] = refl
no_tables (t ∷ ts) = no_tables ts

no_buffers : (ts : List SqueezeParams) (l : Layout) → (layout_after_all (map SqueezeStep ts) l).buffers ≡ l.buffers
no_buffers [] l = refl
no_buffers (t ∷ ts) l = no_buffers ts (layout_after (SqueezeStep t) l)

pub front_back : (ts : List SqueezeParams) (f g : Front) (p q r : PlacedChannels) → IsPlaced p → layout_with f p ≡ layout_of p.channels → undos_of f.placed.undoings.items ≡ [] → FrontGoesOn (map SqueezeStep ts) f p g q →
    list_of r.channels ≡ list_with g q → layout_of r.channels ≡ layout_with g q → undos_of r.undoings.items ≡ undos_of q.undoings.items ++ undos_of g.placed.undoings.items → r.tables ≡ q.tables → GoesOn (map SqueezeStep ts) p r
front_back ts f g p q r placed first none goes list layout undos tables =
    let ss : List Step = map SqueezeStep ts in
    let is = goes.stands in
    let r_layout : layout_of r.channels ≡ layout_after_all ss (layout_of p.channels) = layout ∙ goes.layout ∙ ap (layout_after_all ss) first in
    let buffers : r.channels.buffers ≡ p.channels.buffers = ap (λ (l : Layout). l.buffers) r_layout ∙ no_buffers ts (layout_of p.channels) in
    let r_tables = tables ∙ goes.rest.tables in
    let many : length r.tables.items ≡ length p.tables.items = ap (λ v. length v.items) r_tables in
    let room = placed.room in
    record {
      placed = record { meta = subst HasItsMeta (sym list) is.meta; room = omega (arith, buffers, many, room) };
      undos =
          undos ∙ ap (λ v. undos_of v.items ++ undos_of g.placed.undoings.items) goes.rest.undoings
          ∙ ap (λ (us : List Undo). undos_of p.undoings.items ++ us) (goes.undos ∙ ap (λ (us : List Undo). us ++ undo_of_all ss (layout_with f p)) none ∙ ap (undo_of_all ss) first);
      layout = r_layout;
      tables = ap (λ v. sides_in v.items) r_tables ∙ sym (append-nil (sides_in p.tables.items)) ∙ ap (λ (xs : List Sides). sides_in p.tables.items ++ xs) (sym (no_tables ts));
    }
