-- One coded list has one image: at each step, and over the whole chain.
use Rattle.std.proofs.Common.{◌≡◌, ℕ, ◌+◌, ◌-◌, ◌≤◌, min, Bool, true, false, List, [], ◌∷◌, ◌++◌, length, map, take, drop, ℤ, Result, Ok, Err, sym, refl, ap, ◌∙◌, subst, arith}
use Rattle.std.specs.Prelude.{if◌then◌else◌}
use Rattle.std.specs.List.{AllZip}
use Rattle.std.specs.Int.{Width}
use Rattle.std.proofs.lemmas.Bool.{leb-true, and_parts}
use Rattle.std.proofs.Math.ListN.{length-append, length-take, length-drop, length-map}
use Rattle.jxlm_bits.specs.ErrorKind.{ErrorKind}
use Rattle.jxlm_base.specs.Grid.{Grid}
use Rattle.jxlm_transform.specs.Channels.{Channel, ChannelList, HasSides}
use Rattle.jxlm_transform.specs.ChannelSteps.{Step, RctStep, PaletteStep, SqueezeStep, range, with_range, has_range, one_size, list_after}
use Rattle.jxlm_inverse.specs.Palette.{finished_channels}
use Rattle.jxlm_inverse.specs.Recoloured.{recolour}
use Rattle.jxlm_transform.specs.declared.transform.Rct.{Rct}
use Rattle.jxlm_transform.specs.declared.transform.Palette.{Palette}
use Rattle.jxlm_transform.specs.declared.transform.SqueezeParams.{SqueezeParams}
use Rattle.jxlm_inverse.proofs.PaletteLaws.{palette_has_one_image}
use Rattle.jxlm_inverse.specs.UndoneSqueeze.{average_grid, residual_grid}
use Rattle.jxlm_chain.specs.Chain.{Codes, Chain, NoTwoImages}
use Rattle.jxlm_chain.proofs.ListLaws.{heads, tails, split_same, length-range, with_range_same, range_decides, zip_length, zip_range}
use Rattle.jxlm_chain.proofs.SampleGrids.{sampled}
use Rattle.jxlm_chain.proofs.SqueezedGrids.{halves_same}
use Rattle.jxlm_chain.proofs.ColouredGrids.{length-recoloured, colours_same}

-- a test that was passed
passed : {X E : Type 0} (b : Bool) (x y : X) (e : E) → if◌then◌else◌ {A = Result X E} b (Ok x) (Err e) ≡ Ok y → b ≡ true
passed true x y e h = refl
passed false x y e h = absurd (let k : ◌≡◌ {A = Result _ _} (Err e) (Ok y) = h in cc)

after_same : (x y : ChannelList) → ◌≡◌ {A = Result ChannelList ErrorKind} (Ok x) (Ok y) → x ≡ y
after_same x y e = cc

abbrev Grids : Type 0
Grids = List (Grid ℤ)

-- where the residuals are, by the test that chooses it
halves_parts : (in_place : Bool) (b n : ℕ) (us vs us' vs' xs ys : Grids) → length us ≡ length us' → length vs ≡ length vs' → length xs ≡ length ys →
    (if in_place then with_range b n (us ++ vs) xs else with_range b n us xs ++ vs) ≡ (if in_place then with_range b n (us' ++ vs') ys else with_range b n us' ys ++ vs') →
    (take b xs ≡ take b ys) × (us ≡ us') × (vs ≡ vs') × (drop (b + n) xs ≡ drop (b + n) ys)
halves_parts true b n us vs us' vs' xs ys l k m e =
    let parts = with_range_same b n (us ++ vs) (us' ++ vs') xs ys (length-append us vs ∙ (let p = length-append us' vs' in omega arith)) m e in
    let two = split_same us us' vs vs' l parts.1 in
    (parts.0, two.0, two.1, parts.2)
halves_parts false b n us vs us' vs' xs ys l k m e =
    let long : (zs ws : Grids) → length (with_range b n zs ws) ≡ min b (length ws) + length zs + (length ws - (b + n)) =
    λ zs ws. length-append (take b ws ++ zs) (drop (b + n) ws) ∙ (let p = length-append (take b ws) zs in let q = length-take b ws in let r = length-drop (b + n) ws in omega arith) in
    let two = split_same (with_range b n us xs) (with_range b n us' ys) vs vs' (long us xs ∙ ap (λ c. min b c + length us + (c - (b + n))) m ∙ ap (λ c. min b (length ys) + c + (length ys - (b + n))) l ∙ sym (long us' ys)) e in
    let parts = with_range_same b n us us' xs ys l m two.0 in
    (parts.0, parts.1, two.1, parts.2)

abbrev HasSidesOf : Channel → Grid ℤ → Type 0
HasSidesOf c g = HasSides c.width c.height g

module _ (w : Width) (depth : ℕ) (l m : ChannelList) (gs hs next : Grids) (a : AllZip HasSidesOf l.channels gs) (b : AllZip HasSidesOf l.channels hs) where
  same_length : length gs ≡ length hs
  same_length = sym (zip_length HasSidesOf l.channels gs a) ∙ zip_length HasSidesOf l.channels hs b

  rct_same : (t : Rct) → list_after (RctStep t) l ≡ Ok m → Codes w depth (RctStep t) gs next → Codes w depth (RctStep t) hs next → gs ≡ hs
  rct_same t ok e f =
      let tests = and_parts (has_range t.begin_c 3 l.channels) (one_size (range t.begin_c 3 l.channels)) (passed _ l m _ ok) in
      let there : t.begin_c + 3 ≤ length l.channels = leb-true (t.begin_c + 3) (length l.channels) tests.0 in
      let gl = zip_length HasSidesOf l.channels gs a in
      let hl = zip_length HasSidesOf l.channels hs b in
      let many : length (recolour w t.rct_type (range t.begin_c 3 gs)) ≡ length (recolour w t.rct_type (range t.begin_c 3 hs)) =
      length-recoloured w t.rct_type (range t.begin_c 3 gs) ∙ length-range t.begin_c 3 gs (omega arith) ∙ sym (length-range t.begin_c 3 hs (omega arith)) ∙ sym (length-recoloured w t.rct_type (range t.begin_c 3 hs)) in
      let parts = with_range_same t.begin_c 3 _ _ gs hs many same_length (sym e.1 ∙ f.1) in
      let ranges = colours_same w t.rct_type (range t.begin_c 3 l.channels) (range t.begin_c 3 gs) (range t.begin_c 3 hs) tests.1 (length-range t.begin_c 3 l.channels there)
      (sampled w _ _ (zip_range HasSidesOf t.begin_c 3 l.channels gs a) e.0) (sampled w _ _ (zip_range HasSidesOf t.begin_c 3 l.channels hs b) f.0) parts.1 in
      range_decides t.begin_c 3 gs hs parts.0 ranges parts.2

  palette_same : (t : Palette) → Codes w depth (PaletteStep t) gs next → Codes w depth (PaletteStep t) hs next → gs ≡ hs
  palette_same t e f =
      let same = sym e.3 ∙ f.3 in
      let tables : e.0 ≡ f.0 = heads _ _ _ _ same in
      let parts = with_range_same t.begin_c t.num_c (e.1 ∷ []) (f.1 ∷ []) gs hs refl same_length (tails _ _ _ _ same) in
      let indices : e.1 ≡ f.1 = heads _ _ _ _ parts.1 in
      let only = palette_has_one_image.only w depth t in
      range_decides t.begin_c t.num_c gs hs parts.0
      (only e.0 e.1 (range t.begin_c t.num_c gs) e.2
      ∙ ap (λ g. finished_channels w depth t g e.1) tables ∙ ap (λ g. finished_channels w depth t f.0 g) indices
      ∙ sym (only f.0 f.1 (range t.begin_c t.num_c hs) f.2))
      parts.2

  squeeze_same : (t : SqueezeParams) → Codes w depth (SqueezeStep t) gs next → Codes w depth (SqueezeStep t) hs next → gs ≡ hs
  squeeze_same t e f =
      let u : Grids = range t.begin_c t.num_c gs in
      let v : Grids = range t.begin_c t.num_c hs in
      let us = zip_range HasSidesOf t.begin_c t.num_c l.channels gs a in
      let vs = zip_range HasSidesOf t.begin_c t.num_c l.channels hs b in
      let long : length u ≡ length v = sym (zip_length HasSidesOf (range t.begin_c t.num_c l.channels) u us) ∙ zip_length HasSidesOf (range t.begin_c t.num_c l.channels) v vs in
      let h : Bool = t.horizontal in
      let parts = halves_parts t.in_place t.begin_c t.num_c (map (average_grid w h) u) (map (residual_grid w h) u) (map (average_grid w h) v) (map (residual_grid w h) v) gs hs
      (length-map u (average_grid w h) ∙ long ∙ sym (length-map v (average_grid w h))) (length-map u (residual_grid w h) ∙ long ∙ sym (length-map v (residual_grid w h))) same_length (sym e.1 ∙ f.1) in
      range_decides t.begin_c t.num_c gs hs parts.0 (halves_same w h (range t.begin_c t.num_c l.channels) u v (sampled w _ u us e.0) (sampled w _ v vs f.0) parts.1 parts.2) parts.3

  step_same : (s : Step) → list_after s l ≡ Ok m → Codes w depth s gs next → Codes w depth s hs next → gs ≡ hs
  step_same (RctStep t) ok e f = rct_same t ok e f
  step_same (PaletteStep t) ok e f = palette_same t e f
  step_same (SqueezeStep t) ok e f = squeeze_same t e f

module _ (w : Width) (depth : ℕ) where
  -- two images that become the same coded channels are the same
  chain_same : (ss : List Step) (l : ChannelList) (gs hs coded : Grids) → Chain w depth ss l gs coded → Chain w depth ss l hs coded → gs ≡ hs
  chain_same [] l gs hs coded c d = sym c.1 ∙ d.1
  chain_same (s ∷ ss) l gs hs coded c d =
      let lists : c.1 ≡ d.1 = after_same c.1 d.1 (sym c.3 ∙ d.3) in
      let rest : Chain w depth ss c.1 d.2 coded = subst (λ m. Chain w depth ss m d.2 coded) (sym lists) d.5 in
      let nexts : c.2 ≡ d.2 = chain_same ss c.1 c.2 d.2 coded c.5 rest in
      step_same w depth l c.1 gs hs c.2 c.0 d.0 s c.3 c.4 (subst (λ n. Codes w depth s hs n) (sym nexts) d.4)

pub no_two_images : (w : Width) (depth : ℕ) → NoTwoImages w depth
no_two_images w depth = chain_same w depth
