-- Three channels of one size are decided by their coded channels.
use Rattle.std.proofs.Common.{◌≡◌, ℕ, ◌<◌, true, List, [], ◌∷◌, length, ℤ, sym, refl, ap, ◌∙◌, arith}
use Rattle.std.specs.Prelude.{Bool, ◌&&◌, ◌==◌}
use Rattle.std.specs.List.{AllZip, list_all}
use Rattle.std.specs.Int.{Width}
use Rattle.std.proofs.lemmas.Bool.{eqb-true, and_parts}
use Rattle.jxlm_lanes.specs.Colour.{Triple, IsTripleOf, coded_triple}
use Rattle.jxlm_base.specs.Grid.{Grid, grid_by, at}
use Rattle.jxlm_lanes.proofs.ColourLaws.{colour_is_one_to_one, triple_same}
use Rattle.jxlm_transform.specs.Channels.{Channel}
use Rattle.jxlm_transform.specs.ChannelSteps.{one_size}
use Rattle.jxlm_inverse.specs.Recoloured.{recolour}
use Rattle.jxlm_inverse.proofs.Triples.{triple_in}
use Rattle.jxlm_chain.proofs.ListLaws.{heads, tails}
use Rattle.jxlm_chain.proofs.SampleGrids.{IsGridOf}
use Rattle.jxlm_chain.proofs.SqueezedGrids.{fits_at, grids_same, made_at}

-- the second channel has the sides of the first
abbrev has_size_of : Channel → Channel → Bool
has_size_of c d = d.width == c.width && d.height == c.height

pub length-recoloured : (w : Width) (kind : ℕ) (gs : List (Grid ℤ)) → length (recolour w kind gs) ≡ length gs
length-recoloured w kind [] = refl
length-recoloured w kind (a ∷ []) = refl
length-recoloured w kind (a ∷ b ∷ []) = refl
length-recoloured w kind (a ∷ b ∷ c ∷ []) = refl
length-recoloured w kind (a ∷ b ∷ c ∷ d ∷ gs) = refl

module _ (w : Width) where
  -- a grid of a channel is one of each channel of its size
  resized : (c d : Channel) (g : Grid ℤ) → d.width ≡ c.width → d.height ≡ c.height → IsGridOf w d g → IsGridOf w c g
  resized c d g e k is = record { same_width = is.same_width ∙ e; same_height = is.same_height ∙ k; full = is.full; samples = is.samples }

  module _ (kind : ℕ) (c : Channel) where
    abbrev Is : Grid ℤ → Type 0
    Is g = IsGridOf w c g

    -- one coded part of a triple
    part_at : (f g h : Grid ℤ) → Is f → (p : Triple → ℤ) (x y : ℕ) → x < c.width → y < c.height →
        at (grid_by f.width f.height (λ x y. p (coded_triple w kind (triple_in f g h x y)))) x y ≡ p (coded_triple w kind (triple_in f g h x y))
    part_at f g h is p x y i j = made_at w c f.width f.height c.width c.height x y (λ x y. p (coded_triple w kind (triple_in f g h x y))) is.same_width is.same_height i j

    are_triples : (f g h : Grid ℤ) → Is f → Is g → Is h → (x y : ℕ) → x < c.width → y < c.height → IsTripleOf w (triple_in f g h x y)
    are_triples f g h a b d x y p q = record { first = fits_at w c f a x y p q; second = fits_at w c g b x y p q; third = fits_at w c h d x y p q }

    triples_same : (f g h f' g' h' : Grid ℤ) → Is f → Is g → Is h → Is f' → Is g' → Is h' → recolour w kind (f ∷ g ∷ h ∷ []) ≡ recolour w kind (f' ∷ g' ∷ h' ∷ []) →
        (x y : ℕ) → x < c.width → y < c.height → triple_in f g h x y ≡ triple_in f' g' h' x y
    triples_same f g h f' g' h' if ig ih if' ig' ih' e x y p q =
        let t : Triple = coded_triple w kind (triple_in f g h x y) in
        let t' : Triple = coded_triple w kind (triple_in f' g' h' x y) in
        let part : (k : Triple → ℤ) → grid_by f.width f.height (λ x y. k (coded_triple w kind (triple_in f g h x y))) ≡ grid_by f'.width f'.height (λ x y. k (coded_triple w kind (triple_in f' g' h' x y))) → k t ≡ k t' =
        λ k s. sym (part_at f g h if k x y p q) ∙ ap (λ z. at z x y) s ∙ part_at f' g' h' if' k x y p q in
        let rest = tails _ _ _ _ e in
        let codes : t ≡ t' = triple_same t.first t.second t.third t'.first t'.second t'.third
        (part (λ k. k.first) (heads _ _ _ _ e)) (part (λ k. k.second) (heads _ _ _ _ rest)) (part (λ k. k.third) (heads _ _ _ _ (tails _ _ _ _ rest))) in
        colour_is_one_to_one w kind (triple_in f g h x y) (triple_in f' g' h' x y) (are_triples f g h if ig ih x y p q) (are_triples f' g' h' if' ig' ih' x y p q) codes

    recoloured_same : (f g h f' g' h' : Grid ℤ) → Is f → Is g → Is h → Is f' → Is g' → Is h' → recolour w kind (f ∷ g ∷ h ∷ []) ≡ recolour w kind (f' ∷ g' ∷ h' ∷ []) →
        ◌≡◌ {A = List (Grid ℤ)} (f ∷ g ∷ h ∷ []) (f' ∷ g' ∷ h' ∷ [])
    recoloured_same f g h f' g' h' if ig ih if' ig' ih' e =
        let t = triples_same f g h f' g' h' if ig ih if' ig' ih' e in
        let first = grids_same w c f f' if if' (λ x y p q. ap (λ (t : Triple). t.first) (t x y p q)) in
        let second = grids_same w c g g' ig ig' (λ x y p q. ap (λ (t : Triple). t.second) (t x y p q)) in
        let third = grids_same w c h h' ih ih' (λ x y p q. ap (λ (t : Triple). t.third) (t x y p q)) in
        ap (λ k. k ∷ g ∷ h ∷ []) first ∙ ap (λ k. f' ∷ k ∷ h ∷ []) second ∙ ap (λ k. f' ∷ g' ∷ k ∷ []) third

  abbrev Are : List Channel → List (Grid ℤ) → Type 0
  Are cs gs = AllZip (IsGridOf w) cs gs

  pub colours_same : (kind : ℕ) (cs : List Channel) (gs hs : List (Grid ℤ)) → one_size cs ≡ true → length cs ≡ 3 → Are cs gs → Are cs hs → recolour w kind gs ≡ recolour w kind hs → gs ≡ hs
  colours_same kind [] gs hs o l a b e = absurd (omega arith)
  colours_same kind (c ∷ []) gs hs o l a b e = absurd (omega arith)
  colours_same kind (c ∷ d ∷ []) gs hs o l a b e = absurd (omega arith)
  colours_same kind (c ∷ d ∷ f ∷ k ∷ cs) gs hs o l a b e = absurd (omega arith)
  colours_same kind (c ∷ d ∷ f ∷ []) [] hs o l a b e = absurd a
  colours_same kind (c ∷ d ∷ f ∷ []) (x ∷ []) hs o l a b e = absurd a.1
  colours_same kind (c ∷ d ∷ f ∷ []) (x ∷ y ∷ []) hs o l a b e = absurd a.1.1
  colours_same kind (c ∷ d ∷ f ∷ []) (x ∷ y ∷ z ∷ v ∷ gs) hs o l a b e = absurd a.1.1.1
  colours_same kind (c ∷ d ∷ f ∷ []) (x ∷ y ∷ z ∷ []) [] o l a b e = absurd b
  colours_same kind (c ∷ d ∷ f ∷ []) (x ∷ y ∷ z ∷ []) (x' ∷ []) o l a b e = absurd b.1
  colours_same kind (c ∷ d ∷ f ∷ []) (x ∷ y ∷ z ∷ []) (x' ∷ y' ∷ []) o l a b e = absurd b.1.1
  colours_same kind (c ∷ d ∷ f ∷ []) (x ∷ y ∷ z ∷ []) (x' ∷ y' ∷ z' ∷ v ∷ hs) o l a b e = absurd b.1.1.1
  colours_same kind (c ∷ d ∷ f ∷ []) (x ∷ y ∷ z ∷ []) (x' ∷ y' ∷ z' ∷ []) o l a b e =
      let first = and_parts (has_size_of c d) (list_all (has_size_of c) (f ∷ [])) o in
      let second = and_parts (has_size_of c f) true first.1 in
      let ds = and_parts (d.width == c.width) (d.height == c.height) first.0 in
      let fs = and_parts (f.width == c.width) (f.height == c.height) second.0 in
      let dw = eqb-true d.width c.width ds.0 in let dh = eqb-true d.height c.height ds.1 in
      let fw = eqb-true f.width c.width fs.0 in let fh = eqb-true f.height c.height fs.1 in
      recoloured_same kind c x y z x' y' z' a.0 (resized c d y dw dh a.1.0) (resized c f z fw fh a.1.1.0) b.0 (resized c d y' dw dh b.1.0) (resized c f z' fw fh b.1.1.0) e
