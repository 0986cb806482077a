-- The bytes of one more sample.
use Rattle.std.proofs.Common.{◌≡◌, ℕ, ◌+◌, ◌*◌, ◌<◌, ◌≤◌, ℤ, pos, List, [], ◌∷◌, ◌++◌, length, get_or, take, Some, sym, ap, ◌∙◌, subst, append_assoc, append-nil, arith}
use Rattle.std.specs.Int.{w32, cast_unsigned, to_le_bytes}
use Rattle.std.specs.List.{flat_map}
use Rattle.std.proofs.lemmas.List.{take_all}
use Rattle.std.proofs.lemmas.List.Edits.{get_or-between}
use Rattle.std.proofs.lemmas.List.Folds.{flat_map-map}
use Rattle.jxlm_base.specs.Grid.{Grid, at, cell, row}
use Rattle.jxlm_base.proofs.GridLaws.{at_from_cell}
use Rattle.jxl_image_header.specs.declared.channel.BitDepth.{BitDepth}
use Rattle.jxl_picture.specs.Floats.{single_bits}
use Rattle.jxl_netpbm.specs.Rasters.{level, rescaled_sample, number_text, sample_text, pixel_text, pixels_text, float_text}
use Rattle.jxl_netpbm.specs.Layers.{layer_of, layers_of}
use Rattle.jxl_netpbm.specs.declared.layers.Layer.{Layer as Held}
use Rattle.jxl_netpbm.proofs.Growing.{below_more, take_piece}

pub float_piece : (depth : BitDepth) (channels : List (Grid ℤ)) (i x y : ℕ) (item : Grid ℤ) (v : ℤ) → i < length channels → item ≡ get_or channels i item → cell item x y ≡ Some v →
    flat_map (float_text depth x y) (take (i + 1) channels) ≡ flat_map (float_text depth x y) (take i channels) ++ to_le_bytes w32 (single_bits depth (cast_unsigned w32 v))
float_piece depth channels i x y item v within is here =
    let same : at (get_or channels i item) x y ≡ v = subst (λ (g : Grid ℤ). at g x y ≡ v) is (at_from_cell item x y v here) in
    take_piece (float_text depth x y) channels i item within ∙ ap (λ n. flat_map (float_text depth x y) (take i channels) ++ to_le_bytes w32 (single_bits depth (cast_unsigned w32 n))) same

abbrev held_text : ℕ → ℕ → ℕ → Held → List ℕ
held_text most x y l = sample_text most x y (layer_of l)

pub sample_piece : (most x y : ℕ) (layers : List Held) (i : ℕ) (item : Held) (v : ℤ) → i < length layers → item ≡ get_or layers i item → cell item.grid.now x y ≡ Some v →
    flat_map (λ k. sample_text most x y (layer_of k)) (take (i + 1) layers) ≡ flat_map (λ k. sample_text most x y (layer_of k)) (take i layers) ++ number_text most (rescaled_sample item.own most (level item.own v))
sample_piece most x y layers i item v within is here =
    let same : held_text most x y (get_or layers i item) ≡ held_text most x y item = sym (ap (held_text most x y) is) in
    let text : held_text most x y item ≡ number_text most (rescaled_sample item.own most (level item.own v)) = ap (λ n. number_text most (rescaled_sample item.own most (level item.own n))) (at_from_cell item.grid.now x y v here) in
    take_piece (held_text most x y) layers i item within ∙ ap (λ t. flat_map (held_text most x y) (take i layers) ++ t) (same ∙ text)

pub all_samples : (most x y i : ℕ) (layers : List Held) (before after : List ℕ) → length layers ≤ i → after ≡ before ++ flat_map (λ k. sample_text most x y (layer_of k)) (take i layers) →
    after ≡ before ++ pixel_text most (layers_of layers) y x
all_samples most x y i layers before after all e =
    e ∙ ap (λ t. before ++ t) (ap (flat_map (held_text most x y)) (take_all i layers all) ∙ sym (flat_map-map (sample_text most x y) layer_of layers))

-- a sample that is read in its row
pub at_row : (g : Grid ℤ) (x y : ℕ) (cells : List ℤ) → cells ≡ row g y → x < g.width → at g x y ≡ get_or cells x (pos 0)
at_row g x y cells is less =
    sym (get_or-between g.cells (y * g.width) (y * g.width + g.width) x (pos 0) (omega (arith, less))) ∙ sym (ap (λ (cs : List ℤ). get_or cs x (pos 0)) is)

abbrev pub number_of : ℕ → Held → ℤ → List ℕ
number_of most l v = number_text most (rescaled_sample l.own most (level l.own v))

pub grey_piece : (most x y : ℕ) (l : Held) (v : ℤ) → at l.grid.now x y ≡ v →
    pixels_text most (layers_of (l ∷ [])) y (x + 1) ≡ pixels_text most (layers_of (l ∷ [])) y x ++ number_of most l v
grey_piece most x y l v e =
    below_more (pixel_text most (layers_of (l ∷ [])) y) x ∙ ap (λ (t : List ℕ). pixels_text most (layers_of (l ∷ [])) y x ++ t) (append-nil (sample_text most x y (layer_of l)) ∙ ap (number_of most l) e)

pub colours_piece : (most x y : ℕ) (r g b : Held) (u v w : ℤ) → at r.grid.now x y ≡ u → at g.grid.now x y ≡ v → at b.grid.now x y ≡ w →
    pixels_text most (layers_of (r ∷ g ∷ b ∷ [])) y (x + 1) ≡ pixels_text most (layers_of (r ∷ g ∷ b ∷ [])) y x ++ (number_of most r u ++ (number_of most g v ++ number_of most b w))
colours_piece most x y r g b u v w e f h =
    below_more (pixel_text most (layers_of (r ∷ g ∷ b ∷ [])) y) x ∙ ap (λ (t : List ℕ). pixels_text most (layers_of (r ∷ g ∷ b ∷ [])) y x ++ t)
    (ap (λ (t : List ℕ). sample_text most x y (layer_of r) ++ (sample_text most x y (layer_of g) ++ t)) (append-nil (sample_text most x y (layer_of b)))
    ∙ ap (λ (n : ℤ). number_of most r n ++ (sample_text most x y (layer_of g) ++ sample_text most x y (layer_of b))) e
    ∙ ap (λ (n : ℤ). number_of most r u ++ (number_of most g n ++ sample_text most x y (layer_of b))) f
    ∙ ap (λ (n : ℤ). number_of most r u ++ (number_of most g v ++ number_of most b n)) h)

-- three pieces one after the other
pub three_joined : (before first second third a b c : List ℕ) → first ≡ before ++ a → second ≡ first ++ b → third ≡ second ++ c → third ≡ before ++ (a ++ (b ++ c))
three_joined before first second third a b c e f g =
    g ∙ ap (λ (t : List ℕ). t ++ c) (f ∙ ap (λ (t : List ℕ). t ++ b) e) ∙ append_assoc (before ++ a) b c ∙ append_assoc before a (b ++ c)

pub three_layers : (ls : List Held) (r g b : Held) → length ls ≡ 3 → r ≡ get_or ls 0 r → g ≡ get_or ls 1 g → b ≡ get_or ls 2 b → ls ≡ r ∷ g ∷ b ∷ []
three_layers [] r g b n e f h = let bad : ⊥ = omega (arith, n) in absurd bad
three_layers (k ∷ []) r g b n e f h = let bad : ⊥ = omega (arith, n) in absurd bad
three_layers (k ∷ l ∷ []) r g b n e f h = let bad : ⊥ = omega (arith, n) in absurd bad
three_layers (k ∷ l ∷ m ∷ []) r g b n e f h = ap (λ (z : Held). z ∷ l ∷ m ∷ []) (sym e) ∙ ap (λ (z : Held). r ∷ z ∷ m ∷ []) (sym f) ∙ ap (λ (z : Held). r ∷ g ∷ z ∷ []) (sym h)
three_layers (k ∷ l ∷ m ∷ o ∷ ls) r g b n e f h = let bad : ⊥ = omega (arith, n) in absurd bad
