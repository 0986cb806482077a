-- Coded channels are told by the grids of their parts.
use Rattle.std.proofs.Common.{◌≡◌, ℕ, suc, ◌+◌, ◌-◌, ◌<◌, inl, inr, ℤ, List, [], ◌∷◌, map, Some, refl, sym, ap, ◌∙◌, subst, arith}
use Rattle.std.specs.Prelude.{slice_get}
use Rattle.jxlm_base.specs.Grid.{Grid, at}
use Rattle.jxlm_base.specs.Outside.{buffer_at}
use Rattle.jxlm_base.specs.Regions.{HasCell, grid_of}
use Rattle.jxlm_base.specs.declared.subgrid.Region.{Region}
use Rattle.jxlm_base.proofs.Cells.{grid_same}
use Rattle.jxlm_base.proofs.GridLaws.{at-grid_by, cell_from_at}
use Rattle.jxlm_groups.specs.Parts.{HaveCell, HoldEachCellOnce, part_of}
use Rattle.jxlm_groups.specs.declared.pass.Pass.{Pass}
use Rattle.jxlm_groups.specs.Pieces.{part_channels, pieces}
use Rattle.jxlm_groups.specs.declared.part.SectionPart.{SectionPart}
use Rattle.jxlm_groups.proofs.PartChannels.{counts_cells}
use Rattle.jxlm_samples.specs.Part.{cell_count}
use Rattle.jxlm_transform.specs.Channels.{AreGridsOf, Channel, ChannelList}

-- full grids of the same channels, with the same samples
pub same_grids : (cs : List Channel) (gs hs : List (Grid ℤ)) → AreGridsOf cs gs → AreGridsOf cs hs →
    ((n x y : ℕ) (c : Channel) → slice_get cs n ≡ Some c → x < c.width → y < c.height → at (buffer_at gs n) x y ≡ at (buffer_at hs n) x y) → gs ≡ hs
same_grids [] [] [] a b same = refl
same_grids [] [] (h ∷ hs) a b same = absurd b
same_grids [] (g ∷ gs) hs a b same = absurd a
same_grids (c ∷ cs) [] hs a b same = absurd a
same_grids (c ∷ cs) (g ∷ gs) [] a b same = absurd b
same_grids (c ∷ cs) (g ∷ gs) (h ∷ hs) a b same =
    let one : g ≡ h = grid_same g h a.0.full b.0.full (a.0.same_width ∙ sym b.0.same_width) (a.0.same_height ∙ sym b.0.same_height) (λ x y lx ly.
    let wide : x < c.width = subst (λ w. x < w) a.0.same_width lx in
    let high : y < c.height = subst (λ w. y < w) a.0.same_height ly in
    cell_from_at g x y a.0.full lx ly ∙ ap Some (same 0 x y c refl wide high)
    ∙ sym (cell_from_at h x y b.0.full (subst (λ w. x < w) (sym b.0.same_width) wide) (subst (λ w. y < w) (sym b.0.same_height) high))) in
    ap (λ (x : Grid ℤ). x ∷ gs) one ∙ ap (λ (xs : List (Grid ℤ)). h ∷ xs) (same_grids cs gs hs a.1 b.1 (λ n x y d e lx ly. same (suc n) x y d e lx ly))

-- a region with the same grid in both has the same samples
one_region : (gs hs : List (Grid ℤ)) (r : Region) (n x y : ℕ) → HasCell r n x y → grid_of gs r ≡ grid_of hs r → at (buffer_at gs n) x y ≡ at (buffer_at hs n) x y
one_region gs hs r n x y h same =
    let left = h.left in
    let right = h.right in
    let top = h.top in
    let bottom = h.bottom in
    let i : ℕ = x - r.x in
    let j : ℕ = y - r.y in
    let li : i < r.width = omega (arith, left, right) in
    let lj : j < r.height = omega (arith, top, bottom) in
    let column : r.x + i ≡ x = omega (arith, left) in
    let row : r.y + j ≡ y = omega (arith, top) in
    let here : (fs : List (Grid ℤ)) → at (grid_of fs r) i j ≡ at (buffer_at fs n) x y =
    λ fs. at-grid_by r.width r.height (λ a b. at (buffer_at fs r.buffer) (r.x + a) (r.y + b)) i j li lj
    ∙ ap (λ k. at (buffer_at fs k) (r.x + i) (r.y + j)) h.buffer ∙ ap (λ k. at (buffer_at fs n) k (r.y + j)) column ∙ ap (λ k. at (buffer_at fs n) x k) row in
    sym (here gs) ∙ ap (λ (g : Grid ℤ). at g i j) same ∙ here hs

heads : {X : Type 0} (x y : X) (xs ys : List X) → x ∷ xs ≡ y ∷ ys → x ≡ y
heads x y xs ys e = cc

tails : {X : Type 0} (x y : X) (xs ys : List X) → x ∷ xs ≡ y ∷ ys → xs ≡ ys
tails x y xs ys e = cc

some_region : (gs hs : List (Grid ℤ)) (rs : List Region) (n x y : ℕ) → HaveCell rs n x y → map (grid_of gs) rs ≡ map (grid_of hs) rs → at (buffer_at gs n) x y ≡ at (buffer_at hs n) x y
some_region gs hs [] n x y h same = absurd h
some_region gs hs (r ∷ rs) n x y (inl h) same = one_region gs hs r n x y h (heads _ _ _ _ same)
some_region gs hs (r ∷ rs) n x y (inr h) same = some_region gs hs rs n x y h (tails _ _ _ _ same)

-- where parts hold each coded cell, and each part with samples has the same grids in both
pub same_coded : (dim : ℕ) (passes : List Pass) (l : ChannelList) → HoldEachCellOnce dim passes l → (gs hs : List (Grid ℤ)) → AreGridsOf l.channels gs → AreGridsOf l.channels hs →
    ((part : SectionPart) → 0 < cell_count (part_channels dim passes l part) → map (grid_of gs) (pieces dim passes l part) ≡ map (grid_of hs) (pieces dim passes l part)) → gs ≡ hs
same_coded dim passes l hold gs hs a b same =
    same_grids l.channels gs hs a b (λ n x y c e lx ly.
    let part : SectionPart = part_of dim passes l n c x y in
    let has : HaveCell (pieces dim passes l part) n x y = (hold.once part n x y c (record { channel = e; column = lx; row = ly })).1 refl in
    some_region gs hs (pieces dim passes l part) n x y has
    (same part ((counts_cells dim passes l part).1 (record { n = n; x = x; y = y; has = has }))))
