-- Parts of one image lie apart in its store, and what changes one keeps the others.
use Rattle.std.proofs.Common.{◌≡◌, ◌≢◌, ℕ, zero, suc, ◌+◌, ◌-◌, ◌<◌, ◌≤◌, inl, inr, List, [], ◌∷◌, map, length, get_or, ℤ, refl, sym, ap, ◌∙◌, subst, arith}
use Rattle.std.specs.List.{All}
use Rattle.std.proofs.lemmas.Bool.{cases_lt, cases_eq}
use Rattle.std.proofs.lemmas.List.Elements.{All-head, All-map, All-tail}
use Rattle.jxlm_base.specs.Grid.{Grid}
use Rattle.jxlm_base.specs.Outside.{KeepsOutside}
use Rattle.jxlm_base.specs.Regions.{HasCell, AreApart, LieApart, AllLie, grid_of, grids_in, store_meanings}
use Rattle.jxlm_base.specs.declared.subgrid.Region.{Region}
use Rattle.jxlm_transform.specs.Layout.{no_region}
use Rattle.jxlm_chain.proofs.KeptGrids.{grid_apart}
use Rattle.jxlm_transform.specs.Channels.{ChannelList}
use Rattle.jxlm_groups.specs.Passes.{Pass}
use Rattle.jxlm_groups.specs.Pieces.{SectionPart, pieces, within, in_store}
use Rattle.jxlm_groups.specs.Parts.{HaveCell, AreAllApart}
use Rattle.jxlm_groups.proofs.HeldCells.{no_common}

-- a region of the list that has a cell is one that has it
pub have_at : (ps : List Region) (i : ℕ) (d : Region) (n x y : ℕ) → i < length ps → HasCell (get_or ps i d) n x y → HaveCell ps n x y
have_at [] i d n x y lt h = absurd (omega (arith, lt))
have_at (p ∷ ps) zero d n x y lt h = inl h
have_at (p ∷ ps) (suc i) d n x y lt h = inr (have_at ps i d n x y (omega (arith, lt)) h)

-- the cell of a region of a region, as the inner one has it
inner_cell : (r p : Region) (b x y : ℕ) → HasCell (within r p) b x y → HasCell p p.buffer (x - r.x) (y - r.y)
inner_cell r p b x y h =
    let left = h.left in
    let right = h.right in
    let top = h.top in
    let bottom = h.bottom in
    record { buffer = refl; left = omega (arith, left); right = omega (arith, left, right); top = omega (arith, top); bottom = omega (arith, top, bottom) }

-- and as the outer one has it, where the inner one lies inside
pub outer_cell : (r p : Region) (b x y : ℕ) → p.x + p.width ≤ r.width → p.y + p.height ≤ r.height → HasCell (within r p) b x y → HasCell r b x y
outer_cell r p b x y wide high h =
    let left = h.left in
    let right = h.right in
    let top = h.top in
    let bottom = h.bottom in
    record { buffer = h.buffer; left = omega (arith, left); right = omega (arith, right, wide); top = omega (arith, top); bottom = omega (arith, bottom, high) }

pub map_same : {X Y : Type 0} (f g : X → Y) (xs : List X) → All (λ x. f x ≡ g x) xs → map f xs ≡ map g xs
map_same f g [] all = refl
map_same f g (x ∷ xs) all = ap (λ y. y ∷ map f xs) (All-head (λ x. f x ≡ g x) x xs all) ∙ ap (λ ys. g x ∷ ys) (map_same f g xs (All-tail (λ x. f x ≡ g x) x xs all))

-- a piece of a coded channel lies inside the channel's region
pub record IsInside (coded : List Region) (p : Region) : Type 0 where
  pub there : p.buffer < length coded
  pub wide : p.x + p.width ≤ (get_or coded p.buffer no_region).width
  pub high : p.y + p.height ≤ (get_or coded p.buffer no_region).height

module _ (dim : ℕ) (passes : List Pass) (l : ChannelList) (coded : List Region) (apart : LieApart coded)
    (inside : (part : SectionPart) → All (IsInside coded) (pieces dim passes l part)) where
  module _ (one other : SectionPart) (unlike : one ≡ other → ⊥) where
    pieces_apart : (p q : Region) → IsInside coded p → IsInside coded q → ((n x y : ℕ) → HasCell p n x y → HasCell q n x y → ⊥) → AreApart (within (get_or coded p.buffer no_region) p) (within (get_or coded q.buffer no_region) q)
    pieces_apart p q in_p in_q never = λ b x y h k.
        let r : Region = get_or coded p.buffer no_region in
        let s : Region = get_or coded q.buffer no_region in
        let hr = outer_cell r p b x y in_p.wide in_p.high h in
        let ks = outer_cell s q b x y in_q.wide in_q.high k in
        elim (cases_eq p.buffer q.buffer) [
          | inl same ↦
              let t : r ≡ s = ap (λ i. get_or coded i no_region) same in
              let k' : HasCell (within r q) b x y = subst (λ z. HasCell (within z q) b x y) (sym t) k in
              let mine = inner_cell r p b x y h in
              let yours : HasCell q p.buffer (x - r.x) (y - r.y) = subst (λ n. HasCell q n (x - r.x) (y - r.y)) (sym same) (inner_cell r q b x y k') in
              never p.buffer (x - r.x) (y - r.y) mine yours
          | inr unlike ↦ different p.buffer q.buffer in_p.there in_q.there unlike b x y hr ks
        ] where
          different : (i j : ℕ) → i < length coded → j < length coded → i ≢ j → AreApart (get_or coded i no_region) (get_or coded j no_region)
          different i j li lj ne = elim (cases_lt i j) [
            | inl lt ↦ apart i j no_region lt lj
            | inr ge ↦ λ b x y h k. apart j i no_region (omega (arith, ge, ne)) li b x y k h
          ]

    -- Two parts of an image share no cell of its store.
    pub parts_apart : AreAllApart (in_store coded (pieces dim passes l one)) (in_store coded (pieces dim passes l other))
    parts_apart =
        let ps : List Region = pieces dim passes l one in
        let qs : List Region = pieces dim passes l other in
        let f : Region → Region = λ p. within (get_or coded p.buffer no_region) p in
        All-map (λ s. All (λ r. AreApart r s) (map f ps)) f qs (λ j d lj.
        All-map (λ r. AreApart r (f (get_or qs j d))) f ps (λ i e li.
        pieces_apart (get_or ps i e) (get_or qs j d) (inside one i e li) (inside other j d lj) (λ n x y a b. no_common dim passes l one other unlike n x y (have_at ps i e n x y li a) (have_at qs j d n x y lj b))))

    -- What changes one part's cells alone keeps the grids of the other.
    pub part_kept : {S : Type 0} (to_int : S → ℤ) (old new : List (Grid S)) → AllLie (in_store coded (pieces dim passes l other)) old → KeepsOutside (in_store coded (pieces dim passes l one)) old new →
        grids_in (in_store coded (pieces dim passes l other)) (store_meanings to_int new) ≡ grids_in (in_store coded (pieces dim passes l other)) (store_meanings to_int old)
    part_kept {S} to_int old new lie keeps =
        let rs : List Region = in_store coded (pieces dim passes l one) in
        let ss : List Region = in_store coded (pieces dim passes l other) in
        let apart_each = parts_apart in
        map_same (grid_of (store_meanings to_int new)) (grid_of (store_meanings to_int old)) ss (λ j d lj. grid_apart to_int rs old new (get_or ss j d) keeps (lie j d lj) (apart_each j d lj))
