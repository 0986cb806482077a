-- The sides of a piece, shifted back, have at most 32 bits, and so have the places of groups.
use Rattle.std.proofs.Common.{◌≡◌, ℕ, zero, suc, ◌+◌, ◌*◌, ◌/◌, ◌^◌, ◌<◌, ◌≤◌, inl, inr, Bool, true, false, ◌&&◌, nat_lt, if◌then◌else◌, List, [], ◌∷◌, ◌++◌, length, map, get_or, Option, Some, None, IfSome, refl, sym, ap, ◌∙◌, arith}
use Rattle.std.specs.Prelude.{unsigned_abs, filter_map}
use Rattle.std.specs.List.{cons_option, enumerate_from}
use Rattle.std.proofs.lemmas.Bool.{cases_lt, ltb-true}
use Rattle.std.proofs.lemmas.List.{append_assoc, at_drop_more}
use Rattle.std.proofs.lemmas.Nat.{div-add-mod', div_below, pow_pos}
use Rattle.std.proofs.Math.Nat.{mul-le-mul_right, mul_comm, pow-le-pow_right}
use Rattle.jxlm_base.specs.declared.subgrid.Region.{Region}
use Rattle.jxlm_transform.specs.Layout.{no_region}
use Rattle.jxlm_transform.specs.Channels.{AreRegionsOf, Channel}
use Rattle.jxlm_transform.specs.ChannelSteps.{table_channel}
use Rattle.jxlm_transform.specs.Params.{IsGroupDim}
use Rattle.jxlm_groups.specs.Passes.{Pass}
use Rattle.jxlm_groups.specs.Cutting.{Kind, cell_height, cell_width, is_low_frequency, kind_of, list_with, rows, span}
use Rattle.jxlm_groups.specs.Pieces.{SectionPart, channel_in, in_store, piece, piece_in, where_some, within}
use Rattle.jxlm_groups.specs.Inner.Fitting.{FitsBack, pieces_from}
use Rattle.jxlm_groups.proofs.HeldCells.{own_piece_in}
use Rattle.jxlm_groups.proofs.Pictured.{ceil_within}

pub small_span : (dim : ℕ) (c : Channel) → IsGroupDim dim → span dim c ≤ 2 ^ 23
small_span dim c d = chosen (is_low_frequency c) where
  chosen : (b : Bool) → (if b then 8 * dim else dim) ≤ 2 ^ 23
  chosen true = let most = d.1 in omega (arith, most)
  chosen false = let most = d.1 in omega (arith, most)

-- a part of a side, shifted back, is no more than the side
back : (s h w : ℕ) → s ≤ 2 ^ 23 → 0 < w → w ≤ s / 2 ^ h → (h < 32) × (w * 2 ^ h < 2 ^ 32)
back s h w small some le =
    let d = div-add-mod' s (2 ^ h) in
    let m : w * 2 ^ h ≤ s / 2 ^ h * 2 ^ h = mul-le-mul_right (2 ^ h) le in
    let one : 1 * 2 ^ h ≤ w * 2 ^ h = mul-le-mul_right (2 ^ h) (omega (arith, some)) in (
      elim (cases_lt h 32) [
        | inl lt ↦ lt
        | inr ge ↦
            let far : 2 ^ 32 ≤ 2 ^ h = pow-le-pow_right {n = 2} (omega arith) {i = 32} {j = h} ge in
            absurd (omega (arith, far, one, m, d, small))
      ],
      omega (arith, m, d, small),
    )

-- the sides of a cell are small
pub small_side : (dim : ℕ) (c : Channel) (h : ℕ) → IsGroupDim dim → span dim c / 2 ^ h ≤ 2 ^ 23
small_side dim c h group =
    let s = small_span dim c group in
    let d = div-add-mod' (span dim c) (2 ^ h) in
    let p = pow_pos h in
    let one : span dim c / 2 ^ h * 1 ≤ span dim c / 2 ^ h * 2 ^ h = wider (span dim c / 2 ^ h) (2 ^ h) (omega (arith, p)) in
    omega (arith, s, d, one) where
      wider : (n m : ℕ) → 1 ≤ m → n * 1 ≤ n * m
      wider n m le = let r = mul-le-mul_right n le in omega (arith, r)

-- a region with cells, no larger than a group's cell in the channel
pub fits_back : (dim : ℕ) (c : Channel) (r : Region) → IsGroupDim dim → 0 < r.width → 0 < r.height → r.width ≤ cell_width dim c → r.height ≤ cell_height dim c → FitsBack c r
fits_back dim c r group wide high across down =
    let s = small_span dim c group in
    let a = back (span dim c) (unsigned_abs c.hshift) r.width s wide across in
    let b = back (span dim c) (unsigned_abs c.vshift) r.height s high down in
    record { hshift = a.0; vshift = b.0; width = a.1; height = b.1 }

-- a product of two numbers of 32 bits
pub product_fits : (a b : ℕ) → a < 2 ^ 32 → b ≤ 2 ^ 23 → a * b < 2 ^ 64
product_fits a b la lb =
    let m : a * b ≤ a * 2 ^ 23 = wide a b (2 ^ 23) lb in
    omega (arith, m, la) where
      wide : (n i j : ℕ) → i ≤ j → n * i ≤ n * j
      wide n i j le = let r = mul-le-mul_right n le in omega (arith, r)

-- how many rows of groups there are
pub few_rows : (dim : ℕ) (c : Channel) → IsGroupDim dim → c.original_height < 2 ^ 32 → rows dim c < 2 ^ 32
few_rows dim c group lt =
    let s = some_span in
    let all : 1 * c.original_height ≤ span dim c * c.original_height = mul-le-mul_right c.original_height s in
    let swap = mul_comm (span dim c) c.original_height in
    let le = ceil_within c.original_height (span dim c) c.original_height (omega (arith, s)) (omega (arith, all, swap)) in
    omega (arith, le, lt) where
      chosen : (b : Bool) → 1 ≤ (if b then 8 * dim else dim)
      chosen true = let least = group.0 in omega (arith, least)
      chosen false = let least = group.0 in omega (arith, least)

      some_span : 1 ≤ span dim c
      some_span = chosen (is_low_frequency c)

-- the row of a group
pub row_below : (k cols rws : ℕ) → k < cols * rws → k / cols < rws
row_below k zero rws lt = absurd (let none = mul_comm 0 rws in omega (arith, lt, none))
row_below k (suc cols) rws lt = div_below k (suc cols) rws (omega arith) (let swap = mul_comm rws (suc cols) in omega (arith, lt, swap))

-- a region that is kept because it has cells fits
pub fits_some : (dim : ℕ) (c : Channel) (o : Option Region) (r : Region) → IsGroupDim dim → o ≡ where_some true r → r.width ≤ cell_width dim c → r.height ≤ cell_height dim c → IfSome o (λ r. FitsBack c r)
fits_some dim c o r group is across down = rw is (kept (nat_lt 0 r.width) (nat_lt 0 r.height) refl refl) where
  kept : (a b : Bool) → nat_lt 0 r.width ≡ a → nat_lt 0 r.height ≡ b → IfSome (if true && a && b then Some r else None) (λ r. FitsBack c r)
  kept true true e d = fits_back dim c r group (ltb-true 0 r.width e) (ltb-true 0 r.height d) across down
  kept true false e d = tt
  kept false b e d = tt

-- ---- the piece of a channel in the lists of a part

-- the coded channel's region has its channel's sides
pub sides_at : (cs : List Channel) (rs : List Region) (n : ℕ) (c : Channel) (r : Region) → AreRegionsOf cs rs → n < length cs →
    (n < length rs) × ((get_or rs n r).width ≡ (get_or cs n c).width) × ((get_or rs n r).height ≡ (get_or cs n c).height)
sides_at [] rs n c r zip lt = absurd (omega (arith, lt))
sides_at (b ∷ cs) [] n c r zip lt = absurd zip
sides_at (b ∷ cs) (q ∷ rs) zero c r zip lt = (omega arith, zip.0.0, zip.0.1)
sides_at (b ∷ cs) (q ∷ rs) (suc n) c r zip lt = let (there, w, h) = sides_at cs rs n c r zip.1 (omega (arith, lt)) in (omega (arith, there), w, h)

pub same_sides_at : (cs : List Channel) (rs : List Region) (n : ℕ) (c : Channel) (r : Region) → AreRegionsOf cs rs → n < length cs →
    ((get_or rs n r).width ≡ (get_or cs n c).width) × ((get_or rs n r).height ≡ (get_or cs n c).height)
same_sides_at cs rs n c r zip lt = let s = sides_at cs rs n c r zip lt in (s.1, s.2)

module _ (dim : ℕ) (passes : List Pass) (count : ℕ) (name : SectionPart) where
  -- the pieces from a channel on: what the part has of this one, and the pieces from the next one on
  pub pieces_turn : (n : ℕ) (cs : List Channel) (d : Channel) → n < length cs →
      pieces_from dim passes count name n cs ≡ cons_option (piece_in dim (kind_of passes count n (get_or cs n d)) name n (get_or cs n d)) (pieces_from dim passes count name (n + 1) cs)
  pieces_turn n cs d lt = at_drop_more (λ xs. filter_map (piece dim passes count name) (enumerate_from n xs)) cs n d lt

-- one element or none, and then others
cons_append : {X Y : Type 0} (f g : X → Y) (o : Option X) (xs : List X) → ((x : X) → o ≡ Some x → f x ≡ g x) → map f (cons_option o xs) ≡ map g (cons_option o []) ++ map f xs
cons_append f g None xs same = refl
cons_append f g (Some x) xs same = ap (λ y. y ∷ map f xs) (same x refl)

-- a list to which the first ones of the rest were added
pub added_more : {X Y : Type 0} (f g : X → Y) (o : Option X) (xs whole : List X) (old new all : List Y) → ((x : X) → o ≡ Some x → f x ≡ g x) → whole ≡ cons_option o xs →
    new ≡ old ++ map g (cons_option o []) → old ++ map f whole ≡ all → new ++ map f xs ≡ all
added_more f g o xs whole old new all same turn added is =
    ap (λ ys. ys ++ map f xs) added ∙ append_assoc old (map g (cons_option o [])) (map f xs) ∙ sym (ap (λ ys. old ++ ys) (ap (map f) turn ∙ cons_append f g o xs same)) ∙ is

same_get : {X : Type 0} (xs : List X) (n : ℕ) (d e : X) → n < length xs → get_or xs n d ≡ get_or xs n e
same_get [] n d e lt = absurd (omega (arith, lt))
same_get (x ∷ xs) zero d e lt = refl
same_get (x ∷ xs) (suc n) d e lt = same_get xs n d e (omega (arith, lt))

-- what a part has of channel n, whose kind this is, was added
module _ (dim : ℕ) (passes : List Pass) (count : ℕ) (name : SectionPart) (cs : List Channel) (n : ℕ) (d : Channel) (k : Kind) (lt : n < length cs) (is : k ≡ kind_of passes count n (get_or cs n d)) where
  abbrev here : Option Region
  here = piece_in dim k name n (get_or cs n d)

  turn : pieces_from dim passes count name n cs ≡ cons_option here (pieces_from dim passes count name (n + 1) cs)
  turn = pieces_turn dim passes count name n cs d lt ∙ ap (λ k. cons_option (piece_in dim k name n (get_or cs n d)) (pieces_from dim passes count name (n + 1) cs)) (sym is)

  own_here : (r : Region) → here ≡ Some r → r.buffer ≡ n
  own_here r e = own_piece_in dim passes (list_with cs 0) k name n (get_or cs n d) r e

  pub channels_turn : (old new all : List Channel) → new ≡ old ++ map (channel_in name (get_or cs n d)) (cons_option here []) →
      old ++ map (λ r. channel_in name (get_or cs r.buffer (table_channel 0 0)) r) (pieces_from dim passes count name n cs) ≡ all →
      new ++ map (λ r. channel_in name (get_or cs r.buffer (table_channel 0 0)) r) (pieces_from dim passes count name (n + 1) cs) ≡ all
  channels_turn old new all added before =
      added_more (λ r. channel_in name (get_or cs r.buffer (table_channel 0 0)) r) (channel_in name (get_or cs n d)) here (pieces_from dim passes count name (n + 1) cs) (pieces_from dim passes count name n cs) old new all
      (λ r e. ap (λ i. channel_in name (get_or cs i (table_channel 0 0)) r) (own_here r e) ∙ ap (λ c. channel_in name c r) (same_get cs n (table_channel 0 0) d lt)) turn added before

  pub regions_turn : (coded : List Region) (e : Region) → n < length coded → (old new all : List Region) → new ≡ old ++ map (within (get_or coded n e)) (cons_option here []) →
      old ++ in_store coded (pieces_from dim passes count name n cs) ≡ all → new ++ in_store coded (pieces_from dim passes count name (n + 1) cs) ≡ all
  regions_turn coded e there old new all added before =
      added_more (λ r. within (get_or coded r.buffer no_region) r) (within (get_or coded n e)) here (pieces_from dim passes count name (n + 1) cs) (pieces_from dim passes count name n cs) old new all
      (λ r k. ap (λ i. within (get_or coded i no_region) r) (own_here r k) ∙ ap (λ q. within q r) (same_get coded n no_region e there)) turn added before
