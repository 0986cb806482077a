-- Each cell of a channel lies in the region of exactly one part.
use Rattle.std.proofs.Common.{◌≡◌, ℕ, ◌+◌, ◌*◌, ◌/◌, ◌%◌, ◌-◌, ◌<◌, ◌≤◌, min, Bool, true, false, ◌&&◌, nat_lt, ◌==◌, if◌then◌else◌, Option, Some, None, refl, ap, ◌∙◌, arith, eq-eqb, eqb-true}
use Rattle.std.proofs.lemmas.Bool.{lt-ltb}
use Rattle.std.proofs.lemmas.Nat.{div-add-mod', div_below, mod_below}
use Rattle.std.proofs.Math.Nat.{div-eq_of_lt-le, mul-le-mul_right, mul_comm}
use Rattle.jxlm_base.specs.Regions.{region, HasCell}
use Rattle.jxlm_base.specs.declared.subgrid.Region.{Region}
use Rattle.jxlm_transform.proofs.StepFacts.{both_of}
use Rattle.jxlm_transform.specs.Channels.{Channel}
use Rattle.jxlm_groups.specs.Cutting.{Kind, cell_width, cell_height, columns, rows}
use Rattle.jxlm_groups.specs.Pieces.{SectionPart, piece_in, piece_of_group, where_some}
use Rattle.jxlm_groups.specs.Parts.{group_of, part_in}
use Rattle.jxlm_groups.specs.declared.part.Kind.TheVariants as kinds
use Rattle.jxlm_groups.specs.declared.part.SectionPart.TheVariants as parts

-- A number is in exactly one of the cells of side n: the one of its quotient.
in_cell : (n x : ℕ) → 0 < n → (x / n * n ≤ x) × (x < x / n * n + n)
in_cell n x h = let d = div-add-mod' x n in let m = mod_below x n h in (omega (arith, d), omega (arith, d, m))

of_cell : (n x k : ℕ) → 0 < n → k * n ≤ x → x < k * n + n → x / n ≡ k
of_cell n x k h a b = div-eq_of_lt-le n a (omega (arith, b))

-- a number below a whole number of cells is in one of them
below_cells : (n m x : ℕ) → 0 < n → x < m * n → x / n < m
below_cells n m x h b = div_below x n m h b

-- quotient and rest of a number of a grid
of_both : (cols b a : ℕ) → a < cols → ((b * cols + a) / cols ≡ b) × ((b * cols + a) % cols ≡ a)
of_both cols b a h =
    let q = of_cell cols (b * cols + a) b (omega arith) (omega arith) (omega arith) in
    let d = div-add-mod' (b * cols + a) cols in
    (q, let e : (b * cols + a) / cols * cols ≡ b * cols = ap (λ z. z * cols) q in omega (arith, d, e))

-- A place in the cell of a group is of that group.
pub is_group : (cw ch w h cols n k x y : ℕ) → HasCell (region n ((k % cols) * cw) ((k / cols) * ch) (min cw (w - (k % cols) * cw)) (min ch (h - (k / cols) * ch))) n x y → k ≡ y / ch * cols + x / cw
is_group cw ch w h cols n k x y has =
    let left = has.left in
    let right = has.right in
    let top = has.top in
    let bottom = has.bottom in
    let across : x / cw ≡ k % cols = of_cell cw x (k % cols) (omega (arith, left, right)) left (omega (arith, right)) in
    let down : y / ch ≡ k / cols = of_cell ch y (k / cols) (omega (arith, top, bottom)) top (omega (arith, bottom)) in
    let d = div-add-mod' k cols in
    let e : y / ch * cols ≡ k / cols * cols = ap (λ z. z * cols) down in
    omega (arith, d, e, across)

-- Where the cells of a row and of a column cover a channel, each place is in the cell of some group.
module _ (cw ch w h cols rws : ℕ) (pw : 0 < cw) (ph : 0 < ch) (fw : w ≤ cols * cw) (fh : h ≤ rws * ch) (n k x y : ℕ) (lx : x < w) (ly : y < h) where
  abbrev cell : Region
  cell = region n ((k % cols) * cw) ((k / cols) * ch) (min cw (w - (k % cols) * cw)) (min ch (h - (k / cols) * ch))

  a_column : x / cw < cols
  a_column = below_cells cw cols x pw (omega (arith, fw, lx))

  a_row : y / ch < rws
  a_row = below_cells ch rws y ph (omega (arith, fh, ly))

  pub has_group : k ≡ y / ch * cols + x / cw → HasCell cell n x y
  has_group e =
      let both = of_both cols (y / ch) (x / cw) a_column in
      let down : k / cols ≡ y / ch = ap (λ z. z / cols) e ∙ both.0 in
      let across : k % cols ≡ x / cw = ap (λ z. z % cols) e ∙ both.1 in
      let x0 : (k % cols) * cw ≡ x / cw * cw = ap (λ z. z * cw) across in
      let y0 : (k / cols) * ch ≡ y / ch * ch = ap (λ z. z * ch) down in
      let u = in_cell cw x pw in
      let v = in_cell ch y ph in
      record { buffer = refl; left = omega (arith, x0, u.0); right = omega (arith, x0, u.0, u.1, lx); top = omega (arith, y0, v.0); bottom = omega (arith, y0, v.0, v.1, ly) }

  pub a_group : k ≡ y / ch * cols + x / cw → k < cols * rws
  a_group e =
      let m : (y / ch + 1) * cols ≤ rws * cols = mul-le-mul_right cols (let r = a_row in omega (arith, r)) in
      let c : rws * cols ≡ cols * rws = mul_comm rws cols in
      let a = a_column in
      omega (arith, m, c, a, e)

-- ---- what a part holds of a channel of a kind

-- the region, if there is one, has this cell
abbrev pub HasIn : Option Region → ℕ → ℕ → ℕ → Type 0
HasIn None n x y = ⊥
HasIn (Some r) n x y = HasCell r n x y

pub some_in : (b : Bool) (r : Region) (n x y : ℕ) → HasIn (where_some b r) n x y → (b ≡ true) × HasCell r n x y
some_in true r n x y h = (refl, widened (nat_lt 0 r.width) (nat_lt 0 r.height) h) where
  widened : (c d : Bool) → HasIn (if c && d then Some r else None) n x y → HasCell r n x y
  widened true true h = h
  widened true false h = absurd h
  widened false d h = absurd h
some_in false r n x y h = absurd h

and_of : (a b : Bool) → a ≡ true → b ≡ true → (a && b) ≡ true
and_of true b e d = d
and_of false b e d = cc

in_some : (b : Bool) (r : Region) (n x y : ℕ) → b ≡ true → HasCell r n x y → HasIn (where_some b r) n x y
in_some b r n x y e h =
    let left = h.left in
    let right = h.right in
    let top = h.top in
    let bottom = h.bottom in
    let w : nat_lt 0 r.width ≡ true = leb-of (omega arith) in
    let v : nat_lt 0 r.height ≡ true = leb-of (omega arith) in
    rw (e, w, v) h where
      leb-of : {m n : ℕ} → m < n → nat_lt m n ≡ true
      leb-of {m = a} {n = b} l = lt-ltb a b l

-- a channel whose cells are covered by its groups
pub record IsCut (dim : ℕ) (c : Channel) : Type 0 where
  pub wide : 0 < cell_width dim c
  pub high : 0 < cell_height dim c
  pub across : c.width ≤ columns dim c * cell_width dim c
  pub down : c.height ≤ rows dim c * cell_height dim c

module _ (dim n : ℕ) (c : Channel) (x y : ℕ) where
  in_group : (k : ℕ) → HasCell (piece_of_group dim k n c) n x y → k ≡ group_of dim c x y
  in_group k = is_group (cell_width dim c) (cell_height dim c) c.width c.height (columns dim c) n k x y

  -- the part that has the cell is the one to which it belongs
  pub own : (kind : Kind) (part : SectionPart) → HasIn (piece_in dim kind part n c) n x y → part ≡ part_in kind (group_of dim c x y)
  own kinds.Global parts.Global h = refl
  own kinds.Lf (parts.Lf k) h = ap parts.Lf (in_group k (some_in (nat_lt k (columns dim c * rows dim c)) (piece_of_group dim k n c) n x y h).1)
  own (kinds.Pass q) (parts.Pass p k) h =
      let some = some_in ((p == q) && nat_lt k (columns dim c * rows dim c)) (piece_of_group dim k n c) n x y h in
      let tests = both_of (p == q) (nat_lt k (columns dim c * rows dim c)) some.0 in
      ap2 parts.Pass (eqb-true p q tests.0) (in_group k some.1) where
        ap2 : {a b i j : ℕ} (f : ℕ → ℕ → SectionPart) → a ≡ b → i ≡ j → f a i ≡ f b j
        ap2 f e d = cc
  own kinds.Global (parts.Lf k) h = absurd h
  own kinds.Global (parts.Pass p k) h = absurd h
  own kinds.Lf parts.Global h = absurd h
  own kinds.Lf (parts.Pass p k) h = absurd h
  own (kinds.Pass q) parts.Global h = absurd h
  own (kinds.Pass q) (parts.Lf k) h = absurd h

module _ (dim n : ℕ) (c : Channel) (x y : ℕ) (lx : x < c.width) (ly : y < c.height) where
  of_group : (k : ℕ) → IsCut dim c → k ≡ group_of dim c x y → HasCell (piece_of_group dim k n c) n x y × (k < columns dim c * rows dim c)
  of_group k cut e = (
    has_group (cell_width dim c) (cell_height dim c) c.width c.height (columns dim c) (rows dim c) cut.wide cut.high cut.across cut.down n k x y lx ly e,
    a_group (cell_width dim c) (cell_height dim c) c.width c.height (columns dim c) (rows dim c) cut.wide cut.high cut.across cut.down n k x y lx ly e,
  )

  -- and that one has it, where the channel is cut into groups
  pub held : (kind : Kind) (part : SectionPart) → ((kind ≡ kinds.Global → ⊥) → IsCut dim c) → part ≡ part_in kind (group_of dim c x y) → HasIn (piece_in dim kind part n c) n x y
  held kinds.Global parts.Global cut e = record { buffer = refl; left = omega arith; right = omega arith; top = omega arith; bottom = omega arith }
  held kinds.Lf (parts.Lf k) cut e =
      let both = of_group k (cut low) (same_low e) in
      in_some (nat_lt k (columns dim c * rows dim c)) (piece_of_group dim k n c) n x y (lt-ltb k (columns dim c * rows dim c) both.1) both.0 where
        low : kinds.Lf ≡ kinds.Global → ⊥
        low e = cc

        same_low : {a b : ℕ} → parts.Lf a ≡ parts.Lf b → a ≡ b
        same_low e = cc
  held (kinds.Pass q) (parts.Pass p k) cut e =
      let both = of_group k (cut in_pass) (same_group e) in
      in_some ((p == q) && nat_lt k (columns dim c * rows dim c)) (piece_of_group dim k n c) n x y
      (and_of (p == q) (nat_lt k (columns dim c * rows dim c)) (eq-eqb p q (same_pass e)) (lt-ltb k (columns dim c * rows dim c) both.1)) both.0 where
        in_pass : kinds.Pass q ≡ kinds.Global → ⊥
        in_pass e = cc

        same_pass : {a b i j : ℕ} → parts.Pass a i ≡ parts.Pass b j → a ≡ b
        same_pass e = cc

        same_group : {a b i j : ℕ} → parts.Pass a i ≡ parts.Pass b j → i ≡ j
        same_group e = cc
  held kinds.Global (parts.Lf k) cut e = absurd cc
  held kinds.Global (parts.Pass p k) cut e = absurd cc
  held kinds.Lf parts.Global cut e = absurd cc
  held kinds.Lf (parts.Pass p k) cut e = absurd cc
  held (kinds.Pass q) parts.Global cut e = absurd cc
  held (kinds.Pass q) (parts.Lf k) cut e = absurd cc
