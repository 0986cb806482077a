-- The regions of a part, and whose cells they have.
use Rattle.std.proofs.Common.{◌≡◌, ◌≢◌, ◌↔◌, ℕ, zero, suc, ◌+◌, ◌*◌, ◌/◌, ◌%◌, ◌-◌, min, ◌==◌, ◌&&◌, if◌then◌else◌, ◌<◌, ◌≤◌, ◌⊎◌, inl, inr, Bool, true, false, nat_lt, List, [], ◌∷◌, Option, Some, None, refl, sym, ap, ◌∙◌, subst, arith}
use Rattle.std.specs.List.{All, AllPairs, filter_map, enumerate_from, cons_option, slice_get}
use Rattle.std.proofs.lemmas.Bool.{cases_lt, lt-ltb}
use Rattle.std.proofs.lemmas.List.Kept.{AllPairs-cons}
use Rattle.std.proofs.lemmas.List.Elements.{All-cons, All-weaker}
use Rattle.jxlm_base.specs.Regions.{HasCell}
use Rattle.jxlm_base.specs.declared.subgrid.Region.{Region}
use Rattle.jxlm_transform.specs.Channels.{Channel, ChannelList}
use Rattle.jxlm_groups.proofs.Cover.{HasIn, IsCut, held, own as own_part, some_in}
use Rattle.jxlm_groups.specs.Passes.{Pass}
use Rattle.jxlm_groups.specs.Cutting.{Kind, cell_width, cell_height, global_count, kind_of, columns, rows}
use Rattle.jxlm_groups.specs.Pieces.{SectionPart, piece, piece_in, piece_of_group, pieces, where_some}
use Rattle.jxlm_groups.specs.Parts.{HaveCell, HoldEachCellOnce, IsCell, part_of}
use Rattle.jxlm_groups.specs.declared.part.Kind.TheVariants as kinds
use Rattle.jxlm_groups.specs.declared.part.SectionPart.TheVariants as parts

pub have_split : (o : Option Region) (rs : List Region) (n x y : ℕ) → HaveCell (cons_option o rs) n x y → HasIn o n x y ⊎ HaveCell rs n x y
have_split None rs n x y h = inr h
have_split (Some r) rs n x y h = h

pub have_first : (o : Option Region) (rs : List Region) (n x y : ℕ) → HasIn o n x y → HaveCell (cons_option o rs) n x y
have_first None rs n x y h = absurd h
have_first (Some r) rs n x y h = inl h

pub have_rest : (o : Option Region) (rs : List Region) (n x y : ℕ) → HaveCell rs n x y → HaveCell (cons_option o rs) n x y
have_rest None rs n x y h = h
have_rest (Some r) rs n x y h = inr h

pub same_some : {X : Type 0} {a b : X} → ◌≡◌ {A = Option X} (Some a) (Some b) → a ≡ b
same_some e = cc

pub none_some : {X : Type 0} {a : X} → ◌≡◌ {A = Option X} None (Some a) → ⊥
none_some e = cc

-- channel i of a list of channels, whose first is number m, has a region with this cell
pub record HasOf (f : ℕ × Channel → Option Region) (m : ℕ) (cs : List Channel) (n x y : ℕ) : Type 0 where
  pub i : ℕ
  pub c : Channel
  pub place : n ≡ m + i
  pub channel : slice_get cs i ≡ Some c
  pub has : HasIn (f (n, c)) n x y

module _ (f : ℕ × Channel → Option Region) (own : (p : ℕ × Channel) (r : Region) → f p ≡ Some r → r.buffer ≡ p.0) where
  own_in : (o : Option Region) (p : ℕ × Channel) (n x y : ℕ) → f p ≡ o → HasIn o n x y → n ≡ p.0
  own_in None p n x y e h = absurd h
  own_in (Some r) p n x y e h = sym h.buffer ∙ own p r e

  pub into : (m : ℕ) (cs : List Channel) (n x y : ℕ) → HaveCell (filter_map f (enumerate_from m cs)) n x y → HasOf f m cs n x y
  into m [] n x y h = absurd h
  into m (c ∷ cs) n x y h =
      elim (have_split (f (m, c)) (filter_map f (enumerate_from (m + 1) cs)) n x y h) [
        | inl a ↦
            let is : n ≡ m = own_in (f (m, c)) (m, c) n x y refl a in
            record { i = 0; c = c; place = is ∙ omega arith; channel = refl; has = subst (λ k. HasIn (f (k, c)) n x y) (sym is) a }
        | inr b ↦
            let r = into (m + 1) cs n x y b in
            let p = r.place in
            record { i = suc r.i; c = r.c; place = omega (arith, p); channel = r.channel; has = r.has }
      ]

  pub out : (m : ℕ) (cs : List Channel) (i : ℕ) (c : Channel) (n x y : ℕ) → slice_get cs i ≡ Some c → n ≡ m + i → HasIn (f (n, c)) n x y → HaveCell (filter_map f (enumerate_from m cs)) n x y
  out m [] i c n x y e p h = absurd (none_some e)
  out m (d ∷ cs) zero c n x y e p h =
      have_first (f (m, d)) (filter_map f (enumerate_from (m + 1) cs)) n x y
      (let q : n ≡ m = p ∙ omega arith in subst (λ k. HasIn (f (k, d)) n x y) q (subst (λ z. HasIn (f (n, z)) n x y) (sym (same_some e)) h))
  out m (d ∷ cs) (suc i) c n x y e p h =
      have_rest (f (m, d)) (filter_map f (enumerate_from (m + 1) cs)) n x y (out (m + 1) cs i c n x y e (omega (arith, p)) h)

  least_of : (o : Option Region) (m : ℕ) (c : Channel) (rs : List Region) → f (m, c) ≡ o → All (λ r. m + 1 ≤ r.buffer) rs → All (λ r. m ≤ r.buffer) (cons_option o rs)
  least_of None m c rs e all = All-weaker (λ r. m + 1 ≤ r.buffer) (λ r. m ≤ r.buffer) (λ r h. omega (arith, h)) rs all
  least_of (Some s) m c rs e all =
      All-cons (λ r. m ≤ r.buffer) s rs (let is = own (m, c) s e in omega (arith, is)) (All-weaker (λ r. m + 1 ≤ r.buffer) (λ r. m ≤ r.buffer) (λ r h. omega (arith, h)) rs all)

  least : (m : ℕ) (cs : List Channel) → All (λ r. m ≤ r.buffer) (filter_map f (enumerate_from m cs))
  least m [] = λ k d l. absurd (omega arith)
  least m (c ∷ cs) = least_of (f (m, c)) m c (filter_map f (enumerate_from (m + 1) cs)) refl (least (m + 1) cs)

  apart_of : (o : Option Region) (m : ℕ) (c : Channel) (rs : List Region) → f (m, c) ≡ o → All (λ r. m + 1 ≤ r.buffer) rs → AllPairs (λ a b. a.buffer ≢ b.buffer) rs → AllPairs (λ a b. a.buffer ≢ b.buffer) (cons_option o rs)
  apart_of None m c rs e all pairs = pairs
  apart_of (Some s) m c rs e all pairs =
      AllPairs-cons (λ a b. a.buffer ≢ b.buffer) s rs
      (All-weaker (λ r. m + 1 ≤ r.buffer) (λ r. s.buffer ≢ r.buffer) (λ r h same. let is = own (m, c) s e in omega (arith, is, h, same)) rs all) pairs

  apart : (m : ℕ) (cs : List Channel) → AllPairs (λ a b. a.buffer ≢ b.buffer) (filter_map f (enumerate_from m cs))
  apart m [] = λ i j d lt l. absurd (omega arith)
  apart m (c ∷ cs) = apart_of (f (m, c)) m c (filter_map f (enumerate_from (m + 1) cs)) refl (least (m + 1) cs) (apart (m + 1) cs)

some_if : (a b c : Bool) (r s : Region) → if◌then◌else◌ {A = Option Region} (a && b && c) (Some r) None ≡ Some s → r ≡ s
some_if true true true r s e = same_some e
some_if true true false r s e = absurd (none_some e)
some_if true false c r s e = absurd (none_some e)
some_if false b c r s e = absurd (none_some e)

own_some : (b : Bool) (r s : Region) → where_some b r ≡ Some s → r ≡ s
own_some b r s e = some_if b (nat_lt 0 r.width) (nat_lt 0 r.height) r s e

-- cells of a group's region are cells of the channel
within : (w a m x : ℕ) → a ≤ x → x < a + min m (w - a) → x < w
within w a m x h k = omega arith

module _ (dim : ℕ) (passes : List Pass) (l : ChannelList) where
  pub own_piece_in : (kind : Kind) (part : SectionPart) (n : ℕ) (c : Channel) (r : Region) → piece_in dim kind part n c ≡ Some r → r.buffer ≡ n
  own_piece_in kinds.Global parts.Global n c r e = ap (λ s. s.buffer) (sym (same_some e))
  own_piece_in kinds.Lf (parts.Lf k) n c r e = ap (λ s. s.buffer) (sym (own_some (nat_lt k (columns dim c * rows dim c)) (piece_of_group dim k n c) r e))
  own_piece_in (kinds.Pass q) (parts.Pass p k) n c r e = ap (λ s. s.buffer) (sym (own_some ((p == q) && nat_lt k (columns dim c * rows dim c)) (piece_of_group dim k n c) r e))
  own_piece_in kinds.Global (parts.Lf k) n c r e = absurd (none_some e)
  own_piece_in kinds.Global (parts.Pass p k) n c r e = absurd (none_some e)
  own_piece_in kinds.Lf parts.Global n c r e = absurd (none_some e)
  own_piece_in kinds.Lf (parts.Pass p k) n c r e = absurd (none_some e)
  own_piece_in (kinds.Pass q) parts.Global n c r e = absurd (none_some e)
  own_piece_in (kinds.Pass q) (parts.Lf k) n c r e = absurd (none_some e)

  in_channel : (k n x y : ℕ) (c : Channel) → HasCell (piece_of_group dim k n c) n x y → (x < c.width) × (y < c.height)
  in_channel k n x y c h = (
    within c.width ((k % columns dim c) * cell_width dim c) (cell_width dim c) x h.left h.right,
    within c.height ((k / columns dim c) * cell_height dim c) (cell_height dim c) y h.top h.bottom,
  )

  inside_piece : (kind : Kind) (part : SectionPart) (n x y : ℕ) (c : Channel) → HasIn (piece_in dim kind part n c) n x y → (x < c.width) × (y < c.height)
  inside_piece kinds.Global parts.Global n x y c h = let right = h.right in let bottom = h.bottom in (omega (arith, right), omega (arith, bottom))
  inside_piece kinds.Lf (parts.Lf k) n x y c h = in_channel k n x y c (some_in (nat_lt k (columns dim c * rows dim c)) (piece_of_group dim k n c) n x y h).1
  inside_piece (kinds.Pass q) (parts.Pass p k) n x y c h = in_channel k n x y c (some_in ((p == q) && nat_lt k (columns dim c * rows dim c)) (piece_of_group dim k n c) n x y h).1
  inside_piece kinds.Global (parts.Lf k) n x y c h = absurd h
  inside_piece kinds.Global (parts.Pass p k) n x y c h = absurd h
  inside_piece kinds.Lf parts.Global n x y c h = absurd h
  inside_piece kinds.Lf (parts.Pass p k) n x y c h = absurd h
  inside_piece (kinds.Pass q) parts.Global n x y c h = absurd h
  inside_piece (kinds.Pass q) (parts.Lf k) n x y c h = absurd h

  pub own_piece : (part : SectionPart) (p : ℕ × Channel) (r : Region) → piece dim passes (global_count dim l) part p ≡ Some r → r.buffer ≡ p.0
  own_piece part p r e = own_piece_in (kind_of passes (global_count dim l) p.0 p.1) part p.0 p.1 r e

  not_front : (n : ℕ) (c : Channel) → (kind_of passes (global_count dim l) n c ≡ kinds.Global → ⊥) → global_count dim l ≤ n
  not_front n c h = elim (cases_lt n (global_count dim l)) [
    | inl lt ↦ absurd (h (rw (lt-ltb n (global_count dim l) lt) refl))
    | inr ge ↦ ge
  ]

  -- no two regions of a part are of one channel
  pub unlike_buffers : (part : SectionPart) → AllPairs (λ a b. a.buffer ≢ b.buffer) (pieces dim passes l part)
  unlike_buffers part = apart (piece dim passes (global_count dim l) part) (own_piece part) 0 l.channels

  -- a cell that a part holds is a cell of a coded channel, and belongs to that part
  pub cell_of : (part : SectionPart) (n x y : ℕ) → HaveCell (pieces dim passes l part) n x y → (c : Channel) × IsCell l n x y c
  cell_of part n x y h =
      let f : ℕ × Channel → Option Region = piece dim passes (global_count dim l) part in
      let r = into f (own_piece part) 0 l.channels n x y h in
      let p = r.place in
      let same : r.i ≡ n = omega (arith, p) in
      let sides = inside_piece (kind_of passes (global_count dim l) n r.c) part n x y r.c r.has in
      (r.c, record { channel = subst (λ k. slice_get l.channels k ≡ Some r.c) same r.channel; column = sides.0; row = sides.1 })

  pub own_cell : (part : SectionPart) (n x y : ℕ) (c : Channel) → IsCell l n x y c → HaveCell (pieces dim passes l part) n x y → part ≡ part_of dim passes l n c x y
  own_cell part n x y c is h =
      let f : ℕ × Channel → Option Region = piece dim passes (global_count dim l) part in
      let r = into f (own_piece part) 0 l.channels n x y h in
      let p = r.place in
      let same : r.i ≡ n = omega (arith, p) in
      let e : slice_get l.channels n ≡ Some r.c = subst (λ k. slice_get l.channels k ≡ Some r.c) same r.channel in
      own_part dim n c x y (kind_of passes (global_count dim l) n c) part (subst (λ d. HasIn (f (n, d)) n x y) (same_some (sym e ∙ is.channel)) r.has)

  -- no cell is in regions of two parts
  pub no_common : (one other : SectionPart) → one ≢ other → (n x y : ℕ) → HaveCell (pieces dim passes l one) n x y → HaveCell (pieces dim passes l other) n x y → ⊥
  no_common one other unlike n x y a b = let (c, is) = cell_of one n x y a in unlike (own_cell one n x y c is a ∙ sym (own_cell other n x y c is b))

  module _ (cut : (n : ℕ) (c : Channel) → slice_get l.channels n ≡ Some c → global_count dim l ≤ n → IsCut dim c) where
    pub once_each : (part : SectionPart) (n x y : ℕ) (c : Channel) → IsCell l n x y c → HaveCell (pieces dim passes l part) n x y ↔ (part ≡ part_of dim passes l n c x y)
    once_each part n x y c is = (
      own_cell part n x y c is,
      λ e. out (piece dim passes (global_count dim l) part) (own_piece part) 0 l.channels n c n x y is.channel (omega arith)
          (held dim n c x y is.column is.row (kind_of passes (global_count dim l) n c) part (λ h. cut n c is.channel (not_front n c h)) e),
    )

    pub hold_each : HoldEachCellOnce dim passes l
    hold_each = record { once = once_each; inside = cell_of; apart = unlike_buffers }
