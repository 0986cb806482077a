-- A set has each part with cells exactly where it has, of each channel, each part with cells of that channel.
use Rattle.std.proofs.Common.{◌≡◌, ◌↔◌, IsTrue, ℕ, zero, suc, ◌+◌, ◌*◌, ◌<◌, ◌≤◌, ◌==◌, ◌&&◌, inl, inr, Bool, true, false, nat_lt, List, [], ◌∷◌, length, get_or, Option, Some, None, refl, sym, ap, ◌∙◌, subst, arith, eqb-true}
use Rattle.std.specs.BTreeSet.{BTreeSet}
use Rattle.std.specs.List.{slice_get}
use Rattle.std.proofs.lemmas.Bool.{cases_lt, ltb-true}
use Rattle.jxlm_base.specs.declared.subgrid.Region.{Region}
use Rattle.jxlm_transform.proofs.StepFacts.{both_of}
use Rattle.jxlm_transform.specs.Channels.{Channel, ChannelList}
use Rattle.jxlm_groups.proofs.Cover.{HasIn}
use Rattle.jxlm_groups.proofs.HeldCells.{into, none_some, out, own_piece}
use Rattle.jxlm_groups.proofs.Parts.{get_of}
use Rattle.jxlm_groups.specs.Cutting.{Kind, columns, global_count, kind_of, rows}
use Rattle.jxlm_groups.specs.Passes.{Pass}
use Rattle.jxlm_groups.specs.Parts.{part_in}
use Rattle.jxlm_groups.specs.PartSets.{Holds, HoldsEach}
use Rattle.jxlm_groups.specs.Pieces.{SectionPart, piece, piece_in, piece_of_group, where_some}
use Rattle.jxlm_groups.specs.Inner.Holding.{HasCellsOf, HoldsEachOf, part_count}
use Rattle.jxlm_groups.specs.declared.part.Kind.TheVariants as kinds
use Rattle.jxlm_groups.specs.declared.part.SectionPart.TheVariants as parts

-- ---- one channel

here_if : (b : Bool) (r s : Region) → where_some b r ≡ Some s → b ≡ true
here_if true r s e = refl
here_if false r s e = absurd (none_some e)

-- a group of a kind, or the global part
record IsPartIn (count : ℕ) (kind : Kind) (part : SectionPart) : Type 0 where
  pub k : ℕ
  pub below : k < count
  pub is : part ≡ part_in kind k

module _ (dim n : ℕ) (c : Channel) where
  -- the parts that have cells of a channel are among those of its kind
  which_part : (kind : Kind) (part : SectionPart) (r : Region) → piece_in dim kind part n c ≡ Some r → IsPartIn (part_count dim kind c) kind part
  which_part kinds.Global parts.Global r e = record { k = 0; below = omega arith; is = refl }
  which_part kinds.Lf (parts.Lf k) r e =
      record { k = k; below = ltb-true k (columns dim c * rows dim c) (here_if (nat_lt k (columns dim c * rows dim c)) (piece_of_group dim k n c) r e); is = refl }
  which_part (kinds.Pass q) (parts.Pass p k) r e =
      let b = both_of (p == q) (nat_lt k (columns dim c * rows dim c)) (here_if ((p == q) && nat_lt k (columns dim c * rows dim c)) (piece_of_group dim k n c) r e) in
      record { k = k; below = ltb-true k (columns dim c * rows dim c) b.1; is = ap (λ m. parts.Pass m k) (eqb-true p q b.0) }
  which_part kinds.Global (parts.Lf k) r e = absurd (none_some e)
  which_part kinds.Global (parts.Pass p k) r e = absurd (none_some e)
  which_part kinds.Lf parts.Global r e = absurd (none_some e)
  which_part kinds.Lf (parts.Pass p k) r e = absurd (none_some e)
  which_part (kinds.Pass q) parts.Global r e = absurd (none_some e)
  which_part (kinds.Pass q) (parts.Lf k) r e = absurd (none_some e)

  -- each of the first parts of a kind, where it has cells of the channel, is in the set
  abbrev pub HoldsFirst : Kind → BTreeSet SectionPart → ℕ → Type 0
  HoldsFirst kind set k = (j : ℕ) → j < k → HasCellsOf dim kind n c (part_in kind j) → Holds set (part_in kind j)

  -- one part more
  pub holds_more : (kind : Kind) (set : BTreeSet SectionPart) (k : ℕ) → HoldsFirst kind set k → (HasCellsOf dim kind n c (part_in kind k) → Holds set (part_in kind k)) → HoldsFirst kind set (k + 1)
  holds_more kind set k holds one j lt = elim (cases_lt j k) [
    | inl lt' ↦ holds j lt'
    | inr ge ↦ let same : k ≡ j = omega (arith, lt, ge) in subst (λ i. HasCellsOf dim kind n c (part_in kind i) → Holds set (part_in kind i)) same one
  ]

  -- so all of them are
  pub holds_each_of : (kind : Kind) (set : BTreeSet SectionPart) (k : ℕ) → part_count dim kind c ≤ k → HoldsFirst kind set k → HoldsEachOf dim kind n c set
  holds_each_of kind set k le holds part has =
      let p = which_part kind part has.held has.is in
      let below = p.below in
      subst (Holds set) (sym p.is) (holds p.k (omega (arith, below, le)) (subst (HasCellsOf dim kind n c) p.is has))

-- ---- all channels

-- a region with a cell has both sides
cells_of : (dim : ℕ) (kind : Kind) (n x y : ℕ) (c : Channel) (part : SectionPart) (o : Option Region) → piece_in dim kind part n c ≡ o → HasIn o n x y → HasCellsOf dim kind n c part
cells_of dim kind n x y c part None e h = absurd h
cells_of dim kind n x y c part (Some r) e h =
    let left = h.left in
    let right = h.right in
    let top = h.top in
    let bottom = h.bottom in
    record { held = r; is = e; wide = omega (arith, left, right); high = omega (arith, top, bottom) }

-- the channel of a number
channel_at : (cs : List Channel) (n : ℕ) (d : Channel) → n < length cs → slice_get cs n ≡ Some (get_or cs n d)
channel_at [] n d lt = absurd (omega (arith, lt))
channel_at (c ∷ cs) zero d lt = refl
channel_at (c ∷ cs) (suc n) d lt = channel_at cs n d (omega (arith, lt))

module _ (dim : ℕ) (passes : List Pass) (l : ChannelList) (set : BTreeSet SectionPart) where
  -- of channel n
  abbrev HoldsOf : ℕ → Channel → Type 0
  HoldsOf n c = HoldsEachOf dim (kind_of passes (global_count dim l) n c) n c set

  from_channels : ((n : ℕ) (c : Channel) → slice_get l.channels n ≡ Some c → HoldsOf n c) → HoldsEach dim passes l set
  from_channels each part n x y h =
      let f : ℕ × Channel → Option Region = piece dim passes (global_count dim l) part in
      let r = into f (own_piece dim passes l part) 0 l.channels n x y h in
      let p = r.place in
      let same : r.i ≡ n = omega (arith, p) in
      each n r.c (subst (λ k. slice_get l.channels k ≡ Some r.c) same r.channel) part
      (cells_of dim (kind_of passes (global_count dim l) n r.c) n x y r.c part (f (n, r.c)) refl r.has)

  to_channel : HoldsEach dim passes l set → (n : ℕ) (c : Channel) → slice_get l.channels n ≡ Some c → HoldsOf n c
  to_channel holds n c e part has =
      let f : ℕ × Channel → Option Region = piece dim passes (global_count dim l) part in
      let r : Region = has.held in
      let wide = has.wide in
      let high = has.high in
      holds part n r.x r.y (out f (own_piece dim passes l part) 0 l.channels n c n r.x r.y e (omega arith)
      (subst (λ o. HasIn o n r.x r.y) (sym has.is) (record {
        buffer = own_piece dim passes l part (n, c) r has.is;
        left = omega arith;
        right = omega (arith, wide);
        top = omega arith;
        bottom = omega (arith, high);
      })))

  -- of each channel before channel n, where the global part has the first count
  abbrev pub HoldsBefore : ℕ → ℕ → Type 0
  HoldsBefore count n = (m : ℕ) (c : Channel) → m < n → slice_get l.channels m ≡ Some c → HoldsEachOf dim (kind_of passes count m c) m c set

  -- so of all of them
  pub after_all : (count n : ℕ) → count ≡ global_count dim l → length l.channels ≤ n → HoldsBefore count n → HoldsEach dim passes l set
  after_all count n is le held =
      from_channels (λ m c e.
      let lt = (get_of l.channels m c c e).0 in
      subst (λ k. HoldsEachOf dim (kind_of passes k m c) m c set) is (held m c (omega (arith, lt, le)) e))

  module _ (count n : ℕ) (d : Channel) (kind : Kind) (b : Bool) (is : kind ≡ kind_of passes count n (get_or l.channels n d)) (lt : n < length l.channels) (iff : IsTrue b ↔ HoldsEachOf dim kind n (get_or l.channels n d) set) where
    abbrev here : Channel
    here = get_or l.channels n d

    -- and of channel n
    pub one_more : b ≡ true → HoldsBefore count n → HoldsBefore count (n + 1)
    one_more e held m c l' at = elim (cases_lt m n) [
      | inl below ↦ held m c below at
      | inr ge ↦
          let same : n ≡ m = omega (arith, l', ge) in
          let channel : here ≡ c = ap (λ k. get_or l.channels k d) same ∙ (get_of l.channels m c d at).1 in
          let all : HoldsEachOf dim (kind_of passes count n here) n here set = subst (λ k. HoldsEachOf dim k n here set) is (iff.0 e) in
          subst (λ a. HoldsEachOf dim (kind_of passes count m a) m a set) channel (subst (λ k. HoldsEachOf dim (kind_of passes count k here) k here set) same all)
    ]

    -- but not of channel n
    pub one_missing : count ≡ global_count dim l → b ≡ false → HoldsEach dim passes l set → IsTrue false
    one_missing global e holds =
        let all : HoldsOf n here = to_channel holds n here (channel_at l.channels n d lt) in
        sym e ∙ iff.1 (subst (λ k. HoldsEachOf dim k n here set) (ap (λ k. kind_of passes k n here) (sym global) ∙ sym is) all)
