-- Regions with cells, one channel after another.
use Rattle.std.proofs.Common.{◌≡◌, ◌↔◌, ℕ, ◌+◌, ◌<◌, ◌≤◌, ◌⊎◌, inl, inr, List, [], ◌∷◌, length, get_or, Option, refl, sym, ap, ◌∙◌, subst, arith}
use Rattle.std.specs.List.{cons_option}
use Rattle.std.proofs.lemmas.List.{at_drop_all}
use Rattle.std.specs.List.{enumerate_from, filter_map}
use Rattle.jxlm_base.specs.declared.subgrid.Region.{Region}
use Rattle.jxlm_transform.specs.Channels.{Channel}
use Rattle.jxlm_groups.specs.Passes.{Pass}
use Rattle.jxlm_groups.specs.Cutting.{Kind, kind_of}
use Rattle.jxlm_groups.specs.Parts.{HasSome}
use Rattle.jxlm_groups.specs.Pieces.{SectionPart, piece, piece_in}
use Rattle.jxlm_groups.specs.Inner.Fitting.{pieces_from}
use Rattle.jxlm_groups.proofs.Fitting.{pieces_turn}
use Rattle.jxlm_groups.proofs.HeldCells.{have_first, have_rest, have_split}

-- a region has cells where it has both sides
pub cells_of_sides : (r : Region) (rs : List Region) → 0 < r.width → 0 < r.height → HasSome (r ∷ rs)
cells_of_sides r rs wide high = record {
  n = r.buffer;
  x = r.x;
  y = r.y;
  has = inl (record { buffer = refl; left = omega arith; right = omega (arith, wide); top = omega arith; bottom = omega (arith, high) });
}

pub sides_of_cells : (r : Region) → HasSome (r ∷ []) → (0 < r.width) × (0 < r.height)
sides_of_cells r h = elim h.has [
  | inl a ↦
      let left = a.left in
      let right = a.right in
      let top = a.top in
      let bottom = a.bottom in
      (omega (arith, left, right), omega (arith, top, bottom))
  | inr k ↦ absurd k
]

-- ---- of one region or none, and of others

some_first : (o : Option Region) (rs : List Region) → HasSome (cons_option o []) → HasSome (cons_option o rs)
some_first o rs h = elim (have_split o [] h.n h.x h.y h.has) [
  | inl a ↦ record { n = h.n; x = h.x; y = h.y; has = have_first o rs h.n h.x h.y a }
  | inr k ↦ absurd k
]

some_rest : (o : Option Region) (rs : List Region) → HasSome rs → HasSome (cons_option o rs)
some_rest o rs h = record { n = h.n; x = h.x; y = h.y; has = have_rest o rs h.n h.x h.y h.has }

some_split : (o : Option Region) (rs : List Region) → HasSome (cons_option o rs) → HasSome (cons_option o []) ⊎ HasSome rs
some_split o rs h = elim (have_split o rs h.n h.x h.y h.has) [
  | inl a ↦ inl (record { n = h.n; x = h.x; y = h.y; has = have_first o [] h.n h.x h.y a })
  | inr k ↦ inr (record { n = h.n; x = h.x; y = h.y; has = k })
]

-- ---- the pieces from channel n on, whose own is the first

module _ (dim : ℕ) (passes : List Pass) (count : ℕ) (name : SectionPart) (cs : List Channel) (n : ℕ) where
  -- after the last channel there are none
  pub none_after : length cs ≤ n → HasSome (pieces_from dim passes count name n cs) → ⊥
  none_after le h =
      let none : pieces_from dim passes count name n cs ≡ [] = at_drop_all (λ xs. filter_map (piece dim passes count name) (enumerate_from n xs)) cs n le in
      let k = subst HasSome none h in
      absurd k.has

  module _ (d : Channel) (kind : Kind) (o : Option Region) (lt : n < length cs) (kind_is : kind ≡ kind_of passes count n (get_or cs n d)) (is : o ≡ piece_in dim kind name n (get_or cs n d)) where
    turn : pieces_from dim passes count name n cs ≡ cons_option o (pieces_from dim passes count name (n + 1) cs)
    turn =
        pieces_turn dim passes count name n cs d lt
        ∙ ap (λ k. cons_option (piece_in dim k name n (get_or cs n d)) (pieces_from dim passes count name (n + 1) cs)) (sym kind_is)
        ∙ ap (λ p. cons_option p (pieces_from dim passes count name (n + 1) cs)) (sym is)

    pub some_here : HasSome (cons_option o []) → HasSome (pieces_from dim passes count name n cs)
    some_here h = subst HasSome (sym turn) (some_first o (pieces_from dim passes count name (n + 1) cs) h)

    pub some_later : (HasSome (cons_option o []) → ⊥) → HasSome (pieces_from dim passes count name n cs) ↔ HasSome (pieces_from dim passes count name (n + 1) cs)
    some_later none = (
      λ h. elim (some_split o (pieces_from dim passes count name (n + 1) cs) (subst HasSome turn h)) [
        | inl a ↦ absurd (none a)
        | inr k ↦ k
      ],
      λ h. subst HasSome (sym turn) (some_rest o (pieces_from dim passes count name (n + 1) cs) h),
    )
