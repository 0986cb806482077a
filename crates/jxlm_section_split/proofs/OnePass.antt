-- The parts of an image by the one pass: which have cells, and that each of them is in order.
use Rattle.std.proofs.Common.{◌≡◌, ◌≢◌, ℕ, zero, suc, ◌+◌, ◌*◌, ◌<◌, ◌≤◌, ◌⊎◌, inl, inr, ◌==◌, ◌&&◌, Bool, true, false, nat_lt, if◌then◌else◌, ℤ, pos, List, [], ◌∷◌, map, Option, Some, None, refl, sym, ap, ◌∙◌, subst, arith, eqb-true}
use Rattle.std.specs.Prelude.{find, int_le, slice_get}
use Rattle.std.specs.List.{All, AllPairs, enumerate_from}
use Rattle.std.specs.Option.{option_map_or}
use Rattle.std.proofs.lemmas.Bool.{cases_lt, le-leb, lt-ltb, ltb-true}
use Rattle.std.proofs.lemmas.List.Elements.{All-append, All-filter}
use Rattle.jxlm_transform.proofs.StepFacts.{both_of}
use Rattle.jxlm_transform.specs.Channels.{Channel, ChannelList}
use Rattle.jxlm_groups.proofs.Cover.{HasIn, some_in}
use Rattle.jxlm_groups.proofs.HeldCells.{into, own_piece}
use Rattle.jxlm_groups.proofs.PartChannels.{counts_cells}
use Rattle.jxlm_groups.proofs.PieceFacts.{lf_exists, pass_exists}
use Rattle.jxlm_groups.proofs.Parts.{get_of}
use Rattle.jxlm_groups.proofs.Pictured.{IsOfPicture}
use Rattle.jxlm_groups.proofs.Steps.{IsPictured}
use Rattle.jxlm_groups.specs.Counts.{group_count, groups_of, maximum}
use Rattle.jxlm_groups.specs.Cutting.{columns, global_count, is_low_frequency, kind_of, pass_of, rows}
use Rattle.jxlm_groups.specs.Parts.{HaveCell}
use Rattle.jxlm_groups.specs.Passes.{holds}
use Rattle.jxlm_groups.specs.Pieces.{piece, piece_in, piece_of_group, pieces}
use Rattle.jxlm_groups.specs.declared.part.Kind.TheVariants as kinds
use Rattle.jxlm_groups.specs.declared.part.SectionPart.TheVariants as parts
use Rattle.jxlm_samples.specs.Part.{cell_count}
use Rattle.jxl_modular.specs.Groups.{Exists, channels_in}
use Rattle.jxl_modular.specs.Image.{Image, coded_list}
use Rattle.jxl_modular.specs.Sections.{IsComplete}
use Rattle.jxl_modular.specs.declared.sections.Section.{Section}
use Rattle.jxlm_groups.specs.declared.part.Kind.{Kind}
use Rattle.jxlm_groups.specs.declared.part.SectionPart.{SectionPart}
use Rattle.jxlm_section_split.specs.CutPicture.{groups_in_order, lf_groups, one_pass, pass_groups, with_samples}
use Rattle.jxlm_section_split.proofs.PartLists.{AllDiffer, Differ, IsAmong, among_filter, among_left, among_range, among_right, any_section, differ_append, differ_filter, differ_range, each_of_range, each_section, sections_unlike}

-- ---- a channel of a picture is whole, of the LF groups, or of the groups of the pass

in_pass : (m : ℕ) → int_le (pos 3) (pos m) ≡ false → option_map_or (λ p. p.number) (find (holds (pos m)) one_pass) 256 ≡ 0
in_pass zero e = refl
in_pass (suc zero) e = refl
in_pass (suc (suc zero)) e = refl
in_pass (suc (suc (suc m))) e = absurd (different (sym (le-leb 3 (suc (suc (suc m))) (omega arith)) ∙ e)) where
  different : ◌≡◌ {A = Bool} true false → ⊥
  different e = cc

least_of : (b : Bool) (h v : ℤ) (m n : ℕ) → h ≡ pos m → v ≡ pos n → (k : ℕ) × ((if b then h else v) ≡ pos k)
least_of true h v m n p q = (m, p)
least_of false h v m n p q = (n, q)

pass_is : (w h : ℕ) (c : Channel) → IsOfPicture w h c → is_low_frequency c ≡ false → pass_of one_pass c ≡ 0
pass_is w h c is high =
    let (m, least) = least_of (int_le c.hshift c.vshift) c.hshift c.vshift is.across.shift is.down.shift is.across.is is.down.is in
    ap (λ s. option_map_or (λ p. p.number) (find (holds s) one_pass) 256) least ∙ in_pass m (sym (ap (λ s. int_le (pos 3) s) least) ∙ high)

data IsKnown (kind : Kind) : Type 0 where
  OfGlobal : kind ≡ kinds.Global → IsKnown kind
  OfLf : kind ≡ kinds.Lf → IsKnown kind
  OfPass : kind ≡ kinds.Pass 0 → IsKnown kind

known_of : (c : Channel) (front low : Bool) → (front ≡ false → low ≡ false → pass_of one_pass c ≡ 0) →
    IsKnown (if front then kinds.Global else if low then kinds.Lf else kinds.Pass (pass_of one_pass c))
known_of c true low h = OfGlobal refl
known_of c false true h = OfLf refl
known_of c false false h = OfPass (ap (λ n. kinds.Pass n) (h refl refl))

module _ (dim w h : ℕ) (l : ChannelList) (pictured : IsPictured w h l) where
  abbrev count : ℕ
  count = global_count dim l

  known : (n : ℕ) (c : Channel) → slice_get l.channels n ≡ Some c → IsKnown (kind_of one_pass count n c)
  known n c e =
      let (lt, is) = get_of l.channels n c c e in
      known_of c (nat_lt n count) (is_low_frequency c) (λ front low.
      let le = not_front n count front in
      pass_is w h c (subst (IsOfPicture w h) is (pictured n c (omega (arith, le)) lt)) low) where
        not_front : (n m : ℕ) → nat_lt n m ≡ false → m ≤ n
        not_front n m e = elim (cases_lt n m) [
          | inl lt ↦ absurd (different (sym (lt-ltb n m lt) ∙ e))
          | inr ge ↦ ge
        ] where
          different : ◌≡◌ {A = Bool} true false → ⊥
          different e = cc

  -- ---- groups are counted

  max_at : (f : ℕ × Channel → ℕ) (m : ℕ) (cs : List Channel) (i n : ℕ) (c : Channel) → slice_get cs i ≡ Some c → n ≡ m + i → f (n, c) ≤ maximum (map f (enumerate_from m cs))
  max_at f m [] i n c e p = absurd (none_some e) where
    none_some : {X : Type 0} {a : X} → ◌≡◌ {A = Option X} None (Some a) → ⊥
    none_some e = cc
  max_at f m (d ∷ cs) zero n c e p =
      let same : f (n, c) ≡ f (m, d) = ap f (pair n m c d (p ∙ omega arith) (same_some (sym e))) in
      omega (arith, same) where
        same_some : {X : Type 0} {a b : X} → ◌≡◌ {A = Option X} (Some a) (Some b) → a ≡ b
        same_some e = cc

        pair : (n m : ℕ) (c d : Channel) → n ≡ m → c ≡ d → ◌≡◌ {A = ℕ × Channel} (n, c) (m, d)
        pair n m c d p q = cc
  max_at f m (d ∷ cs) (suc i) n c e p =
      let later = max_at f (m + 1) cs i n c e (omega (arith, p)) in
      omega (arith, later)

  counted : (kind : Kind) (n : ℕ) (c : Channel) (k : ℕ) → slice_get l.channels n ≡ Some c → groups_of dim one_pass count kind (n, c) ≡ columns dim c * rows dim c → k < columns dim c * rows dim c →
      k < group_count dim one_pass l kind
  counted kind n c k e all lt =
      let most = max_at (groups_of dim one_pass count kind) 0 l.channels n n c e (omega arith) in
      omega (arith, most, all, lt)

  -- ---- a part with a cell

  pub data IsListed (part : SectionPart) : Type 0 where
    IsGlobal : part ≡ parts.Global → IsListed part
    IsLf : (k : ℕ) → k < group_count dim one_pass l kinds.Lf → part ≡ parts.Lf k → IsListed part
    IsPass : (k : ℕ) → k < group_count dim one_pass l (kinds.Pass 0) → part ≡ parts.Pass 0 k → IsListed part

  listed_by : (n x y : ℕ) (c : Channel) (part : SectionPart) → slice_get l.channels n ≡ Some c → (kind : Kind) → kind_of one_pass count n c ≡ kind → IsKnown kind → HasIn (piece_in dim kind part n c) n x y → IsListed part
  listed_by n x y c parts.Global e kind is known h = IsGlobal refl
  listed_by n x y c (parts.Lf k) e kinds.Global is known h = absurd h
  listed_by n x y c (parts.Lf k) e (kinds.Pass q) is known h = absurd h
  listed_by n x y c (parts.Lf k) e kinds.Lf is known h =
      let here = (some_in (nat_lt k (columns dim c * rows dim c)) (piece_of_group dim k n c) n x y h).0 in
      IsLf k (counted kinds.Lf n c k e (rw is refl) (ltb-true k (columns dim c * rows dim c) here)) refl
  listed_by n x y c (parts.Pass p k) e kinds.Global is known h = absurd h
  listed_by n x y c (parts.Pass p k) e kinds.Lf is known h = absurd h
  listed_by n x y c (parts.Pass p k) e (kinds.Pass q) is known h =
      let here = both_of (p == q) (nat_lt k (columns dim c * rows dim c)) (some_in ((p == q) && nat_lt k (columns dim c * rows dim c)) (piece_of_group dim k n c) n x y h).0 in
      let zero_q : q ≡ 0 = pass_zero q known in
      let zero_p : p ≡ 0 = eqb-true p q here.0 ∙ zero_q in
      let kind_is : kind_of one_pass count n c ≡ kinds.Pass 0 = is ∙ ap (λ n. kinds.Pass n) zero_q in
      IsPass k (counted (kinds.Pass 0) n c k e (rw kind_is refl) (ltb-true k (columns dim c * rows dim c) here.1)) (ap (λ n. parts.Pass n k) zero_p) where
        pass_zero : (q : ℕ) → IsKnown (kinds.Pass q) → q ≡ 0
        pass_zero q (OfGlobal e) = cc
        pass_zero q (OfLf e) = cc
        pass_zero q (OfPass e) = cc

  pub listed : (part : SectionPart) (n x y : ℕ) → HaveCell (pieces dim one_pass l part) n x y → IsListed part
  listed part n x y h =
      let r = into (piece dim one_pass count part) (own_piece dim one_pass l part) 0 l.channels n x y h in
      let p = r.place in
      let same : r.i ≡ n = omega (arith, p) in
      let e : slice_get l.channels n ≡ Some r.c = subst (λ k. slice_get l.channels k ≡ Some r.c) same r.channel in
      listed_by n x y r.c part e (kind_of one_pass count n r.c) refl (known n r.c e) r.has

-- ---- the parts of the groups in order

module _ {S D : Type 0} (x : Image S D) where
  abbrev lf_count : ℕ
  lf_count = group_count x.group_dim one_pass (coded_list x) kinds.Lf

  abbrev pass_count : ℕ
  pass_count = group_count x.group_dim one_pass (coded_list x) (kinds.Pass 0)

  abbrev has_samples : SectionPart → Bool
  has_samples part = nat_lt 0 (cell_count (channels_in x one_pass part))

  -- each part with cells is the global one or among them
  among_groups : (part : SectionPart) → 0 < cell_count (channels_in x one_pass part) → (w h : ℕ) (pictured : IsPictured w h (coded_list x)) → IsListed x.group_dim w h (coded_list x) pictured part →
      (part ≡ parts.Global) ⊎ IsAmong part (groups_in_order x)
  among_groups part cells w h pictured (IsGlobal is) = inl is
  among_groups part cells w h pictured (IsLf k lt is) =
      let some : has_samples part ≡ true = lt-ltb 0 (cell_count (channels_in x one_pass part)) cells in
      let there : IsAmong part (lf_groups lf_count) = subst (λ q. IsAmong q (lf_groups lf_count)) (sym is) (among_range (λ k. parts.Lf k) lf_count k lt) in
      inr (among_left part (with_samples x (lf_groups lf_count)) (with_samples x (pass_groups pass_count)) (among_filter has_samples part (lf_groups lf_count) some there))
  among_groups part cells w h pictured (IsPass k lt is) =
      let some : has_samples part ≡ true = lt-ltb 0 (cell_count (channels_in x one_pass part)) cells in
      let there : IsAmong part (pass_groups pass_count) = subst (λ q. IsAmong q (pass_groups pass_count)) (sym is) (among_range (λ k. parts.Pass 0 k) pass_count k lt) in
      inr (among_right part (with_samples x (lf_groups lf_count)) (with_samples x (pass_groups pass_count)) (among_filter has_samples part (pass_groups pass_count) some there))

  module _ (first : Section) (groups : List Section) (global : first.part ≡ parts.Global) (in_order : map (λ s. s.part) groups ≡ groups_in_order x) where
    all_parts : map (λ (s : Section). s.part) (first ∷ groups) ≡ parts.Global ∷ groups_in_order x
    all_parts = ap (λ p. p ∷ map (λ (s : Section). s.part) groups) global ∙ ap (λ ps. parts.Global ∷ ps) in_order

    -- so sections of these parts are complete
    pub complete : (w h : ℕ) → IsPictured w h (coded_list x) → IsComplete x one_pass (first ∷ groups)
    complete w h pictured part cells =
        let r = (counts_cells x.group_dim one_pass (coded_list x) part).0 cells in
        let here : IsAmong part (parts.Global ∷ groups_in_order x) = elim (among_groups part cells w h pictured (listed x.group_dim w h (coded_list x) pictured part r.n r.x r.y r.has)) [
          | inl is ↦ inl (sym is)
          | inr among ↦ inr among
        ] in
        any_section part (first ∷ groups) (subst (IsAmong part) (sym all_parts) here)

    groups_exist : All (Exists x one_pass) (groups_in_order x)
    groups_exist =
        All-append (Exists x one_pass) (with_samples x (lf_groups lf_count)) (with_samples x (pass_groups pass_count))
        (All-filter has_samples (Exists x one_pass) (lf_groups lf_count) (each_of_range (λ k. parts.Lf k) (Exists x one_pass) 0 lf_count (λ k low lt. lf_exists x.group_dim one_pass (coded_list x) k ∙ lt-ltb k lf_count (omega (arith, lt)))))
        (All-filter has_samples (Exists x one_pass) (pass_groups pass_count) (each_of_range (λ k. parts.Pass 0 k) (Exists x one_pass) 0 pass_count (λ k low lt. pass_exists x.group_dim one_pass (coded_list x) 0 k ∙ lt-ltb k pass_count (omega (arith, lt)))))

    -- each part is there
    pub exist : All (λ s. Exists x one_pass s.part) (first ∷ groups)
    exist = each_section (Exists x one_pass) (first ∷ groups) (subst (All (Exists x one_pass)) (sym all_parts) (All-cons' refl groups_exist)) where
      All-cons' : Exists x one_pass parts.Global → All (Exists x one_pass) (groups_in_order x) → All (Exists x one_pass) (parts.Global ∷ groups_in_order x)
      All-cons' p all = All-append (Exists x one_pass) (parts.Global ∷ []) (groups_in_order x) (one p) all where
        one : Exists x one_pass parts.Global → All (Exists x one_pass) (parts.Global ∷ [])
        one p zero d lt = p
        one p (suc k) d lt = absurd (omega (arith, lt))

    lf_not_pass : (j k : ℕ) → parts.Pass 0 k ≡ parts.Lf j → ⊥
    lf_not_pass j k e = cc

    lf_not_global : (k : ℕ) → parts.Lf k ≡ parts.Global → ⊥
    lf_not_global k e = cc

    pass_not_global : (k : ℕ) → parts.Pass 0 k ≡ parts.Global → ⊥
    pass_not_global k e = cc

    one_lf : (j k : ℕ) → parts.Lf j ≡ parts.Lf k → j ≡ k
    one_lf j k e = cc

    one_group : (j k : ℕ) → parts.Pass 0 j ≡ parts.Pass 0 k → j ≡ k
    one_group j k e = cc

    abbrev lf_there : List SectionPart
    lf_there = with_samples x (lf_groups lf_count)

    abbrev pass_there : List SectionPart
    pass_there = with_samples x (pass_groups pass_count)

    lf_passes : All (λ p. Differ p pass_there) lf_there
    lf_passes = All-filter has_samples (λ p. Differ p pass_there) (lf_groups lf_count) (each_of_range (λ k. parts.Lf k) (λ p. Differ p pass_there) 0 lf_count (λ j low lt.
        All-filter has_samples (λ q. q ≡ parts.Lf j → ⊥) (pass_groups pass_count) (each_of_range (λ k. parts.Pass 0 k) (λ q. q ≡ parts.Lf j → ⊥) 0 pass_count (λ k low lt. lf_not_pass j k))))

    groups_differ : AllDiffer (groups_in_order x)
    groups_differ = differ_append lf_there pass_there
        (differ_filter has_samples (lf_groups lf_count) (differ_range (λ k. parts.Lf k) one_lf 0 lf_count))
        (differ_filter has_samples (pass_groups pass_count) (differ_range (λ k. parts.Pass 0 k) one_group 0 pass_count)) lf_passes

    no_global : Differ parts.Global (groups_in_order x)
    no_global = All-append (λ q. q ≡ parts.Global → ⊥) lf_there pass_there
        (All-filter has_samples (λ q. q ≡ parts.Global → ⊥) (lf_groups lf_count) (each_of_range (λ k. parts.Lf k) (λ q. q ≡ parts.Global → ⊥) 0 lf_count (λ k low lt. lf_not_global k)))
        (All-filter has_samples (λ q. q ≡ parts.Global → ⊥) (pass_groups pass_count) (each_of_range (λ k. parts.Pass 0 k) (λ q. q ≡ parts.Global → ⊥) 0 pass_count (λ k low lt. pass_not_global k)))

    -- and no two sections are of one part
    pub unlike : AllPairs (λ s t. s.part ≢ t.part) (first ∷ groups)
    unlike = sections_unlike (first ∷ groups) (subst AllDiffer (sym all_parts) (no_global, groups_differ))
