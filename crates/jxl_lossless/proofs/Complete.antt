-- The parts of an image by the passes of a frame: which have cells, and that each of them is in order.
use Rattle.std.proofs.Common.{◌≡◌, ◌≢◌, ◌↔◌, ℕ, zero, suc, ◌+◌, ◌<◌, ◌≤◌, ◌⊎◌, inl, inr, ◌&&◌, ◌||◌, Bool, true, false, cond, max, nat_lt, if◌then◌else◌, ℤ, pos, List, [], ◌∷◌, get_or, map, Some, refl, sym, ap, ◌∙◌, subst, arith, eqb-true}
use Rattle.std.specs.Prelude.{Any, find, int_le}
use Rattle.std.specs.List.{All, AllPairs, list_any, range_with_len}
use Rattle.std.specs.Option.{option_map_or}
use Rattle.std.proofs.lemmas.Bool.{cases_lt, le-leb, lt-ltb, ltb-true}
use Rattle.std.proofs.lemmas.List.Elements.{All-append, All-filter, filter_passes}
use Rattle.jxlm_transform.proofs.StepFacts.{both_of}
use Rattle.jxlm_transform.specs.Channels.{Channel, ChannelList}
use Rattle.jxlm_groups.proofs.PartChannels.{counts_cells}
use Rattle.jxlm_groups.proofs.PieceFacts.{counted_of, held_exists, lf_exists, pass_exists}
use Rattle.jxlm_groups.proofs.Parts.{get_of}
use Rattle.jxlm_groups.proofs.Pictured.{IsOfPicture}
use Rattle.jxlm_groups.proofs.Steps.{IsPictured}
use Rattle.jxlm_groups.specs.Counts.{group_count, is_kind}
use Rattle.jxlm_groups.specs.Cutting.{global_count, is_low_frequency, pass_of}
use Rattle.jxlm_groups.specs.Passes.{can_group, holds}
use Rattle.jxlm_groups.specs.declared.pass.Pass.{Pass}
use Rattle.jxlm_groups.specs.declared.part.Kind.TheVariants as kinds
use Rattle.jxlm_groups.specs.declared.part.SectionPart.{SectionPart}
use Rattle.jxlm_groups.specs.declared.part.SectionPart.TheVariants as parts
use Rattle.jxlm_samples.specs.Part.{cell_count}
use Rattle.jxl_modular.specs.GroupParts.{pass_count}
use Rattle.jxl_modular.specs.Groups.{Exists, channels_in}
use Rattle.jxl_modular.specs.Image.{Image, coded_list}
use Rattle.jxl_modular.specs.Sections.{IsComplete}
use Rattle.jxl_modular.specs.declared.sections.Section.{Section}
use Rattle.jxlm_section_split.specs.CutPicture.{lf_groups}
use Rattle.jxlm_section_split.proofs.PartLists.{IsAmong, among_filter, among_left, among_range, among_right, any_section, each_of_range, each_section}
use Rattle.jxl_lossless.proofs.Order.{Before, Ordered, before_unlike, ordered_append, ordered_filter, ordered_passes, ordered_range, sections_ordered}
use Rattle.jxl_lossless.proofs.Passes.{all_passes, among_one}
use Rattle.jxl_lossless.specs.Parts.{groups_in_order, low_parts, parts_of_pass, parts_of_passes, with_samples}

-- ---- each shift below 3 is held by a pass, whose number is counted

-- the number of the pass that holds a shift is below the count
held_below : (s : ℤ) (passes : List Pass) → list_any (holds s) passes ≡ true → option_map_or (λ p. p.number) (find (holds s) passes) 256 < pass_count passes
held_below s [] e = absurd (different e) where
  different : ◌≡◌ {A = Bool} false true → ⊥
  different e = cc
held_below s (p ∷ ps) e = by (holds s p) (held_below s ps) e where
  by : (b : Bool) → (list_any (holds s) ps ≡ true → option_map_or (λ p. p.number) (find (holds s) ps) 256 < pass_count ps) →
      (b || list_any (holds s) ps) ≡ true → option_map_or (λ p. p.number) (cond b (Some p) (find (holds s) ps)) 256 < max (p.number + 1) (pass_count ps)
  by true later e = omega arith
  by false later e = let below = later e in omega (arith, below)

-- what is asked of passes: each shift below 3 has one
each_held : (passes : List Pass) → can_group passes [] ≡ true → (m : ℕ) → m < 3 → list_any (holds (pos m)) passes ≡ true
each_held passes e m lt =
    let shifts = both_of _ (list_any (holds (pos 0)) passes && list_any (holds (pos 1)) passes && list_any (holds (pos 2)) passes) e in
    let third = both_of (list_any (holds (pos 0)) passes && list_any (holds (pos 1)) passes) (list_any (holds (pos 2)) passes) shifts.1 in
    let first = both_of (list_any (holds (pos 0)) passes) (list_any (holds (pos 1)) passes) third.0 in
    by m lt first.0 first.1 third.1 where
      by : (m : ℕ) → m < 3 → list_any (holds (pos 0)) passes ≡ true → list_any (holds (pos 1)) passes ≡ true → list_any (holds (pos 2)) passes ≡ true → list_any (holds (pos m)) passes ≡ true
      by zero lt a b c = a
      by (suc zero) lt a b c = b
      by (suc (suc zero)) lt a b c = c
      by (suc (suc (suc m))) lt a b c = absurd (omega (arith, lt))

least_of : (b : Bool) (h v : ℤ) (m n : ℕ) → h ≡ pos m → v ≡ pos n → (k : ℕ) × ((if b then h else v) ≡ pos k)
least_of true h v m n p q = (m, p)
least_of false h v m n p q = (n, q)

below_three : (m : ℕ) → int_le (pos 3) (pos m) ≡ false → m < 3
below_three m e = elim (cases_lt m 3) [
  | inl lt ↦ lt
  | inr ge ↦ absurd (different (sym (le-leb 3 m ge) ∙ e))
] where
  different : ◌≡◌ {A = Bool} true false → ⊥
  different e = cc

module _ (passes : List Pass) (can : can_group passes [] ≡ true) where
  -- the pass of a channel of a picture is counted
  pass_below : (w h : ℕ) (c : Channel) → IsOfPicture w h c → is_low_frequency c ≡ false → pass_of passes c < pass_count passes
  pass_below w h c is high =
      let (m, least) = least_of (int_le c.hshift c.vshift) c.hshift c.vshift is.across.shift is.down.shift is.across.is is.down.is in
      let small : int_le (pos 3) (pos m) ≡ false = sym (ap (λ s. int_le (pos 3) s) least) ∙ high in
      subst (λ s. option_map_or (λ p. p.number) (find (holds s) passes) 256 < pass_count passes) (sym least) (held_below (pos m) passes (each_held passes can m (below_three m small)))

  -- so a group of a pass is of one that is counted
  group_below : (dim w h : ℕ) (l : ChannelList) → IsPictured w h l → (p k : ℕ) → k < group_count dim passes l (kinds.Pass p) → p < pass_count passes
  group_below dim w h l pictured p k lt =
      let (n, c, e, kind, more) = counted_of dim passes l (kinds.Pass p) k lt in
      let (within, is) = get_of l.channels n c c e in
      by (nat_lt n (global_count dim l)) (is_low_frequency c) refl refl kind (λ ge. subst (IsOfPicture w h) is (pictured n c (omega (arith, ge)) within)) where
        by : {n : ℕ} {c : Channel} (front low : Bool) → nat_lt n (global_count dim l) ≡ front → is_low_frequency c ≡ low → is_kind (kinds.Pass p) (if front then kinds.Global else if low then kinds.Lf else kinds.Pass (pass_of passes c)) ≡ true →
            (global_count dim l ≤ n → IsOfPicture w h c) → p < pass_count passes
        by true low is_front is_low kind own = cc
        by false true is_front is_low kind own = cc
        by {n = n} {c = c} false false is_front is_low kind own =
            let same : p ≡ pass_of passes c = eqb-true p (pass_of passes c) kind in
            let below = pass_below w h c (own (not_front n (global_count dim l) is_front)) is_low in
            omega (arith, same, below) where
              not_front : (n m : ℕ) → nat_lt n m ≡ false → m ≤ n
              not_front n m e = elim (cases_lt n m) [
                | inl lt ↦ absurd (different (sym (lt-ltb n m lt) ∙ e))
                | inr ge ↦ ge
              ] where
                different : ◌≡◌ {A = Bool} true false → ⊥
                different e = cc

-- ---- the parts of the groups in order

module _ {S D : Type 0} (x : Image S D) (passes : List Pass) where
  abbrev has_samples : SectionPart → Bool
  has_samples part = nat_lt 0 (cell_count (channels_in x passes part))

  abbrev lf_count : ℕ
  lf_count = group_count x.group_dim passes (coded_list x) kinds.Lf

  abbrev count_of : ℕ → ℕ
  count_of p = group_count x.group_dim passes (coded_list x) (kinds.Pass p)

  abbrev low_there : List SectionPart
  low_there = low_parts x passes

  abbrev passes_there : List SectionPart
  passes_there = parts_of_passes x passes (pass_count passes)

  -- a part with cells is there
  counted_exists : (part : SectionPart) → 0 < cell_count (channels_in x passes part) → Exists x passes part
  counted_exists part cells =
      let r = (counts_cells x.group_dim passes (coded_list x) part).0 cells in
      held_exists x.group_dim passes (coded_list x) part r.n r.x r.y r.has

  -- each part with cells is the global one or among them
  among_groups : can_group passes [] ≡ true → (w h : ℕ) → IsPictured w h (coded_list x) → (part : SectionPart) → 0 < cell_count (channels_in x passes part) →
      (part ≡ parts.Global) ⊎ IsAmong part (groups_in_order x passes)
  among_groups can w h pictured parts.Global cells = inl refl
  among_groups can w h pictured (parts.Lf k) cells =
      let part = parts.Lf k in
      let some : has_samples part ≡ true = lt-ltb 0 (cell_count (channels_in x passes part)) cells in
      let lt : k < lf_count = ltb-true k lf_count (sym (lf_exists x.group_dim passes (coded_list x) k) ∙ counted_exists part cells) in
      inr (among_left part low_there passes_there (among_filter has_samples part (lf_groups lf_count) some (among_range (λ k. parts.Lf k) lf_count k lt)))
  among_groups can w h pictured (parts.Pass p k) cells =
      let part = parts.Pass p k in
      let some : has_samples part ≡ true = lt-ltb 0 (cell_count (channels_in x passes part)) cells in
      let lt : k < count_of p = ltb-true k (count_of p) (sym (pass_exists x.group_dim passes (coded_list x) p k) ∙ counted_exists part cells) in
      let here : IsAmong part (parts_of_pass x passes p) = among_filter has_samples part (map (λ k. parts.Pass p k) (range_with_len 0 (count_of p))) some (among_range (λ k. parts.Pass p k) (count_of p) k lt) in
      let below = group_below passes can x.group_dim w h (coded_list x) pictured p k lt in
      inr (among_right part low_there passes_there (among_one (parts_of_pass x passes) part (pass_count passes) p below here))

  -- what holds of each group holds of these parts
  each_part : (P : SectionPart → Type 0) → ((k : ℕ) → k < lf_count → P (parts.Lf k)) → ((p k : ℕ) → k < count_of p → P (parts.Pass p k)) → All P (groups_in_order x passes)
  each_part P low high =
      All-append P low_there passes_there
      (All-filter has_samples P (lf_groups lf_count) (each_of_range (λ k. parts.Lf k) P 0 lf_count (λ k from lt. low k (omega (arith, lt)))))
      (all_passes (parts_of_pass x passes) P 0 (pass_count passes) (λ p le. All-filter has_samples P (map (λ k. parts.Pass p k) (range_with_len 0 (count_of p)))
      (each_of_range (λ k. parts.Pass p k) P 0 (count_of p) (λ k from lt. high p k (omega (arith, lt))))))

  lf_not_global : (k : ℕ) → parts.Lf k ≡ parts.Global → ⊥
  lf_not_global k e = cc

  pass_not_global : (p k : ℕ) → parts.Pass p k ≡ parts.Global → ⊥
  pass_not_global p k e = cc

  have_samples : (ps : List SectionPart) → All (λ q. 0 < cell_count (channels_in x passes q)) (with_samples x passes ps)
  have_samples ps k d lt = ltb-true 0 (cell_count (channels_in x passes (get_or (with_samples x passes ps) k d))) (filter_passes has_samples ps k d lt)

  -- they are groups with samples
  abbrev IsOne : SectionPart → Type 0
  IsOne part = (part ≢ parts.Global) × (0 < cell_count (channels_in x passes part))

  pub all_ones : All IsOne (groups_in_order x passes)
  all_ones k d lt = (
    each_part (λ q. q ≢ parts.Global) (λ k lt. lf_not_global k) (λ p k lt. pass_not_global p k) k d lt,
    All-append (λ q. 0 < cell_count (channels_in x passes q)) low_there passes_there (have_samples (lf_groups lf_count))
        (all_passes (parts_of_pass x passes) (λ q. 0 < cell_count (channels_in x passes q)) 0 (pass_count passes) (λ p le. have_samples (map (λ k. parts.Pass p k) (range_with_len 0 (count_of p))))) k d lt,
  )

  -- each comes before the later ones
  passes_apart : (a b : ℕ) → a < b → All (λ q. All (Before q) (parts_of_pass x passes b)) (parts_of_pass x passes a)
  passes_apart a b lt =
      All-filter has_samples (λ q. All (Before q) (parts_of_pass x passes b)) (map (λ k. parts.Pass a k) (range_with_len 0 (count_of a))) (each_of_range (λ k. parts.Pass a k) (λ q. All (Before q) (parts_of_pass x passes b)) 0 (count_of a) (λ j low high.
      All-filter has_samples (Before (parts.Pass a j)) (map (λ k. parts.Pass b k) (range_with_len 0 (count_of b))) (each_of_range (λ k. parts.Pass b k) (Before (parts.Pass a j)) 0 (count_of b) (λ k from to. inl lt))))

  lf_passes : All (λ p. All (Before p) passes_there) low_there
  lf_passes = All-filter has_samples (λ p. All (Before p) passes_there) (lf_groups lf_count) (each_of_range (λ k. parts.Lf k) (λ p. All (Before p) passes_there) 0 lf_count (λ j low lt.
      all_passes (parts_of_pass x passes) (Before (parts.Lf j)) 0 (pass_count passes) (λ p le.
      All-filter has_samples (Before (parts.Lf j)) (map (λ k. parts.Pass p k) (range_with_len 0 (count_of p))) (each_of_range (λ k. parts.Pass p k) (Before (parts.Lf j)) 0 (count_of p) (λ k from to. tt)))))

  pub groups_ordered : Ordered Before (groups_in_order x passes)
  groups_ordered = ordered_append Before low_there passes_there
      (ordered_filter Before has_samples (lf_groups lf_count) (ordered_range Before (λ k. parts.Lf k) (λ j k lt. lt) 0 lf_count))
      (ordered_passes Before (parts_of_pass x passes) (λ p. ordered_filter Before has_samples (map (λ k. parts.Pass p k) (range_with_len 0 (count_of p))) (ordered_range Before (λ k. parts.Pass p k) (λ j k lt. inr (refl, lt)) 0 (count_of p))) passes_apart 0 (pass_count passes)) lf_passes

  -- sections of them are those of the groups with samples
  module _ (groups : List Section) (in_order : map (λ s. s.part) groups ≡ groups_in_order x passes) where
    -- each group with samples has one
    there : can_group passes [] ≡ true → (w h : ℕ) → IsPictured w h (coded_list x) → (part : SectionPart) → IsOne part → Any (λ s. s.part ≡ part) groups
    there can w h pictured part one = elim (among_groups can w h pictured part one.1) [
      | inl is ↦ absurd (one.0 is)
      | inr among ↦ any_section part groups (subst (IsAmong part) (sym in_order) among)
    ]

    -- and no other part
    is_one : (part : SectionPart) → Any (λ s. s.part ≡ part) groups → IsOne part
    is_one part (k, s, lt, at, is) =
        subst IsOne (ap (λ (s : Section). s.part) at ∙ is) (each_section IsOne groups (subst (All IsOne) (sym in_order) all_ones) k s lt)

    pub each_one : can_group passes [] ≡ true → (w h : ℕ) → IsPictured w h (coded_list x) → (part : SectionPart) → IsOne part ↔ Any (λ s. s.part ≡ part) groups
    each_one can w h pictured part = (there can w h pictured part, is_one part)

    pub sections_in_order : Ordered Before (map (λ s. s.part) groups)
    sections_in_order = subst (Ordered Before) (sym in_order) groups_ordered

  module _ (first : Section) (groups : List Section) (global : first.part ≡ parts.Global) (in_order : map (λ s. s.part) groups ≡ groups_in_order x passes) where
    all_parts : map (λ (s : Section). s.part) (first ∷ groups) ≡ parts.Global ∷ groups_in_order x passes
    all_parts = ap (λ p. p ∷ map (λ (s : Section). s.part) groups) global ∙ ap (λ ps. parts.Global ∷ ps) in_order

    -- so sections of these parts are complete
    pub complete : can_group passes [] ≡ true → (w h : ℕ) → IsPictured w h (coded_list x) → IsComplete x passes (first ∷ groups)
    complete can w h pictured part cells =
        let here : IsAmong part (parts.Global ∷ groups_in_order x passes) = elim (among_groups can w h pictured part cells) [
          | inl is ↦ inl (sym is)
          | inr among ↦ inr among
        ] in
        any_section part (first ∷ groups) (subst (IsAmong part) (sym all_parts) here)

    -- each part is there
    pub exist : All (λ s. Exists x passes s.part) (first ∷ groups)
    exist = each_section (Exists x passes) (first ∷ groups) (subst (All (Exists x passes)) (sym all_parts)
        (All-cons' refl (each_part (Exists x passes) (λ k lt. lf_exists x.group_dim passes (coded_list x) k ∙ lt-ltb k lf_count lt) (λ p k lt. pass_exists x.group_dim passes (coded_list x) p k ∙ lt-ltb k (count_of p) lt)))) where
          All-cons' : Exists x passes parts.Global → All (Exists x passes) (groups_in_order x passes) → All (Exists x passes) (parts.Global ∷ groups_in_order x passes)
          All-cons' p all = All-append (Exists x passes) (parts.Global ∷ []) (groups_in_order x passes) (one p) all where
            one : Exists x passes parts.Global → All (Exists x passes) (parts.Global ∷ [])
            one p zero d lt = p
            one p (suc k) d lt = absurd (omega (arith, lt))

    global_first : All (Before parts.Global) (groups_in_order x passes)
    global_first = each_part (Before parts.Global) (λ k lt. tt) (λ p k lt. tt)

    -- and no two sections are of one part
    pub unlike : AllPairs (λ s t. s.part ≢ t.part) (first ∷ groups)
    unlike i j d lt within =
        before_unlike (get_or (first ∷ groups) i d).part (get_or (first ∷ groups) j d).part
        (sections_ordered (first ∷ groups) (subst (Ordered Before) (sym all_parts) (global_first, groups_ordered)) i j d lt within)
