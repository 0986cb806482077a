-- What lists of placed channels that are cut, or joined, are by the channels alone and by the regions alone.
use Rattle.std.proofs.Common.{◌≡◌, ◌∙◌, ℕ, ◌+◌, ◌-◌, ◌≤◌, List, [], ◌∷◌, ◌++◌, length, map, take, drop, Result, Ok, Err, IfOk, refl, sym, ap, subst, arith}
use Rattle.std.specs.Prelude.{get_or, if◌then◌else◌}
use Rattle.std.specs.List.{All}
use Rattle.std.specs.Result.{IfErr, is_ok}
use Rattle.std.proofs.lemmas.List.{take-map, drop-map, map-append, get_or-map, drop_more, length-map}
use Rattle.jxlm_base.specs.Regions.{region}
use Rattle.jxlm_base.specs.declared.subgrid.Region.{Region}
use Rattle.jxlm_transform.specs.ChannelSteps.{PaletteStep, range}
use Rattle.jxlm_transform.specs.Layout.{no_region}
use Rattle.jxlm_transform.specs.declared.transform.Palette.{Palette}
use Rattle.jxlm_transform.proofs.Ranges.{range_at, range_map}
use Rattle.jxlm_chain.specs.Undo.{Undo, UndoPalette, undo_of}
use Rattle.std.proofs.lemmas.List.Elements.{All-append, All-drop, All-take}
use Rattle.jxlm_transform.specs.Channels.{infos, regions}
use Rattle.jxlm_transform.specs.Ends.{HasEnds}
use Rattle.jxlm_transform.specs.declared.channels.PlacedChannel.{PlacedChannel}

-- the first ones have ends, where all have
pub first_end : (n : ℕ) (xs ys : List PlacedChannel) → ys ≡ take n xs → All HasEnds (regions xs) → All HasEnds (regions ys)
first_end n xs ys is ends = subst (All HasEnds) (sym (ap regions is ∙ sym (take-map (λ p. p.region) n xs))) (All-take HasEnds n (regions xs) ends)

-- and those of two lists, one of which is cut
pub joined_end : (n : ℕ) (xs ys zs : List PlacedChannel) → zs ≡ xs ++ drop n ys → All HasEnds (regions xs) → All HasEnds (regions ys) → All HasEnds (regions zs)
joined_end n xs ys zs is ends other =
    subst (All HasEnds) (sym (ap regions is ∙ map-append (λ p. p.region) xs (drop n ys) ∙ ap (λ rs. regions xs ++ rs) (sym (drop-map (λ p. p.region) n ys))))
    (All-append HasEnds (regions xs) (drop n (regions ys)) ends (All-drop HasEnds n (regions ys) other))

-- a part of each of two lists, the second of which is cut
pub joined : {Y : Type 0} (part : PlacedChannel → Y) (n : ℕ) (xs ys zs : List PlacedChannel) → zs ≡ xs ++ drop n ys → map part zs ≡ map part xs ++ drop n (map part ys)
joined part n xs ys zs is = ap (map part) is ∙ map-append part xs (drop n ys) ∙ ap (λ rs. map part xs ++ rs) (sym (drop-map part n ys))

-- the same of calls that cut a list, or join two, where that may fail
pub kept_end : {U E : Type 0} (n : ℕ) (xs ys : List PlacedChannel) (r : Result U E) → IfOk r (λ _. ys ≡ take n xs) → IfErr r (λ _. ys ≡ xs) → All HasEnds (regions xs) → All HasEnds (regions ys)
kept_end n xs ys (Ok u) is same ends = first_end n xs ys is ends
kept_end n xs ys (Err e) is same ends = subst (λ zs. All HasEnds (regions zs)) (sym same) ends

pub added_end : {U E : Type 0} (n : ℕ) (xs ys zs : List PlacedChannel) (r : Result U E) → zs ≡ (if is_ok r then xs ++ drop n ys else xs) → All HasEnds (regions xs) → All HasEnds (regions ys) → All HasEnds (regions zs)
added_end n xs ys zs (Ok u) is ends other = joined_end n xs ys zs is ends other
added_end n xs ys zs (Err e) is ends other = subst (λ us. All HasEnds (regions us)) (sym is) ends

-- three channels from one on
pub three_of : (b : ℕ) (xs : List PlacedChannel) (x y z : PlacedChannel) → b + 3 ≤ length xs → x ≡ get_or xs b x → y ≡ get_or xs (b + 1) y → z ≡ get_or xs (b + 2) z → range b 3 (regions xs) ≡ x.region ∷ y.region ∷ z.region ∷ []
three_of b xs x y z le first second third =
    let n : b + 3 - b ≡ 3 = omega arith in
    let next : b + 1 + 1 ≡ b + 2 = omega arith in
    let cut : drop b xs ≡ x ∷ y ∷ z ∷ drop (b + 2 + 1) xs =
    drop_more xs b x (omega (arith, le)) ∙ ap (λ u. u ∷ drop (b + 1) xs) (sym first) ∙ ap (λ us. x ∷ us) (drop_more xs (b + 1) y (omega (arith, le)) ∙ ap (λ u. u ∷ drop (b + 1 + 1) xs) (sym second)
    ∙ ap (λ us. y ∷ us) (ap (λ k. drop k xs) next ∙ drop_more xs (b + 2) z (omega (arith, le)) ∙ ap (λ u. u ∷ drop (b + 2 + 1) xs) (sym third))) in
    range_map (λ p. p.region) b 3 xs ∙ ap regions (ap (λ k. take k (drop b xs)) n ∙ ap (take 3) cut)

-- what undoes a palette, by the channels of its range
pub palette_undone : (t : Palette) (buffers : ℕ) (xs seen : List PlacedChannel) (d : PlacedChannel) (table leader : Region) (members : List Region) → 1 ≤ t.num_c → t.begin_c + t.num_c ≤ length xs → seen ≡ xs →
    table ≡ region buffers 0 0 t.nb_colours t.num_c → leader ≡ (get_or (range t.begin_c t.num_c seen) 0 d).region → members ≡ regions (range t.begin_c t.num_c seen) →
    ◌≡◌ {A = List Undo} (UndoPalette t table leader members ∷ []) (undo_of (PaletteStep t) (record { regions = regions xs; buffers = buffers }))
palette_undone t buffers xs seen d table leader members some le same table_is first each =
    let zeroth : t.begin_c + 0 ≡ t.begin_c = omega arith in
    let leads : leader ≡ get_or (regions xs) t.begin_c no_region =
    first ∙ ap (λ us. (get_or (range t.begin_c t.num_c us) 0 d).region) same ∙ ap (λ (p : PlacedChannel). p.region) (range_at t.begin_c t.num_c xs 0 d some ∙ ap (λ k. get_or xs k d) zeroth)
    ∙ sym (get_or-map (λ p. p.region) xs t.begin_c d no_region (omega (arith, some, le))) in
    let all : members ≡ range t.begin_c t.num_c (regions xs) = each ∙ ap (λ us. regions (range t.begin_c t.num_c us)) same ∙ sym (range_map (λ p. p.region) t.begin_c t.num_c xs) in
    rw (table_is, leads, all) refl

pub replaced_end : {U E : Type 0} (n : ℕ) (xs ys zs : List PlacedChannel) (r : Result U E) → IfOk r (λ _. zs ≡ xs ++ drop n ys) → IfErr r (λ _. zs ≡ ys) → All HasEnds (regions xs) → All HasEnds (regions ys) → All HasEnds (regions zs)
replaced_end n xs ys zs (Ok u) is same ends other = joined_end n xs ys zs is ends other
replaced_end n xs ys zs (Err e) is same ends other = subst (λ us. All HasEnds (regions us)) (sym same) other

pub err_then : {U E : Type 0} {P Q : Type 0} (r : Result U E) → (P → Q) → IfErr r (λ _. P) → IfErr r (λ _. Q)
err_then (Ok u) f h = tt
err_then (Err e) f h = f h

-- a list from which the last n were taken, and one to which they were added, by a part of each channel
module _ {Y : Type 0} (part : PlacedChannel → Y) (n k : ℕ) (xs : List PlacedChannel) (cut : k ≡ length xs - n) where
  counted : k ≡ length (infos xs) - n
  counted = cut ∙ ap (λ m. m - n) (sym (length-map xs (λ p. p.info)))

  pub without_last : (fs : List PlacedChannel) → fs ≡ take k xs → map part fs ≡ take (length (infos xs) - n) (map part xs)
  without_last fs is = ap (map part) is ∙ sym (take-map part k xs) ∙ ap (λ m. take m (map part xs)) counted

  pub with_last : (us vs : List PlacedChannel) → vs ≡ us ++ drop k xs → map part vs ≡ map part us ++ drop (length (infos xs) - n) (map part xs)
  with_last us vs is = joined part k us xs vs is ∙ ap (λ m. map part us ++ drop m (map part xs)) counted
