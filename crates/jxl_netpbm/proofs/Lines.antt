-- The text of channels in decimal numbers, a row or a channel more.
use Rattle.std.proofs.Common.{◌≡◌, ℕ, zero, suc, ◌+◌, ◌-◌, ◌<◌, ◌≤◌, ℤ, List, [], ◌∷◌, ◌++◌, length, take, get_or, Option, refl, sym, ap, ◌∙◌, subst, append_assoc, append-nil, arith}
use Rattle.std.specs.List.{All, flat_map}
use Rattle.std.specs.Fmt.{signed_decimal}
use Rattle.std.specs.Io.KnownBytes.{Appends}
use Rattle.std.proofs.KnownBytes.{Appends-trans}
use Rattle.std.proofs.lemmas.List.{map-id, take_all}
use Rattle.std.proofs.lemmas.List.Elements.{All-more, All-weaker}
use Rattle.jxlm_base.specs.Grid.{Grid, grid, meanings}
use Rattle.jxl_text.specs.Printing.{row_text, channel_text, image_text}
use Rattle.jxl_text.proofs.TextLemmas.{row_text-cons, image_text-more}
use Rattle.jxl_netpbm.specs.Output.{AppendsLess}
use Rattle.jxl_netpbm.specs.Inner.Rows.{line_room}
use Rattle.jxl_netpbm.proofs.Numbers.{own_numbers}
use Rattle.jxl_netpbm.proofs.Writing.{less_first, less_second}

-- each sample but the first comes after a space
abbrev pub others_text : List ℤ → List ℕ
others_text rest = flat_map (λ v. 32 ∷ signed_decimal v) rest

-- a row whose first sample is written, then each other
pub row_written : (row : List ℤ) (x : ℤ) (rest : List ℤ) (i : ℕ) (before begun after : List ℕ) → row ≡ x ∷ rest → length rest ≤ i → begun ≡ before ++ signed_decimal x → after ≡ begun ++ others_text (take i rest) →
    after ≡ before ++ row_text row
row_written row x rest i before begun after cut all e f =
    let whole : take i rest ≡ rest = take_all i rest all in
    let same : row_text row ≡ signed_decimal x ++ others_text rest = ap row_text cut ∙ sym (ap row_text (map-id (x ∷ rest))) ∙ row_text-cons (λ (v : ℤ). v) x rest in
    f ∙ ap (λ (vs : List ℤ). begun ++ others_text vs) whole ∙ ap (λ (t : List ℕ). t ++ others_text rest) e ∙ append_assoc before (signed_decimal x) (others_text rest) ∙ ap (λ (t : List ℕ). before ++ t) (sym same)

own_number : (g : Grid ℤ) → meanings (λ (v : ℤ). v) g ≡ g
own_number g = ap (λ (cs : List ℤ). grid g.width g.height cs) (map-id g.cells)

-- one channel more
pub channels_more : (gs : List (Grid ℤ)) (i : ℕ) (d : Grid ℤ) → i < length gs → image_text (take (i + 1) gs) ≡ image_text (take i gs) ++ channel_text i (get_or gs i d)
channels_more gs i d within =
    sym (ap image_text (own_numbers (take (i + 1) gs))) ∙ image_text-more (λ (v : ℤ). v) gs i d within
    ∙ ap (λ (cs : List (Grid ℤ)). image_text cs ++ channel_text i (meanings (λ (v : ℤ). v) (get_or gs i d))) (own_numbers (take i gs))
    ∙ ap (λ (g : Grid ℤ). image_text (take i gs) ++ channel_text i g) (own_number (get_or gs i d))

-- channels that come later
channels_rest : (gs : List (Grid ℤ)) (n d m : ℕ) → n + d ≡ m → m ≤ length gs → (rest : List ℕ) × (image_text (take m gs) ≡ image_text (take n gs) ++ rest)
channels_rest gs n zero m e within =
    let same : m ≡ n = omega (arith, e) in
    ([], ap (λ (k : ℕ). image_text (take k gs)) same ∙ sym (append-nil (image_text (take n gs))))
channels_rest gs n (suc d) m e within =
    let (rest, is) = channels_rest gs n d (n + d) refl (omega (arith, e, within)) in
    let same : m ≡ n + d + 1 = omega (arith, e) in
    let less : n + d < length gs = omega (arith, e, within) in
    let none : Grid ℤ = grid 0 0 [] in
    let last : List ℕ = channel_text (n + d) (get_or gs (n + d) none) in
    (rest ++ last, ap (λ (k : ℕ). image_text (take k gs)) same ∙ channels_more gs (n + d) none less ∙ ap (λ (t : List ℕ). t ++ last) is ∙ append_assoc (image_text (take n gs)) rest last)

module _ (held before now : Option (List ℕ)) (gs : List (Grid ℤ)) (i : ℕ) (g : Grid ℤ) (less : i < length gs) (here : g ≡ get_or gs i g) (done : Appends held before (image_text (take i gs))) where
  next : image_text (take (i + 1) gs) ≡ image_text (take i gs) ++ channel_text i g
  next = channels_more gs i g less ∙ ap (λ (c : Grid ℤ). image_text (take i gs) ++ channel_text i c) (sym here)

  pub wrote_channel : Appends before now (channel_text i g) → Appends held now (image_text (take (i + 1) gs))
  wrote_channel p = subst (λ (t : List ℕ). Appends held now t) (sym next) (Appends-trans held before now (image_text (take i gs)) (channel_text i g) done p)

  pub less_channel : AppendsLess before now (channel_text i g) → AppendsLess held now (image_text gs)
  less_channel b =
      let (rest, is) = channels_rest gs (i + 1) (length gs - (i + 1)) (length gs) (omega (arith, less)) (omega arith) in
      let whole : image_text gs ≡ (image_text (take i gs) ++ channel_text i g) ++ rest = sym (ap image_text (take_all (length gs) gs (omega arith))) ∙ is ∙ ap (λ (t : List ℕ). t ++ rest) next in
      subst (λ (t : List ℕ). AppendsLess held now t) (sym whole)
      (less_first held now (image_text (take i gs) ++ channel_text i g) rest (less_second held before now (image_text (take i gs)) (channel_text i g) done b))

-- room for a line of each channel, and of one more
pub lines_more : (gs : List (Grid ℤ)) (i room now : ℕ) (g : Grid ℤ) → i < length gs → g ≡ get_or gs i g → room ≤ now → line_room g.width ≤ now → All (λ (c : Grid ℤ). line_room c.width ≤ room) (take i gs) →
    All (λ (c : Grid ℤ). line_room c.width ≤ now) (take (i + 1) gs)
lines_more gs i room now g less here le fits all =
    All-more (λ (c : Grid ℤ). line_room c.width ≤ now) gs i g less
    (All-weaker (λ (c : Grid ℤ). line_room c.width ≤ room) (λ (c : Grid ℤ). line_room c.width ≤ now) (λ (c : Grid ℤ) (h : line_room c.width ≤ room). omega (arith, h, le)) (take i gs) all)
    (subst (λ (c : Grid ℤ). line_room c.width ≤ now) here fits)
