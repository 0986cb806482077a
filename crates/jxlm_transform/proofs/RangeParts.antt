-- What a step makes of a list: what holds of all elements of it.
use Rattle.std.proofs.Common.{◌≡◌, ℕ, ◌+◌, ◌-◌, ◌<◌, Bool, true, false, if◌then◌else◌, List, [], ◌∷◌, ◌++◌, map, take, drop, get_or, length, sym, ap}
use Rattle.std.specs.List.{All}
use Rattle.std.proofs.lemmas.List.{take_more}
use Rattle.std.proofs.lemmas.List.Elements.{All-take, All-drop, All-append, All-map, All-weaker}
use Rattle.jxlm_transform.specs.ChannelSteps.{range, with_range, with_halves}
use Rattle.jxlm_transform.specs.declared.transform.SqueezeParams.{SqueezeParams}

-- one element instead of a range is the range's first, where that is kept
pub with_first : {X : Type 0} (begin n : ℕ) (xs : List X) (d : X) → begin < length xs → with_range begin n (get_or xs begin d ∷ []) xs ≡ take (begin + 1) xs ++ drop (begin + n) xs
with_first begin n xs d lt = ap (λ ys. ys ++ drop (begin + n) xs) (sym (take_more xs begin d lt))

-- two lists, both between others, or the second of them at the end
abbrev pub placed : {X : Type 0} → Bool → List X → List X → List X → List X → List X
placed inside before_it fs gs after_it = if inside then before_it ++ (fs ++ gs) ++ after_it else before_it ++ fs ++ after_it ++ gs

module _ {X : Type 0} (P : X → Type 0) where
  all_placed : (inside : Bool) (before_it fs gs after_it : List X) → All P before_it → All P fs → All P gs → All P after_it → All P (placed inside before_it fs gs after_it)
  all_placed true before_it fs gs after_it a f g b = All-append P (before_it ++ (fs ++ gs)) after_it (All-append P before_it (fs ++ gs) a (All-append P fs gs f g)) b
  all_placed false before_it fs gs after_it a f g b = All-append P (before_it ++ fs ++ after_it) gs (All-append P (before_it ++ fs) after_it (All-append P before_it fs a f) b) g

  pub all_range : (begin n : ℕ) (xs : List X) → All P xs → All P (range begin n xs)
  all_range begin n xs all = All-take P (begin + n - begin) (drop begin xs) (All-drop P begin xs all)

  pub all_first : (begin n : ℕ) (xs : List X) → All P xs → All P (take (begin + 1) xs ++ drop (begin + n) xs)
  all_first begin n xs all = All-append P (take (begin + 1) xs) (drop (begin + n) xs) (All-take P (begin + 1) xs all) (All-drop P (begin + n) xs all)

  pub all_halves : (t : SqueezeParams) (f g : X → X) (xs : List X) → ((x : X) → P x → P (f x)) → ((x : X) → P x → P (g x)) → All P xs →
      All P (with_halves t (map f (range t.begin_c t.num_c xs)) (map g (range t.begin_c t.num_c xs)) xs)
  all_halves t f g xs pf pg all =
      let ys : List X = range t.begin_c t.num_c xs in
      let here : All P ys = all_range t.begin_c t.num_c xs all in
      all_placed t.in_place (take t.begin_c xs) (map f ys) (map g ys) (drop (t.begin_c + t.num_c) xs) (All-take P t.begin_c xs all) (All-map P f ys (All-weaker P (λ x. P (f x)) pf ys here))
      (All-map P g ys (All-weaker P (λ x. P (g x)) pg ys here)) (All-drop P (t.begin_c + t.num_c) xs all)
