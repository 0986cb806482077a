-- Channels after the meta channels stay channels of one picture.
use Rattle.std.proofs.Common.{◌≡◌, ℕ, zero, suc, ◌+◌, ◌-◌, ◌<◌, ◌≤◌, Bool, true, false, not, ◌&&◌, ◌||◌, nat_lt, nat_le, if◌then◌else◌, List, [], ◌∷◌, ◌++◌, map, take, drop, length, get_or, Ok, inl, inr, refl, sym, subst, arith, leb-true}
use Rattle.std.specs.List.{All}
use Rattle.std.proofs.lemmas.Bool.{cases_lt, ltb-false}
use Rattle.std.proofs.lemmas.List.{get_or-take, get_or-drop, length-take, length-drop, length-append, length-map, get_or_append_left, get_or-append_right}
use Rattle.jxlm_bits.specs.ErrorKind.{BadRct, BadPalette, BadSqueeze}
use Rattle.jxlm_transform.specs.Channels.{Channel, ChannelList}
use Rattle.jxlm_transform.specs.ChannelSteps.{Step, RctStep, PaletteStep, SqueezeStep, average_channel, has_range, keeps_meta, list_after, list_after_all, one_size, range, residual_channel, table_of}
use Rattle.jxlm_transform.specs.declared.transform.Palette.{Palette}
use Rattle.jxlm_transform.specs.declared.transform.SqueezeParams.{SqueezeParams}
use Rattle.std.proofs.lemmas.List.Elements.{All-append, All-head, All-map, All-tail, All-weaker}
use Rattle.jxlm_transform.specs.Steps.{HasChannels}
use Rattle.jxlm_groups.proofs.Pictured.{IsOfPicture, average_halved, residual_halved}
use Rattle.jxlm_transform.proofs.StepFacts.{both_of, chosen, first_step, palette_applies, same_ok, squeeze_applies}

module _ {X : Type 0} (P : X → Type 0) where
  -- P holds of each element from place n on
  abbrev pub Beyond : ℕ → List X → Type 0
  Beyond n xs = (i : ℕ) (d : X) → n ≤ i → i < length xs → P (get_or xs i d)

  beyond_all : (n : ℕ) (xs : List X) → All P xs → Beyond n xs
  beyond_all n xs all = λ i d le lt. all i d lt

  beyond_none : (n : ℕ) (xs : List X) → length xs ≤ n → Beyond n xs
  beyond_none n xs long = λ i d le lt. absurd (omega (arith, le, lt, long))

  beyond_more : (m n : ℕ) (xs : List X) → m ≤ n → Beyond m xs → Beyond n xs
  beyond_more m n xs le all = λ i d a b. all i d (omega (arith, a, le)) b

  beyond_take : (n k : ℕ) (xs : List X) → Beyond n xs → Beyond n (take k xs)
  beyond_take n k xs all = λ i d a b.
      let long = length-take k xs in
      subst P (sym (get_or-take k xs i d (omega (arith, long, b)))) (all i d a (omega (arith, long, b)))

  beyond_drop : (n k : ℕ) (xs : List X) → Beyond n xs → Beyond (n - k) (drop k xs)
  beyond_drop n k xs all = λ i d a b.
      let long = length-drop k xs in
      subst P (sym (get_or-drop k xs i d)) (all (k + i) d (omega (arith, a)) (omega (arith, long, b)))

  beyond_append : (n : ℕ) (xs ys : List X) → Beyond n xs → Beyond (n - length xs) ys → Beyond n (xs ++ ys)
  beyond_append n xs ys one two = λ i d a b.
      let long = length-append xs ys in
      elim (cases_lt i (length xs)) [
        | inl lt ↦ subst P (sym (get_or_append_left xs ys d i lt)) (one i d a lt)
        | inr ge ↦ subst P (sym (get_or-append_right xs ys (length xs) i d refl ge)) (two (i - length xs) d (omega (arith, a)) (omega (arith, long, b, ge)))
      ]

  beyond_cons : (n : ℕ) (x : X) (xs : List X) → Beyond n xs → Beyond (n + 1) (x ∷ xs)
  beyond_cons n x xs all = λ i d a b. after i d a b where
    after : (i : ℕ) (d : X) → n + 1 ≤ i → i < length (x ∷ xs) → P (get_or (x ∷ xs) i d)
    after zero d a b = absurd (omega (arith, a))
    after (suc i) d a b = all i d (omega (arith, a)) (omega (arith, b))

  -- all elements of a range that begins no sooner
  all_of_range : (n b k : ℕ) (xs : List X) → n ≤ b → Beyond n xs → All P (range b k xs)
  all_of_range n b k xs le all = λ i d lt.
      let rest : Beyond 0 (range b k xs) = beyond_take 0 (b + k - b) (drop b xs) (beyond_more (n - b) 0 (drop b xs) (omega (arith, le)) (beyond_drop n b xs all)) in
      rest i d (omega arith) lt

either_of : (a b : Bool) → (not a || b) ≡ true → a ≡ true → b ≡ true
either_of true b e t = e
either_of false b e t = cc

module _ (w h : ℕ) where
  -- the channels after the meta channels are of this picture
  abbrev pub IsPictured : ChannelList → Type 0
  IsPictured l = Beyond (IsOfPicture w h) l.nb_meta l.channels

  module _ (t : Palette) (cs : List Channel) (nb : ℕ) (some : 1 ≤ t.num_c) (there : t.begin_c + t.num_c ≤ length cs) (keeps : keeps_meta t.begin_c t.num_c nb ≡ true) (each : Beyond (IsOfPicture w h) nb cs) where
    indexed : (meta : Bool) → nat_lt t.begin_c nb ≡ meta → Beyond (IsOfPicture w h) (if meta then nb + 2 - t.num_c else nb + 1) (table_of t cs ∷ (take (t.begin_c + 1) cs ++ drop (t.begin_c + t.num_c) cs))
    indexed true e =
        let fits : t.begin_c + t.num_c ≤ nb = leb-true (t.begin_c + t.num_c) nb (either_of (nat_lt t.begin_c nb) (nat_le (t.begin_c + t.num_c) nb) keeps e) in
        let long = length-take (t.begin_c + 1) cs in
        let P : Channel → Type 0 = IsOfPicture w h in
        let rest : Beyond P (nb + 1 - t.num_c) (take (t.begin_c + 1) cs ++ drop (t.begin_c + t.num_c) cs) =
        beyond_append P (nb + 1 - t.num_c) (take (t.begin_c + 1) cs) (drop (t.begin_c + t.num_c) cs) (beyond_none P (nb + 1 - t.num_c) (take (t.begin_c + 1) cs) (omega (arith, long, fits)))
        (beyond_more P (nb - (t.begin_c + t.num_c)) (nb + 1 - t.num_c - length (take (t.begin_c + 1) cs)) (drop (t.begin_c + t.num_c) cs) (omega (arith, long, fits, there, some)) (beyond_drop P nb (t.begin_c + t.num_c) cs each)) in
        let same : nb + 1 - t.num_c + 1 ≡ nb + 2 - t.num_c = omega (arith, fits, some) in
        subst (λ n. Beyond P n (table_of t cs ∷ (take (t.begin_c + 1) cs ++ drop (t.begin_c + t.num_c) cs))) same (beyond_cons P (nb + 1 - t.num_c) (table_of t cs) (take (t.begin_c + 1) cs ++ drop (t.begin_c + t.num_c) cs) rest)
    indexed false e =
        let low = ltb-false t.begin_c nb e in
        let P : Channel → Type 0 = IsOfPicture w h in
        beyond_cons P nb (table_of t cs) (take (t.begin_c + 1) cs ++ drop (t.begin_c + t.num_c) cs)
        (beyond_append P nb (take (t.begin_c + 1) cs) (drop (t.begin_c + t.num_c) cs) (beyond_take P nb (t.begin_c + 1) cs each)
        (beyond_more P (nb - (t.begin_c + t.num_c)) (nb - length (take (t.begin_c + 1) cs)) (drop (t.begin_c + t.num_c) cs) (omega (arith, low)) (beyond_drop P nb (t.begin_c + t.num_c) cs each)))

  module _ (t : SqueezeParams) (cs : List Channel) (nb : ℕ) (there : t.begin_c + t.num_c ≤ length cs) (keeps : (not (nat_lt t.begin_c nb) || t.in_place && nat_le (t.begin_c + t.num_c) nb) ≡ true) (each : Beyond (IsOfPicture w h) nb cs) where
    abbrev P : Channel → Type 0
    P = IsOfPicture w h

    abbrev A : List Channel
    A = map (average_channel t.horizontal) (range t.begin_c t.num_c cs)

    abbrev B : List Channel
    B = map (residual_channel t.horizontal) (range t.begin_c t.num_c cs)

    abbrev before : List Channel
    before = take t.begin_c cs

    abbrev after : List Channel
    after = drop (t.begin_c + t.num_c) cs

    long_range : length (range t.begin_c t.num_c cs) ≤ t.num_c
    long_range = let a = length-take (t.begin_c + t.num_c - t.begin_c) (drop t.begin_c cs) in omega (arith, a)

    halved : (place meta : Bool) → t.in_place ≡ place → nat_lt t.begin_c nb ≡ meta →
        Beyond P (if meta then nb + t.num_c else nb) (if place then before ++ (A ++ B) ++ after else before ++ A ++ after ++ B)
    halved true true p e =
        let fits : t.begin_c + t.num_c ≤ nb = leb-true (t.begin_c + t.num_c) nb (both_of t.in_place (nat_le (t.begin_c + t.num_c) nb) (either_of (nat_lt t.begin_c nb) (t.in_place && nat_le (t.begin_c + t.num_c) nb) keeps e)).1 in
        let one = length-take t.begin_c cs in
        let two = length-append before (A ++ B) in
        let three = length-append A B in
        let four = length-map (range t.begin_c t.num_c cs) (average_channel t.horizontal) in
        let five = length-map (range t.begin_c t.num_c cs) (residual_channel t.horizontal) in
        let six = long_range in
        beyond_append P (nb + t.num_c) (before ++ (A ++ B)) after (beyond_none P (nb + t.num_c) (before ++ (A ++ B)) (omega (arith, one, two, three, four, five, six, fits)))
        (beyond_more P (nb - (t.begin_c + t.num_c)) (nb + t.num_c - length (before ++ (A ++ B))) after (omega (arith, one, two, three, four, five, six, fits)) (beyond_drop P nb (t.begin_c + t.num_c) cs each))
    halved false true p e = absurd (not_both (rw p at (both_of t.in_place (nat_le (t.begin_c + t.num_c) nb) (either_of (nat_lt t.begin_c nb) (t.in_place && nat_le (t.begin_c + t.num_c) nb) keeps e)).0)) where
      not_both : false ≡ true → ⊥
      not_both e = cc
    halved place false p e = placed place where
      low : nb ≤ t.begin_c
      low = ltb-false t.begin_c nb e

      here : All P (range t.begin_c t.num_c cs)
      here = all_of_range P nb t.begin_c t.num_c cs low each

      averages : All P A
      averages = All-map P (average_channel t.horizontal) (range t.begin_c t.num_c cs) (All-weaker P (λ c. P (average_channel t.horizontal c)) (average_halved t.horizontal w h) (range t.begin_c t.num_c cs) here)

      residuals : All P B
      residuals = All-map P (residual_channel t.horizontal) (range t.begin_c t.num_c cs) (All-weaker P (λ c. P (residual_channel t.horizontal c)) (residual_halved t.horizontal w h) (range t.begin_c t.num_c cs) here)

      rest : (n : ℕ) → Beyond P n after
      rest n = beyond_more P (nb - (t.begin_c + t.num_c)) n after (let l = low in omega (arith, l)) (beyond_drop P nb (t.begin_c + t.num_c) cs each)

      placed : (place : Bool) → Beyond P nb (if place then before ++ (A ++ B) ++ after else before ++ A ++ after ++ B)
      placed true = beyond_append P nb (before ++ (A ++ B)) after (beyond_append P nb before (A ++ B) (beyond_take P nb t.begin_c cs each) (beyond_all P (nb - length before) (A ++ B) (All-append P A B averages residuals))) (rest (nb - length (before ++ (A ++ B))))
      placed false = beyond_append P nb (before ++ A ++ after) B
          (beyond_append P nb (before ++ A) after (beyond_append P nb before A (beyond_take P nb t.begin_c cs each) (beyond_all P (nb - length before) A averages)) (rest (nb - length (before ++ A))))
          (beyond_all P (nb - length (before ++ A ++ after)) B residuals)

  -- a step keeps the channels after the meta channels those of the picture
  pictured_after : (s : Step) (l m : ChannelList) → list_after s l ≡ Ok m → HasChannels s → IsPictured l → IsPictured m
  pictured_after (RctStep t) l m e some each = subst IsPictured (chosen (has_range t.begin_c 3 l.channels && one_size (range t.begin_c 3 l.channels)) l m BadRct e).1 each
  pictured_after (PaletteStep t) l m e some each =
      let (test, same) = chosen _ _ m BadPalette e in
      subst IsPictured same (indexed t l.channels l.nb_meta some (palette_applies t l m e).there (both_of _ _ test).1 each (nat_lt t.begin_c l.nb_meta) refl)
  pictured_after (SqueezeStep t) l m e some each =
      let (test, same) = chosen _ _ m BadSqueeze e in
      let keeps = (both_of _ _ (both_of _ _ test).0).1 in
      subst IsPictured same (halved t l.channels l.nb_meta (squeeze_applies t l m e).there keeps each t.in_place (nat_lt t.begin_c l.nb_meta) refl refl)

  pub pictured_after_all : (ss : List Step) (l m : ChannelList) → list_after_all ss l ≡ Ok m → All HasChannels ss → IsPictured l → IsPictured m
  pictured_after_all [] l m e some each = subst IsPictured (same_ok l m e) each
  pictured_after_all (s ∷ ss) l m e some each =
      let (n, first, rest) = first_step s ss l m e in
      pictured_after_all ss n m rest (All-tail HasChannels s ss some) (pictured_after s l n first (All-head HasChannels s ss some) each)
