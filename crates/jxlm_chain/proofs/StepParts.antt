-- What a step makes of a list whose elements it keeps or takes parts of.
use Rattle.std.proofs.Common.{ℕ, ◌+◌, ◌-◌, ◌≤◌, Bool, true, false, List, ◌++◌, map, take, drop, subst, arith}
use Rattle.std.specs.List.{AllPairs, AllZip}
use Rattle.std.proofs.lemmas.List.{drop-drop}
use Rattle.jxlm_transform.specs.ChannelSteps.{range, with_halves}
use Rattle.jxlm_transform.specs.declared.transform.SqueezeParams.{SqueezeParams}
use Rattle.jxlm_transform.proofs.RangeParts.{placed}
use Rattle.jxlm_chain.proofs.ListsApart.{AllCross, pairs_take, pairs_drop, pairs_append, pairs_map, cross_take_drop, cross_take_right, cross_turned, cross_append_left, cross_append_right, cross_map_left, cross_map_right, cross_maps, zip_append, zip_take, zip_drop, zip_map}

module _ {X : Type 0} (R : X → X → Type 0) where
  pub pairs_range : (begin n : ℕ) (xs : List X) → AllPairs R xs → AllPairs R (range begin n xs)
  pairs_range begin n xs pairs = pairs_take R (begin + n - begin) (drop begin xs) (pairs_drop R begin xs pairs)

  pub pairs_first : (begin n : ℕ) (xs : List X) → 1 ≤ n → AllPairs R xs → AllPairs R (take (begin + 1) xs ++ drop (begin + n) xs)
  pairs_first begin n xs le pairs =
      pairs_append R (take (begin + 1) xs) (drop (begin + n) xs) (pairs_take R (begin + 1) xs pairs) (pairs_drop R (begin + n) xs pairs) (cross_take_drop R (begin + 1) (begin + n) xs (omega arith) pairs)

  -- a range, and what is before it and after it
  cross_before : (begin n : ℕ) (xs : List X) → AllPairs R xs → AllCross R (take begin xs) (range begin n xs)
  cross_before begin n xs pairs = cross_take_right R (begin + n - begin) (take begin xs) (drop begin xs) (cross_take_drop R begin begin xs (omega arith) pairs)

  cross_after : (begin n : ℕ) (xs : List X) → AllPairs R xs → AllCross R (range begin n xs) (drop (begin + n) xs)
  cross_after begin n xs pairs = subst (AllCross R (range begin n xs)) (drop-drop n begin xs) (cross_take_drop R (begin + n - begin) n (drop begin xs) (omega arith) (pairs_drop R begin xs pairs))

  module _ (turn : (x y : X) → R x y → R y x) where
    pairs_placed : (inside : Bool) (before_it fs gs after_it : List X) → AllPairs R before_it → AllPairs R fs → AllPairs R gs → AllPairs R after_it → AllCross R before_it fs → AllCross R before_it gs → AllCross R before_it after_it →
        AllCross R fs gs → AllCross R fs after_it → AllCross R gs after_it → AllPairs R (placed inside before_it fs gs after_it)
    pairs_placed true before_it fs gs after_it a f g b af ag ab fg fb gb =
        pairs_append R (before_it ++ (fs ++ gs)) after_it (pairs_append R before_it (fs ++ gs) a (pairs_append R fs gs f g fg) (cross_append_right R before_it fs gs af ag)) b
        (cross_append_left R before_it (fs ++ gs) after_it ab (cross_append_left R fs gs after_it fb gb))
    pairs_placed false before_it fs gs after_it a f g b af ag ab fg fb gb =
        pairs_append R (before_it ++ fs ++ after_it) gs (pairs_append R (before_it ++ fs) after_it (pairs_append R before_it fs a f af) b (cross_append_left R before_it fs after_it ab fb)) g
        (cross_append_left R (before_it ++ fs) after_it gs (cross_append_left R before_it fs gs ag fg) (cross_turned R gs after_it turn gb))

    -- the elements of a range give way to two parts each
    pub pairs_halves : (t : SqueezeParams) (f g : X → X) (xs : List X) → ((x y : X) → R x y → R (f x) y) → ((x y : X) → R x y → R (g x) y) → ((x : X) → R (f x) (g x)) → AllPairs R xs →
        AllPairs R (with_halves t (map f (range t.begin_c t.num_c xs)) (map g (range t.begin_c t.num_c xs)) xs)
    pairs_halves t f g xs pf pg own pairs =
        let ys : List X = range t.begin_c t.num_c xs in
        let before_it : List X = take t.begin_c xs in
        let after_it : List X = drop (t.begin_c + t.num_c) xs in
        let here : AllPairs R ys = pairs_range t.begin_c t.num_c xs pairs in
        let a : AllCross R before_it ys = cross_before t.begin_c t.num_c xs pairs in
        let b : AllCross R ys after_it = cross_after t.begin_c t.num_c xs pairs in
        let qf : (x y : X) → R x y → R x (f y) = λ x y r. turn (f y) x (pf y x (turn x y r)) in
        let qg : (x y : X) → R x y → R x (g y) = λ x y r. turn (g y) x (pg y x (turn x y r)) in
        pairs_placed t.in_place before_it (map f ys) (map g ys) after_it (pairs_take R t.begin_c xs pairs)
        (pairs_map R f ys (λ x y r. pf x (f y) (qf x y r)) here) (pairs_map R g ys (λ x y r. pg x (g y) (qg x y r)) here) (pairs_drop R (t.begin_c + t.num_c) xs pairs)
        (cross_map_right R f before_it ys qf a) (cross_map_right R g before_it ys qg a) (cross_take_drop R t.begin_c (t.begin_c + t.num_c) xs (omega arith) pairs)
        (cross_maps R f g ys turn (λ x y r. pf x (g y) (qg x y r)) own here) (cross_map_left R f ys after_it pf b) (cross_map_left R g ys after_it pg b)

module _ {X Y : Type 0} (R : X → Y → Type 0) where
  zip_placed : (inside : Bool) (before_it fs gs after_it : List X) (before us vs after : List Y) → AllZip R before_it before → AllZip R fs us → AllZip R gs vs → AllZip R after_it after →
      AllZip R (placed inside before_it fs gs after_it) (placed inside before us vs after)
  zip_placed true before_it fs gs after_it before us vs after a f g b =
      zip_append R (before_it ++ (fs ++ gs)) after_it (before ++ (us ++ vs)) after (zip_append R before_it (fs ++ gs) before (us ++ vs) a (zip_append R fs gs us vs f g)) b
  zip_placed false before_it fs gs after_it before us vs after a f g b =
      zip_append R (before_it ++ fs ++ after_it) gs (before ++ us ++ after) vs (zip_append R (before_it ++ fs) after_it (before ++ us) after (zip_append R before_it fs before us a f) b) g

  pub zip_range : (begin n : ℕ) (xs : List X) (ys : List Y) → AllZip R xs ys → AllZip R (range begin n xs) (range begin n ys)
  zip_range begin n xs ys z = zip_take R (begin + n - begin) (drop begin xs) (drop begin ys) (zip_drop R begin xs ys z)

  pub zip_first : (begin n : ℕ) (xs : List X) (ys : List Y) → AllZip R xs ys → AllZip R (take (begin + 1) xs ++ drop (begin + n) xs) (take (begin + 1) ys ++ drop (begin + n) ys)
  zip_first begin n xs ys z = zip_append R (take (begin + 1) xs) (drop (begin + n) xs) (take (begin + 1) ys) (drop (begin + n) ys) (zip_take R (begin + 1) xs ys z) (zip_drop R (begin + n) xs ys z)

  pub zip_halves : (t : SqueezeParams) (f g : X → X) (u v : Y → Y) (xs : List X) (ys : List Y) → ((x : X) (y : Y) → R x y → R (f x) (u y)) → ((x : X) (y : Y) → R x y → R (g x) (v y)) → AllZip R xs ys →
      AllZip R (with_halves t (map f (range t.begin_c t.num_c xs)) (map g (range t.begin_c t.num_c xs)) xs) (with_halves t (map u (range t.begin_c t.num_c ys)) (map v (range t.begin_c t.num_c ys)) ys)
  zip_halves t f g u v xs ys part other z =
      let here : AllZip R (range t.begin_c t.num_c xs) (range t.begin_c t.num_c ys) = zip_range t.begin_c t.num_c xs ys z in
      let us : List X = range t.begin_c t.num_c xs in
      let vs : List Y = range t.begin_c t.num_c ys in
      zip_placed t.in_place (take t.begin_c xs) (map f us) (map g us) (drop (t.begin_c + t.num_c) xs) (take t.begin_c ys) (map u vs) (map v vs) (drop (t.begin_c + t.num_c) ys) (zip_take R t.begin_c xs ys z)
      (zip_map R R f u us vs part here) (zip_map R R g v us vs other here) (zip_drop R (t.begin_c + t.num_c) xs ys z)
