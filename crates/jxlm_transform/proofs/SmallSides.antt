-- How often the default squeeze halves, and the sides that it leaves.
use Rattle.std.proofs.Common.{◌≡◌, ℕ, zero, suc, ◌+◌, ◌-◌, ◌*◌, ◌^◌, ◌%◌, ◌<◌, ◌≤◌, Bool, true, false, not, cond, List, [], ◌∷◌, ◌++◌, length, map, take, drop, Some, Ok, Err, Result, refl, sym, ap, ◌∙◌, subst, pow_pos, arith}
use Rattle.std.specs.Prelude.{nat_lt, nat_le, ◌&&◌, if◌then◌else◌, slice_get, count_by, All}
use Rattle.std.specs.Int.{div_ceil}
use Rattle.std.proofs.Math.Nat.{mul-le-mul_right, lt_of_mul-lt-mul_right, le_antisymm, pow-succ', div-one}
use Rattle.std.proofs.lemmas.Bool.{le-ltb}
use Rattle.std.proofs.lemmas.Grind.{div_ceil_times}
use Rattle.std.proofs.lemmas.List.Elements.{All-nil, All-cons, All-head, All-tail}
use Rattle.std.proofs.lemmas.List.Sums.{sum_by-cons}
use borrow.Author.Tests.{ltb-true, ltb-false}
use Rattle.jxlm_bits.specs.ErrorKind.{ErrorKind, BadSqueeze}
use Rattle.jxlm_transform.proofs.Halvings.{more, none}
use Rattle.jxlm_transform.proofs.SideBounds.{came}
use Rattle.jxlm_transform.specs.Channels.{Channel, ChannelList}
use Rattle.jxlm_transform.specs.ChannelSteps.{Step, SqueezeStep, average_channel, default_of_all, default_of_chroma, default_squeeze, halvings, in_turn, list_after_all, one_size, range, residual_channel, step_of_all, step_of_chroma, list_after}
use Rattle.jxlm_transform.specs.DefaultSqueeze.{halved_side, IsLeastToEight, TakesFewestSteps, LeavesSmallSides}
use Rattle.jxlm_transform.specs.declared.transform.SqueezeParams.{SqueezeParams}

-- ---- a side that is halved

-- a quotient rounded up is at most m exactly where the whole is at most m times the divisor
whole_below : (n m k : ℕ) → 0 < k → div_ceil n k ≤ m → n ≤ m * k
whole_below n m k some h = let above = div_ceil_times n k some in let more = mul-le-mul_right k h in omega (arith, above.0, more)

quotient_below : (n m k : ℕ) → 0 < k → n ≤ m * k → div_ceil n k ≤ m
quotient_below n m k some h =
    let below = div_ceil_times n k some in
    let next : div_ceil n k * k < (m + 1) * k = omega (arith, below.1) in
    let less : div_ceil n k < m + 1 = lt_of_mul-lt-mul_right k next in
    omega arith

-- a side halved once more is its half halved
halved_next : (k side : ℕ) → halved_side (suc k) side ≡ halved_side k (div_ceil side 2)
halved_next k side =
    let half : ℕ = div_ceil side 2 in
    let some = pow_pos k in
    let double : 2 ^ suc k ≡ 2 * 2 ^ k = pow-succ' 2 k in
    let twice : (m : ℕ) → m * 2 ^ suc k ≡ m * 2 ^ k * 2 = λ (m : ℕ). omega (arith, ap (λ (p : ℕ). m * p) double) in
    le_antisymm
    (quotient_below side (halved_side k half) (2 ^ suc k) (pow_pos (suc k))
    (rw (twice (halved_side k half)) (whole_below side (halved_side k half * 2 ^ k) 2 (omega arith) (whole_below half (halved_side k half) (2 ^ k) some (omega arith)))))
    (quotient_below half (halved_side (suc k) side) (2 ^ k) some
    (quotient_below side (halved_side (suc k) side * 2 ^ k) 2 (omega arith) (rw (twice (halved_side (suc k) side)) at (whole_below side (halved_side (suc k) side) (2 ^ suc k) (pow_pos (suc k)) (omega arith)))))

halved_none : (side : ℕ) → halved_side 0 side ≡ side
halved_none side = let one = div-one side in let rest : side % 1 ≡ 0 = omega arith in rw (one, rest) (omega arith)

-- a side above 8 takes one more than its half
least_more : (k side : ℕ) → 8 < side → IsLeastToEight k (div_ceil side 2) → IsLeastToEight (suc k) side
least_more k side above h = (rw (halved_next k side) h.0, least) where
  least : (j : ℕ) → j < suc k → 8 < halved_side j side
  least zero less = rw (halved_none side) above
  least (suc j) less = rw (halved_next j side) (h.1 j (omega arith))

-- one that is at most 8 takes none
least_none : (side : ℕ) → nat_lt 8 side ≡ false → IsLeastToEight (halvings side) side
least_none side small =
    let few : IsLeastToEight 0 side = (rw (halved_none side) (ltb-false 8 side small), λ j less. absurd (omega (arith, less))) in
    subst (λ (k : ℕ). IsLeastToEight k side) (sym (none side small)) few

-- the halvings of a side are the least number after which it is at most 8
least_by : (side : ℕ) (b : Bool) → nat_lt 8 side ≡ b → (8 < side → IsLeastToEight (halvings (div_ceil side 2)) (div_ceil side 2)) → IsLeastToEight (halvings side) side
least_by side false small half = least_none side small
least_by side true above half =
    let big : 8 < side = ltb-true 8 side above in
    subst (λ (k : ℕ). IsLeastToEight k side) (sym (more side above)) (least_more (halvings (div_ceil side 2)) side big (half big))

least_up_to : (n side : ℕ) → side ≤ n → IsLeastToEight (halvings side) side
least_up_to zero side h = least_none side (le-ltb 8 side (omega arith))
least_up_to (suc n) side h = least_by side (nat_lt 8 side) refl (λ above. least_up_to n (div_ceil side 2) (omega arith))

least : (side : ℕ) → IsLeastToEight (halvings side) side
least side = least_up_to side side (omega arith)

-- ---- the steps

abbrev across : List SqueezeParams → ℕ
across steps = count_by (λ s. s.horizontal) steps

abbrev down : List SqueezeParams → ℕ
down steps = count_by (λ s. not s.horizontal) steps

next_across : (s : SqueezeParams) (steps : List SqueezeParams) → across (s ∷ steps) ≡ cond s.horizontal 1 0 + across steps
next_across s steps = sum_by-cons (λ s. cond s.horizontal 1 0) s steps

next_down : (s : SqueezeParams) (steps : List SqueezeParams) → down (s ∷ steps) ≡ cond (not s.horizontal) 1 0 + down steps
next_down s steps = sum_by-cons (λ s. cond (not s.horizontal) 1 0) s steps

-- steps of all n channels from f on, a of them across and b down
record AreOfAll (f n a b : ℕ) (steps : List SqueezeParams) : Type 0 where
  all : All (λ s. s ≡ step_of_all f n s.horizontal) steps
  wide : across steps ≡ a
  high : down steps ≡ b

of_none : (f n : ℕ) → AreOfAll f n 0 0 []
of_none f n = record { all = All-nil (λ s. s ≡ step_of_all f n s.horizontal); wide = refl; high = refl }

one_across : (f n a b : ℕ) (steps : List SqueezeParams) → AreOfAll f n a b steps → AreOfAll f n (suc a) b (step_of_all f n true ∷ steps)
one_across f n a b steps h = record {
  all = All-cons (λ s. s ≡ step_of_all f n s.horizontal) (step_of_all f n true) steps refl h.all;
  wide = omega (arith, h.wide, next_across (step_of_all f n true) steps);
  high = omega (arith, h.high, next_down (step_of_all f n true) steps);
}

one_down : (f n a b : ℕ) (steps : List SqueezeParams) → AreOfAll f n a b steps → AreOfAll f n a (suc b) (step_of_all f n false ∷ steps)
one_down f n a b steps h = record {
  all = All-cons (λ s. s ≡ step_of_all f n s.horizontal) (step_of_all f n false) steps refl h.all;
  wide = omega (arith, h.wide, next_across (step_of_all f n false) steps);
  high = omega (arith, h.high, next_down (step_of_all f n false) steps);
}

of_turns : (f n a b : ℕ) → AreOfAll f n a b (in_turn a b (step_of_all f n))
of_turns f n zero zero = of_none f n
of_turns f n zero (suc b) = one_down f n 0 b _ (of_turns f n zero b)
of_turns f n (suc a) zero = one_across f n a 0 _ (of_turns f n a zero)
of_turns f n (suc a) (suc b) = one_across f n a (suc b) _ (one_down f n a b _ (of_turns f n a b))

-- the steps of all channels are as many as the sides of the first take
of_sides : (f n w h : ℕ) → AreOfAll f n (halvings w) (halvings h) (default_of_all f n w h)
of_sides f n w h = by_test (nat_le w h) (nat_lt 8 h) refl where
  turns : AreOfAll f n (halvings w) (halvings h) (in_turn (halvings w) (halvings h) (step_of_all f n))
  turns = of_turns f n (halvings w) (halvings h)

  by_test : (a b : Bool) → nat_lt 8 h ≡ b → AreOfAll f n (halvings w) (halvings h)
      (if a && b then step_of_all f n false ∷ in_turn (halvings w) (halvings (div_ceil h 2)) (step_of_all f n) else in_turn (halvings w) (halvings h) (step_of_all f n))
  by_test true true above = rw (more h above) (one_down f n (halvings w) (halvings (div_ceil h 2)) _ (of_turns f n (halvings w) (halvings (div_ceil h 2))))
  by_test true false small = turns
  by_test false b any = turns

pub takes_fewest_steps : TakesFewestSteps
takes_fewest_steps f c cs =
    let n : ℕ = length (c ∷ cs) in
    let steps : List SqueezeParams = default_of_all f n c.width c.height in
    let are = of_sides f n c.width c.height in (
      steps,
      refl,
      record {
        each = are.all;
        across = rw are.wide (least c.width);
        down = rw are.high (least c.height);
      },
    )

-- ---- the first channel

-- a list that is there where a test holds
chosen : (b : Bool) (l m : ChannelList) (error : ErrorKind) → if◌then◌else◌ {A = Result ChannelList ErrorKind} b (Ok l) (Err error) ≡ Ok m → l ≡ m
chosen true l m error e = cc
chosen false l m error e = cc

module _ {X : Type 0} where
  -- an item of a list is at the same place of a longer one
  longer : (xs ys : List X) (f : ℕ) (c : X) → slice_get xs f ≡ Some c → slice_get (xs ++ ys) f ≡ Some c
  longer [] ys f c e = cc
  longer (x ∷ xs) ys zero c e = e
  longer (x ∷ xs) ys (suc f) c e = longer xs ys f c e

  -- and in its beginning, where that goes beyond it
  shorter : (xs : List X) (f : ℕ) (c : X) → slice_get xs f ≡ Some c → slice_get (take (suc f) xs) f ≡ Some c
  shorter [] f c e = e
  shorter (x ∷ xs) zero c e = e
  shorter (x ∷ xs) (suc f) c e = shorter xs f c e

  -- the first of others in its place
  replaced : (xs others : List X) (f : ℕ) (c d : X) → slice_get xs f ≡ Some c → slice_get (take f xs ++ d ∷ others) f ≡ Some d
  replaced [] others f c d e = cc
  replaced (x ∷ xs) others zero c d e = refl
  replaced (x ∷ xs) others (suc f) c d e = replaced xs others f c d e

  -- it is the first of a range that begins there
  ranged : (xs : List X) (f n : ℕ) (c : X) → slice_get xs f ≡ Some c → (rest : List X) × (take (suc n) (drop f xs) ≡ c ∷ rest)
  ranged [] f n c e = cc
  ranged (x ∷ xs) zero n c e = (take n xs, ap (λ (y : X). y ∷ take n xs) (one x c e)) where
    one : (x c : X) → Some x ≡ Some c → x ≡ c
    one x c e = cc
  ranged (x ∷ xs) (suc f) n c e = ranged xs f n c e

  -- what a rest of it begins with is at that place
  begun : (xs rest : List X) (f : ℕ) (c : X) → drop f xs ≡ c ∷ rest → slice_get xs f ≡ Some c
  begun [] rest zero c e = cc
  begun [] rest (suc f) c e = cc
  begun (x ∷ xs) rest zero c e = cc
  begun (x ∷ xs) rest (suc f) c e = begun xs rest f c e

-- a step of all channels leaves the averages of the first in its place
first_halved : (f n : ℕ) (h : Bool) (l m : ChannelList) (c : Channel) → slice_get l.channels f ≡ Some c → list_after (SqueezeStep (step_of_all f (suc n) h)) l ≡ Ok m → slice_get m.channels f ≡ Some (average_channel h c)
first_halved f n h l m c there step =
    let xs : List Channel = l.channels in
    let (rest, is) = ranged xs f n c there in
    let count : f + suc n - f ≡ suc n = omega arith in
    let same : range f (suc n) xs ≡ c ∷ rest = ap (λ (k : ℕ). take k (drop f xs)) count ∙ is in
    let halves : List Channel → List Channel = λ (cs : List Channel). map (average_channel h) cs ++ map (residual_channel h) cs in
    let placed : slice_get (take f xs ++ halves (range f (suc n) xs)) f ≡ Some (average_channel h c) =
    subst (λ (cs : List Channel). slice_get (take f xs ++ halves cs) f ≡ Some (average_channel h c)) (sym same)
    (replaced xs (map (average_channel h) rest ++ map (residual_channel h) (c ∷ rest)) f c (average_channel h c) there) in
    subst (λ (k : ChannelList). slice_get k.channels f ≡ Some (average_channel h c)) (chosen _ _ m BadSqueeze step)
    (longer (take f xs ++ halves (range f (suc n) xs)) (drop (f + suc n) xs) f (average_channel h c) placed)

-- one of chroma leaves the first channel
first_kept : (f : ℕ) (h : Bool) (l m : ChannelList) (c : Channel) → slice_get l.channels f ≡ Some c → list_after (SqueezeStep (step_of_chroma f h)) l ≡ Ok m → slice_get m.channels f ≡ Some c
first_kept f h l m c there step =
    let xs : List Channel = l.channels in
    let cs : List Channel = range (f + 1) 2 xs in
    let next : f + 1 ≡ suc f = omega arith in
    let kept : slice_get (take (f + 1) xs) f ≡ Some c = rw next (shorter xs f c there) in
    let front : List Channel = take (f + 1) xs ++ map (average_channel h) cs in
    subst (λ (k : ChannelList). slice_get k.channels f ≡ Some c) (chosen _ _ m BadSqueeze step)
    (longer (front ++ drop (f + 1 + 2) xs) (map (residual_channel h) cs) f c (longer front (drop (f + 1 + 2) xs) f c (longer (take (f + 1) xs) (map (average_channel h) cs) f c kept)))

-- a channel that was halved a times across and b times down
abbrev IsHalvedOf : ℕ → ℕ → Channel → Channel → Type 0
IsHalvedOf a b c d = (d.width ≡ halved_side a c.width) × (d.height ≡ halved_side b c.height)

halved_once_more : (h : Bool) (a b : ℕ) (c d : Channel) → IsHalvedOf a b (average_channel h c) d → IsHalvedOf (cond h 1 0 + a) (cond (not h) 1 0 + b) c d
halved_once_more true a b c d is =
    let more : 1 + a ≡ suc a = omega arith in
    let same : 0 + b ≡ b = omega arith in
    (is.0 ∙ sym (halved_next a c.width) ∙ ap (λ (k : ℕ). halved_side k c.width) (sym more), is.1 ∙ ap (λ (k : ℕ). halved_side k c.height) (sym same))
halved_once_more false a b c d is =
    let more : 1 + b ≡ suc b = omega arith in
    let same : 0 + a ≡ a = omega arith in
    (is.0 ∙ ap (λ (k : ℕ). halved_side k c.width) (sym same), is.1 ∙ sym (halved_next b c.height) ∙ ap (λ (k : ℕ). halved_side k c.height) (sym more))

-- steps of all channels halve the first as often as they go across and down
first_after : (f n : ℕ) (steps : List SqueezeParams) (l m : ChannelList) (c : Channel) → All (λ s. s ≡ step_of_all f (suc n) s.horizontal) steps → slice_get l.channels f ≡ Some c →
    list_after_all (map SqueezeStep steps) l ≡ Ok m → (d : Channel) × (slice_get m.channels f ≡ Some d) × IsHalvedOf (across steps) (down steps) c d
first_after f n [] l m c all there e =
    (c, subst (λ (k : ChannelList). slice_get k.channels f ≡ Some c) (same l m e) there, (sym (halved_none c.width), sym (halved_none c.height))) where
      same : (l m : ChannelList) → ◌≡◌ {A = Result ChannelList ErrorKind} (Ok l) (Ok m) → l ≡ m
      same l m e = cc
first_after f n (s ∷ ss) l m c all there e =
    let is : s ≡ step_of_all f (suc n) s.horizontal = All-head (λ s. s ≡ step_of_all f (suc n) s.horizontal) s ss all in
    let (k, first, rest) = came (list_after (SqueezeStep s) l) (list_after_all (map SqueezeStep ss)) m e in
    let next = first_halved f n s.horizontal l k c there (subst (λ (t : SqueezeParams). list_after (SqueezeStep t) l ≡ Ok k) is first) in
    let (d, ends, halves) = first_after f n ss k m (average_channel s.horizontal c) (All-tail (λ s. s ≡ step_of_all f (suc n) s.horizontal) s ss all) next rest in
    let more = halved_once_more s.horizontal (across ss) (down ss) c d halves in
    (d, ends, (more.0 ∙ ap (λ (k : ℕ). halved_side k c.width) (sym (next_across s ss)), more.1 ∙ ap (λ (k : ℕ). halved_side k c.height) (sym (next_down s ss))))

-- after the steps of chroma, where there are any, the first channel is as it was, and the others follow
first_after_chroma : (f : ℕ) (b : Bool) (ss : List SqueezeParams) (l m : ChannelList) (c : Channel) → slice_get l.channels f ≡ Some c →
    list_after_all (map SqueezeStep ((if b then step_of_chroma f true ∷ step_of_chroma f false ∷ [] else []) ++ ss)) l ≡ Ok m →
    (k : ChannelList) × (slice_get k.channels f ≡ Some c) × (list_after_all (map SqueezeStep ss) k ≡ Ok m)
first_after_chroma f false ss l m c there e = (l, there, e)
first_after_chroma f true ss l m c there e =
    let (i, first, rest) = came (list_after (SqueezeStep (step_of_chroma f true)) l) (list_after_all (SqueezeStep (step_of_chroma f false) ∷ map SqueezeStep ss)) m e in
    let (k, second, last) = came (list_after (SqueezeStep (step_of_chroma f false)) i) (list_after_all (map SqueezeStep ss)) m rest in
    (k, first_kept f false i k c (first_kept f true l i c there first) second, last)

-- what the law says of the list after the steps
abbrev IsSmallAt : ℕ → ChannelList → Type 0
IsSmallAt f m = (c : Channel) × (slice_get m.channels f ≡ Some c) × (c.width ≤ 8) × (c.height ≤ 8)

small_after : (l m : ChannelList) (squeezed : List Channel) (steps : List SqueezeParams) → drop l.nb_meta l.channels ≡ squeezed → default_squeeze l.nb_meta squeezed ≡ Ok steps →
    list_after_all (map SqueezeStep steps) l ≡ Ok m → IsSmallAt l.nb_meta m
small_after l m [] steps are listed e = cc
small_after l m (c ∷ cs) steps are listed e =
    let f : ℕ = l.nb_meta in
    let (ss, found, halve) = takes_fewest_steps f c cs in
    let same : steps ≡ default_of_chroma f (c ∷ cs) ++ ss = same_steps _ _ (sym listed ∙ found) in
    let (k, there, rest) = first_after_chroma f (nat_le 3 (length (c ∷ cs)) && one_size (take 2 (c ∷ cs))) ss l m c (begun l.channels cs f c are)
    (subst (λ (ts : List SqueezeParams). list_after_all (map SqueezeStep ts) l ≡ Ok m) same e) in
    let (d, ends, halves) = first_after f (length cs) ss k m c halve.each there rest in
    (d, ends, rw halves.0 halve.across.0, rw halves.1 halve.down.0) where
      same_steps : (xs ys : List SqueezeParams) → ◌≡◌ {A = Result (List SqueezeParams) ErrorKind} (Ok xs) (Ok ys) → xs ≡ ys
      same_steps xs ys e = cc

pub leaves_small_sides : LeavesSmallSides
leaves_small_sides l m steps listed e =
    let (ss, found, mapped) = came (default_squeeze l.nb_meta (drop l.nb_meta l.channels)) (λ (ss : List SqueezeParams). Ok (map SqueezeStep ss)) steps listed in
    let same : map SqueezeStep ss ≡ steps = same_steps _ _ mapped in
    small_after l m (drop l.nb_meta l.channels) ss refl found (subst (λ (ts : List Step). list_after_all ts l ≡ Ok m) (sym same) e) where
      same_steps : (xs ys : List Step) → ◌≡◌ {A = Result (List Step) ErrorKind} (Ok xs) (Ok ys) → xs ≡ ys
      same_steps xs ys e = cc
