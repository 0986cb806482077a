-- Transforms that are applied one after another, as a loop does that writes them.
use Rattle.std.proofs.Common.{◌≡◌, ℕ, ◌+◌, ◌<◌, ◌≤◌, List, [], ◌∷◌, ◌++◌, length, map, take, drop, get_or, set, Result, Ok, Err, refl, sym, ap, ◌∙◌, append_assoc, subst, arith}
use Rattle.std.specs.List.{All}
use Rattle.std.proofs.lemmas.List.{append-nil, drop_all, drop_more, map-set, map_push, take_all, take_more_set}
use Rattle.std.proofs.lemmas.List.Elements.{All-head, All-tail}
use lib.ListN.{get_or-map}
use lib.Seq.{drop-set-lt, map-set_same}
use Rattle.jxlm_bits.specs.ErrorKind.{ErrorKind, UnlessNoMemory, ◌>>=◌}
use Rattle.jxlm_transform.specs.Channels.{ChannelList}
use Rattle.jxlm_transform.specs.ChannelSteps.{CodedList, Step, coded_list, list_after_all, listed_steps, steps_of}
use Rattle.jxlm_transform.specs.Transforms.{Transform, HasChannels, transform_of}
use Rattle.jxlm_transform.specs.declared.transform.TransformInfo.{TransformInfo}
use Rattle.jxlm_transform.proofs.CodedLists.{with_steps, all_applied, transform_applied, transform_refused}
use Rattle.jxlm_transform.proofs.Failures.{unless_so}
use Rattle.jxlm_transform.specs.Steps.{steps_in}
use Rattle.jxlm_chain.specs.Placed.{GoesOn}
use Rattle.jxlm_chain.specs.declared.placed.PlacedChannels.{PlacedChannels}
use Rattle.jxlm_chain.proofs.PlacedSteps.{goes_both}

-- the steps of one transform more
pub steps_further : (ts : List Transform) (t : Transform) → steps_in (ts ++ t ∷ []) ≡ steps_in ts ++ listed_steps t
steps_further [] t = append-nil (listed_steps t)
steps_further (u ∷ ts) t = ap (λ (ss : List Step). listed_steps u ++ ss) (steps_further ts t) ∙ sym (append_assoc (listed_steps u) (steps_in ts) (listed_steps t))

-- the transforms after the first i
abbrev pub left : ℕ → List TransformInfo → List Transform
left i ts = map transform_of (drop i ts)

-- the first i
abbrev pub done : ℕ → List TransformInfo → List Transform
done i ts = map transform_of (take i ts)

pub first_left : (ts : List TransformInfo) (i : ℕ) (d : TransformInfo) → i < length ts → left i ts ≡ transform_of (get_or ts i d) ∷ left (i + 1) ts
first_left ts i d lt = ap (map transform_of) (drop_more ts i d lt)

pub left_after : (ts : List TransformInfo) (i : ℕ) (u : TransformInfo) → left (i + 1) (set ts i u) ≡ left (i + 1) ts
left_after ts i u = ap (map transform_of) (drop-set-lt (i + 1) ts i u (omega arith))

pub one_done : (ts : List TransformInfo) (i : ℕ) (u : TransformInfo) → i < length ts → done (i + 1) (set ts i u) ≡ done i ts ++ transform_of u ∷ []
one_done ts i u lt = ap (map transform_of) (take_more_set ts i u lt) ∙ map_push transform_of (take i ts) u

-- the palettes among those that are left have channels
pub first_is : (ts : List TransformInfo) (i : ℕ) (d : TransformInfo) → i < length ts → All HasChannels (left i ts) → HasChannels (transform_of (get_or ts i d))
first_is ts i d lt are = All-head HasChannels (transform_of (get_or ts i d)) (left (i + 1) ts) (rw (first_left ts i d lt) at are)

pub others_are : (ts : List TransformInfo) (i : ℕ) (d u : TransformInfo) → i < length ts → All HasChannels (left i ts) → All HasChannels (left (i + 1) (set ts i u))
others_are ts i d u lt are = rw (left_after ts i u) (All-tail HasChannels (transform_of (get_or ts i d)) (left (i + 1) ts) (rw (first_left ts i d lt) at are))

-- what the transforms that are done and those that are left come to
abbrev pub come_to : ℕ → List TransformInfo → ChannelList → Result CodedList ErrorKind
come_to i ts l = with_steps (steps_in (done i ts)) (coded_list (left i ts) l)

pub nothing_done : (ts : List TransformInfo) (l : ChannelList) → come_to 0 ts l ≡ coded_list (map transform_of ts) l
nothing_done ts l = same (coded_list (map transform_of ts) l) where
  same : (r : Result CodedList ErrorKind) → with_steps [] r ≡ r
  same (Ok coded) = refl
  same (Err e) = refl

-- one more was applied
pub prepared_more : (ts : List TransformInfo) (i : ℕ) (d u : TransformInfo) (l m : ChannelList) (total : Result CodedList ErrorKind) → i < length ts →
    steps_of (transform_of (get_or ts i d)) l ≡ Ok (listed_steps (transform_of u)) → list_after_all (listed_steps (transform_of u)) l ≡ Ok m → come_to i ts l ≡ total → come_to (i + 1) (set ts i u) m ≡ total
prepared_more ts i d u l m total lt steps list so_far =
    let before : with_steps (steps_in (done i ts)) (coded_list (transform_of (get_or ts i d) ∷ left (i + 1) ts) l) ≡ total =
    sym (ap (λ (us : List Transform). with_steps (steps_in (done i ts)) (coded_list us l)) (first_left ts i d lt)) ∙ so_far in
    rw (left_after ts i u, one_done ts i u lt, steps_further (done i ts) (transform_of u))
    (transform_applied (steps_in (done i ts)) (transform_of (get_or ts i d)) (transform_of u) (left (i + 1) ts) l m total steps list before)

-- the next one gave an error
pub prepared_fails : (ts : List TransformInfo) (i : ℕ) (d : TransformInfo) (l : ChannelList) (error : ErrorKind) (total : Result CodedList ErrorKind) → i < length ts →
    UnlessNoMemory error ((steps_of (transform_of (get_or ts i d)) l >>= λ steps. list_after_all steps l) ≡ Err error) → come_to i ts l ≡ total → UnlessNoMemory error (total ≡ Err error)
prepared_fails ts i d l error total lt refused so_far =
    let before : with_steps (steps_in (done i ts)) (coded_list (transform_of (get_or ts i d) ∷ left (i + 1) ts) l) ≡ total =
    sym (ap (λ (us : List Transform). with_steps (steps_in (done i ts)) (coded_list us l)) (first_left ts i d lt)) ∙ so_far in
    unless_so error _ (total ≡ Err error) (λ r. transform_refused (steps_in (done i ts)) (transform_of (get_or ts i d)) (left (i + 1) ts) l error total r before) refused

-- all were applied
pub all_prepared : (ts : List TransformInfo) (i : ℕ) (l : ChannelList) (total : Result CodedList ErrorKind) → length ts ≤ i → come_to i ts l ≡ total → total ≡ Ok (record { steps = steps_in (map transform_of ts); list = l })
all_prepared ts i l total le so_far =
    all_applied (steps_in (map transform_of ts)) l total
    (ap (λ (us : List TransformInfo). with_steps (steps_in (map transform_of us)) (coded_list [] l)) (sym (take_all i ts le))
    ∙ ap (λ (us : List TransformInfo). with_steps (steps_in (done i ts)) (coded_list (map transform_of us) l)) (sym (drop_all i ts le)) ∙ so_far)

-- a list that was written back whole
pub written_back : {X : Type 0} (xs ys : List X) (n : ℕ) → length xs ≡ length ys → n ≡ length ys → take n (xs ++ drop (length xs) ys) ≡ xs
written_back xs ys n same long =
    let none : drop (length xs) ys ≡ [] = drop_all (length xs) ys (omega (arith, same)) in
    ap (λ rest. take n (xs ++ rest)) none ∙ ap (take n) (append-nil xs) ∙ take_all n xs (omega (arith, same, long))

-- and what they go on by
pub goes_further : (ts : List TransformInfo) (i : ℕ) (u : TransformInfo) (p q r : PlacedChannels) → i < length ts → GoesOn (steps_in (done i ts)) p q → GoesOn (listed_steps (transform_of u)) q r →
    GoesOn (steps_in (done (i + 1) (set ts i u))) p r
goes_further ts i u p q r lt h k =
    let e : steps_in (done (i + 1) (set ts i u)) ≡ steps_in (done i ts) ++ listed_steps (transform_of u) = ap steps_in (one_done ts i u lt) ∙ steps_further (done i ts) (transform_of u) in
    subst (λ (ss : List Step). GoesOn ss p r) (sym e) (goes_both (steps_in (done i ts)) (listed_steps (transform_of u)) p q r h k)

pub all_gone : (ts us : List TransformInfo) (i : ℕ) (p q : PlacedChannels) → length ts ≤ i → us ≡ ts → GoesOn (steps_in (done i ts)) p q → GoesOn (steps_in (map transform_of us)) p q
all_gone ts us i p q le same h = subst (λ (xs : List TransformInfo). GoesOn (steps_in (map transform_of xs)) p q) (take_all i ts le ∙ sym same) h

-- a transform that a test cannot tell from the one in its place changes nothing for the test
pub kept_alike : {Y : Type 0} (test : Transform → Y) (ts : List TransformInfo) (i : ℕ) (d u : TransformInfo) → test (transform_of u) ≡ test (transform_of (get_or ts i d)) → map test (map transform_of (set ts i u)) ≡ map test (map transform_of ts)
kept_alike test ts i d u same =
    ap (map test) (map-set transform_of ts i u) ∙ map-set_same test (map transform_of ts) i (transform_of u) (transform_of d) (same ∙ ap test (sym (get_or-map transform_of ts i d)))
