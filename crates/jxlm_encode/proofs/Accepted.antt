-- Transforms that are accepted one after another, and the first that is refused.
use Rattle.std.proofs.Common.{◌≡◌, ◌⊎◌, inl, inr, ℕ, zero, suc, ◌+◌, ◌<◌, ◌≤◌, List, [], ◌∷◌, ◌++◌, length, map, take, get_or, Bool, true, false, Result, Ok, Err, Some, refl, sym, ap, ◌∙◌, subst, append_assoc, arith}
use Rattle.std.specs.Prelude.{◌↔◌, IsTrue, slice_get}
use Rattle.std.specs.List.{All}
use Rattle.std.proofs.lemmas.List.{map_push, take-map, take_more, length-map, take_all}
use Rattle.std.proofs.lemmas.List.Elements.{All-nil, All-push}
use Rattle.jxlm_bits.specs.ErrorKind.{ErrorKind, NoMemory, OfDecoder, UnlessMemory, UnlessNoMemory, kind_of}
use Rattle.jxlm_bits.specs.declared.error.Error.{Error}
use Rattle.jxlm_bits.specs.declared.decoder.DecoderError.TheVariants as decoder
use Rattle.jxlm_transform.specs.Layout.{first_layout}
use Rattle.jxlm_chain.specs.Placed.{IsPlaced, IsPlacedBy}
use Rattle.jxlm_chain.specs.declared.placed.PlacedChannels.{PlacedChannels}
use Rattle.jxlm_chain.proofs.PlacedSteps.{goes_both, goes_nowhere}
use Rattle.jxlm_transform.specs.Channels.{Channel, ChannelList}
use Rattle.jxlm_transform.specs.Lists.{list_of}
use Rattle.jxlm_transform.specs.ChannelSteps.{CodedList, Step, coded_list, list_after_all, steps_of}
use Rattle.jxlm_transform.specs.Transforms.{HasChannels, IsTransform, Transform, OfRct, OfPalette, OfSqueeze}
use Rattle.jxlm_transform.specs.Transforms.{transform_of as transform_in}
use Rattle.jxlm_transform.specs.declared.transform.TransformInfo.{TransformInfo}
use Rattle.jxlm_transform.proofs.SideBounds.{came}
use Rattle.jxlm_encode_write.specs.Headers.{transform_of}
use Rattle.jxlm_encode_write.specs.Laws.{IsWritten}
use Rattle.jxlm_encode_write.specs.declared.header.EncodeTransform.{EncodeTransform}
use Rattle.jxlm_encode_write.specs.declared.header.EncodeTransform.TheVariants as given
use Rattle.jxlm_encode.specs.Encoded.{AreAccepted, IsRefusedAfter, IsTransformRefused}
use Rattle.jxlm_encode.specs.Errors.{IsNotMemory}
use Rattle.jxlm_encode.specs.Inner.Placing.{AppliesOne, AreRefused, HaveCome, Refuses, listed}
use Rattle.jxlm_encode.specs.declared.error.EncodeError.{EncodeError}
use Rattle.jxlm_encode.specs.declared.error.EncodeError.TheVariants.{InvalidTransform, InvalidTree, OutOfMemory}

same_ok : {X : Type 0} (x y : X) → ◌≡◌ {A = Result X ErrorKind} (Ok x) (Ok y) → x ≡ y
same_ok x y e = cc

-- ---- errors

-- what holds of an error, unless it is for want of memory, holds of another one
pub unless_so : (e : ErrorKind) (P : Type 0) → IsNotMemory e → UnlessMemory e P → P
unless_so NoMemory P other h = absurd (other.own refl)
unless_so (OfDecoder decoder.OutOfMemory) P other h = absurd (other.decoder refl)
unless_so (OfDecoder error) P other h = h
unless_so error P other h = h

pub unless_own_so : (e : ErrorKind) (P : Type 0) → IsNotMemory e → UnlessNoMemory e P → P
unless_own_so NoMemory P other h = absurd (other.own refl)
unless_own_so error P other h = h

-- ---- spellings

pub is_transform : (t : Transform) → IsWritten t → IsTransform t
is_transform (OfRct t) h = h
is_transform (OfPalette t) h = absurd h
is_transform (OfSqueeze steps) h = h

pub is_written : (t : EncodeTransform) → IsTransform (transform_of t) → IsWritten (transform_of t)
is_written (given.Rct begin kind) h = h
is_written (given.Squeeze steps) h = h

pub not_written : (b : Bool) (t : EncodeTransform) → IsTrue b ↔ IsTransform (transform_of t) → b ≡ false → IsWritten (transform_of t) → ⊥
not_written b t same isnt w = let yes : b ≡ true = same.1 (is_transform (transform_of t) w) in cc

-- none is a palette
pub has_channels : (t : EncodeTransform) → HasChannels (transform_of t)
has_channels (given.Rct begin kind) = tt
has_channels (given.Squeeze steps) = tt

-- ---- one transform more

coded_first : (s : Transform) (rest : List Transform) (l m : ChannelList) (ss : List Step) (y : CodedList) → steps_of s l ≡ Ok ss → list_after_all ss l ≡ Ok m → coded_list rest m ≡ Ok y →
    coded_list (s ∷ rest) l ≡ Ok (record { steps = ss ++ y.steps; list = y.list })
coded_first s rest l m ss y steps list others = rw (steps, list, others) refl

-- a list of transforms with one more comes to what that one makes of the list before
coded_more : (ts : List Transform) (t : Transform) (l : ChannelList) (x y : CodedList) → coded_list ts l ≡ Ok x → coded_list (t ∷ []) x.list ≡ Ok y →
    coded_list (ts ++ t ∷ []) l ≡ Ok (record { steps = x.steps ++ y.steps; list = y.list })
coded_more [] t l x y h k =
    let is : record { steps = []; list = l } ≡ x = same_ok (record { steps = []; list = l }) x h in
    subst (λ (z : CodedList). coded_list (t ∷ []) z.list ≡ Ok y → coded_list (t ∷ []) l ≡ Ok (record { steps = z.steps ++ y.steps; list = y.list })) is (λ e. e) k
coded_more (s ∷ ts) t l x y h k =
    let (ss, steps, after_it) = came (steps_of s l) _ x h in
    let (m, list, rest) = came (list_after_all ss l) _ x after_it in
    let (others, all, last) = came (coded_list ts m) _ x rest in
    let is : record { steps = ss ++ others.steps; list = others.list } ≡ x = same_ok (record { steps = ss ++ others.steps; list = others.list }) x last in
    let under = coded_more ts t m others y all (subst (λ (z : CodedList). coded_list (t ∷ []) z.list ≡ Ok y) (sym is) k) in
    let one = coded_first s (ts ++ t ∷ []) l m ss (record { steps = others.steps ++ y.steps; list = y.list }) steps list under in
    one ∙ ap (λ (us : List Step). Ok (record { steps = us; list = y.list })) (sym (append_assoc ss others.steps y.steps)) ∙ ap (λ (z : CodedList). Ok (record { steps = z.steps ++ y.steps; list = y.list })) is

-- none yet
pub none_come : (channels : List Channel) (p : PlacedChannels) → list_of p.channels ≡ listed channels → IsPlaced p → IsPlacedBy [] (first_layout channels) p → HaveCome [] channels p
none_come channels p list placed begun = record {
  steps = [];
  written = All-nil IsWritten;
  come = ap (λ (l : ChannelList). Ok (record { steps = []; list = l })) (sym list);
  start = p;
  begun = begun;
  goes = goes_nowhere p placed;
}

-- one more
come_more : (ts : List Transform) (t : Transform) (channels : List Channel) (p q : PlacedChannels) → HaveCome ts channels p → AppliesOne t p q → HaveCome (ts ++ t ∷ []) channels q
come_more ts t channels p q h one = record {
  steps = h.steps ++ one.steps;
  written = All-push IsWritten ts t h.written one.written;
  come = coded_more ts t (listed channels) (record { steps = h.steps; list = list_of p.channels }) (record { steps = one.steps; list = list_of q.channels }) h.come one.comes;
  start = h.start;
  begun = h.begun;
  goes = goes_both h.steps one.steps h.start p q h.goes one.goes;
}

-- the next of a list that is asked for
pub come_next : (xs : List EncodeTransform) (k : ℕ) (x : EncodeTransform) (channels : List Channel) (p q : PlacedChannels) → k < length xs → x ≡ get_or xs k x → HaveCome (map transform_of (take k xs)) channels p →
    AppliesOne (transform_of x) p q → HaveCome (map transform_of (take (k + 1) xs)) channels q
come_next xs k x channels p q lt is h one =
    let more : map transform_of (take (k + 1) xs) ≡ map transform_of (take k xs) ++ transform_of x ∷ [] =
    ap (map transform_of) (take_more xs k x lt ∙ ap (λ (y : EncodeTransform). take k xs ++ y ∷ []) (sym is)) ∙ map_push transform_of (take k xs) x in
    subst (λ (ts : List Transform). HaveCome ts channels q) (sym more) (come_more (map transform_of (take k xs)) (transform_of x) channels p q h one)

-- all came
pub all_come : (xs : List EncodeTransform) (k : ℕ) (channels : List Channel) (p : PlacedChannels) → length xs ≤ k → HaveCome (map transform_of (take k xs)) channels p → HaveCome (map transform_of xs) channels p
all_come xs k channels p le h = subst (λ (ys : List EncodeTransform). HaveCome (map transform_of ys) channels p) (take_all k xs le) h

-- ---- the first that is refused

found : (xs : List EncodeTransform) (k : ℕ) (x : EncodeTransform) → k < length xs → x ≡ get_or xs k x → slice_get (map transform_of xs) k ≡ Some (transform_of x)
found [] k x lt is = absurd (omega (arith, lt))
found (y ∷ ys) zero x lt is = ap (λ (z : EncodeTransform). Some (transform_of z)) (sym is)
found (y ∷ ys) (suc k) x lt is = found ys k x (omega (arith, lt)) is

before_accepted : (xs : List EncodeTransform) (k : ℕ) (channels : List Channel) (p : PlacedChannels) → length xs ≤ 273 → (h : HaveCome (map transform_of (take k xs)) channels p) →
    AreAccepted (take k (map transform_of xs)) (listed channels) (record { steps = h.steps; list = list_of p.channels })
before_accepted xs k channels p few h =
    let same : take k (map transform_of xs) ≡ map transform_of (take k xs) = take-map transform_of k xs in
    let long = length-map xs transform_of in
    record {
      few = length_taken;
      written = subst (All IsWritten) (sym same) h.written;
      come = subst (λ (ts : List Transform). coded_list ts (listed channels) ≡ Ok (record { steps = h.steps; list = list_of p.channels })) (sym same) h.come;
    } where
      length_taken : length (take k (map transform_of xs)) ≤ 273
      length_taken = let long = length-map xs transform_of in shorter k (map transform_of xs) (omega (arith, long, few)) where
        shorter : (n : ℕ) (ts : List Transform) → length ts ≤ 273 → length (take n ts) ≤ 273
        shorter n ts h = let l = length_take_at_most n ts in omega (arith, l, h) where
          length_take_at_most : (n : ℕ) (ts : List Transform) → length (take n ts) ≤ length ts
          length_take_at_most zero ts = omega arith
          length_take_at_most (suc n) [] = omega arith
          length_take_at_most (suc n) (t ∷ ts) = let l = length_take_at_most n ts in omega (arith, l)

pub refused_at : (xs : List EncodeTransform) (k : ℕ) (x : EncodeTransform) (channels : List Channel) (p : PlacedChannels) → length xs ≤ 273 → k < length xs → x ≡ get_or xs k x → HaveCome (map transform_of (take k xs)) channels p →
    IsRefusedAfter (list_of p.channels) (transform_of x) → IsTransformRefused (map transform_of xs) (listed channels) k
refused_at xs k x channels p few lt is h refused =
    let long = length-map xs transform_of in
    inr (
      (omega (arith, long, few)),
      record {
        before = record { steps = h.steps; list = list_of p.channels };
        accepted = before_accepted xs k channels p few h;
        refused = inl (transform_of x, found xs k x lt is, refused);
      },
    )

-- too many channels are left
pub refused_after : (xs : List EncodeTransform) (k n : ℕ) (channels : List Channel) (p : PlacedChannels) → length xs ≤ 273 → n ≡ length xs → length xs ≤ k → HaveCome (map transform_of (take k xs)) channels p →
    65536 < length (list_of p.channels).channels → IsTransformRefused (map transform_of xs) (listed channels) n
refused_after xs k n channels p few is le h many =
    let long = length-map xs transform_of in
    let all : HaveCome (map transform_of (take n xs)) channels p = subst (λ (ys : List EncodeTransform). HaveCome (map transform_of ys) channels p) (sym (take_all n xs (omega (arith, is)))) (all_come xs k channels p le h) in
    inr (
      (omega (arith, long, few)),
      record {
        before = record { steps = all.steps; list = list_of p.channels };
        accepted = before_accepted xs n channels p few all;
        refused = inr (omega (arith, is, long), many);
      },
    )

-- ---- answers of calls

-- one transform alone was refused
pub refused_one : (t : Transform) (old : PlacedChannels) (k : ℕ) (start alone : List TransformInfo) (info : TransformInfo) (e : Error) (result : EncodeError) → start ≡ [] → alone ≡ start ++ info ∷ [] → transform_in info ≡ t →
    UnlessNoMemory (kind_of e) (coded_list (map transform_in alone) (list_of old.channels) ≡ Err (kind_of e)) → (result ≡ OutOfMemory) ⊎ ((result ≡ InvalidTransform k) × IsNotMemory (kind_of e)) → Refuses t old k result
refused_one t old k start alone info e result none one is refused (inl memory) = subst (Refuses t old k) (sym memory) tt
refused_one t old k start alone info e result none one is refused (inr other) =
    let all : map transform_in alone ≡ t ∷ [] = ap (map transform_in) (one ∙ ap (λ xs. xs ++ info ∷ []) none) ∙ ap (λ u. u ∷ []) is in
    let error : coded_list (t ∷ []) (list_of old.channels) ≡ Err (kind_of e) =
    subst (λ ts. coded_list ts (list_of old.channels) ≡ Err (kind_of e)) all (unless_own_so (kind_of e) (coded_list (map transform_in alone) (list_of old.channels) ≡ Err (kind_of e)) other.1 refused) in
    subst (Refuses t old k) (sym other.0) (refl, inr (kind_of e, error))

-- so the list is refused there
pub refused_by : (xs : List EncodeTransform) (k : ℕ) (x : EncodeTransform) (channels : List Channel) (p : PlacedChannels) → length xs ≤ 273 → k < length xs → x ≡ get_or xs k x → HaveCome (map transform_of (take k xs)) channels p →
    (e : EncodeError) → Refuses (transform_of x) p k e → AreRefused (map transform_of xs) channels e
refused_by xs k x channels p few lt is have (InvalidTransform n) h =
    subst (IsTransformRefused (map transform_of xs) (listed channels)) (sym h.0) (refused_at xs k x channels p few lt is have h.1)
refused_by xs k x channels p few lt is have InvalidTree h = absurd h
refused_by xs k x channels p few lt is have OutOfMemory h = tt
