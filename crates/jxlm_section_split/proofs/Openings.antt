-- The steps of an opening that was read: they lead to its coded channels, and each palette among them has a channel.
use Rattle.std.proofs.Common.{◌≡◌, ℕ, zero, suc, ◌≤◌, Bool, true, false, List, [], ◌∷◌, map, Result, Ok, Err, sym, ap, subst, arith}
use Rattle.std.specs.Prelude.{◌==◌, MatchBool}
use Rattle.std.specs.List.{All}
use Rattle.std.proofs.lemmas.List.Elements.{All-nil, All-cons, All-head, All-tail, All-append}
use Rattle.jxlm_bits.specs.ErrorKind.{ErrorKind}
use Rattle.jxlm_bits.specs.Grammar.{repeated, from_result}
use Rattle.jxlm_weighted.specs.declared.weights.WpHeader.{WpHeader}
use Rattle.jxlm_transform.specs.Channels.{ChannelList, tables_for}
use Rattle.jxlm_transform.specs.ChannelSteps.{CodedList, Step, RctStep, PaletteStep, SqueezeStep, coded_list, list_after_all, steps_of, steps_of_squeeze}
use Rattle.jxlm_transform.specs.Steps.{HasChannels}
use Rattle.jxlm_transform.specs.Transforms.{Transform, OfRct, OfPalette, OfSqueeze, palette_by, rct, squeeze, transform_by}
use Rattle.jxlm_transform.specs.Transforms as listed
use Rattle.jxlm_transform.specs.declared.param.PaletteTables.{PaletteTables}
use Rattle.jxlm_transform.specs.declared.transform.Palette.{Palette}
use Rattle.jxlm_transform.specs.declared.transform.SqueezeParams.{SqueezeParams}
use Rattle.jxlm_transform.proofs.SideBounds.{came}
use Rattle.jxlm_transform.proofs.StepLaws.{steps_list}
use Rattle.jxlm_header.specs.Header.{Header, header_by}
use Rattle.jxlm_header.specs.Opening.{Opening, conditions, opening, opening_of, resolve}
use Rattle.jxlm_header.proofs.HeaderLaws.{exact-opening}

-- ---- palettes as they are listed

either_of : {R P Q : Type 0} (b : Bool) → (P → R) → (Q → R) → MatchBool b P Q → R
either_of true f g h = f h
either_of false f g h = g h

palette_channels : (tables : PaletteTables) (weights : WpHeader) (bytes : List ℕ) (p : ℕ) (t : Palette) (q : ℕ) → (palette_by tables weights).Stands bytes p t q → 1 ≤ t.num_c
palette_channels tables weights bytes p t q s =
    let (begin, a, begins, after_begin) = s in
    let (channels, b, field, rest) = after_begin in
    let last = rest.3.3.3 in
    let is : t.num_c ≡ channels = ap (λ (t : Palette). t.num_c) last.0 in
    let (selector, m, number, chosen) = field in
    let some : 1 ≤ channels =
    either_of (selector == 0) (λ h. let e = h.0 in omega (arith, e))
    (either_of (selector == 1) (λ h. let e = h.0 in omega (arith, e))
    (either_of (selector == 2) (λ h. let e = h.0 in omega (arith, e))
    (λ h. let e = h.3.0 in omega (arith, e)))) chosen in
    omega (arith, is, some)

transform_channels : (tables : PaletteTables) (weights : WpHeader) (bytes : List ℕ) (p : ℕ) (t : Transform) (q : ℕ) → (transform_by tables weights).Stands bytes p t q → listed.HasChannels t
transform_channels tables weights bytes p t q s =
    let (kind, m, number, chosen) = s in
    either_of (kind == 0) (λ h. let is : t ≡ OfRct h.0 = h.3.0 in subst listed.HasChannels (sym is) tt)
    (either_of (kind == 1) (λ h. let is : t ≡ OfPalette h.0 = h.3.0 in subst listed.HasChannels (sym is) (palette_channels tables weights bytes m h.0 h.1 h.2))
    (either_of (kind == 2) (λ h. let is : t ≡ OfSqueeze h.0 = h.3.0 in subst listed.HasChannels (sym is) tt)
    (λ h. absurd h))) chosen

transforms_channels : (tables : PaletteTables) (weights : WpHeader) (n : ℕ) (bytes : List ℕ) (p : ℕ) (ts : List Transform) (q : ℕ) → (repeated n (transform_by tables weights)).Stands bytes p ts q → All listed.HasChannels ts
transforms_channels tables weights zero bytes p ts q s = subst (All listed.HasChannels) (sym s.0) (All-nil listed.HasChannels)
transforms_channels tables weights (suc n) bytes p ts q s =
    let (t, a, first, rest) = s in
    let (us, b, others, last) = rest in
    subst (All listed.HasChannels) (sym last.0)
    (All-cons listed.HasChannels t us (transform_channels tables weights bytes p t a first) (transforms_channels tables weights n bytes a us b others))

header_channels : (tables : PaletteTables) (bytes : List ℕ) (p : ℕ) (h : Header) (q : ℕ) → (header_by tables).Stands bytes p h q → All listed.HasChannels h.transform
header_channels tables bytes p h q s =
    let (global, a, first, after_flag) = s in
    let (weights, b, second, after_weights) = after_flag in
    let (count, c, third, rest) = after_weights in
    let (ts, d, fourth, last) = rest in
    let is : h.transform ≡ ts = ap (λ (h : Header). h.transform) last.0 in
    subst (All listed.HasChannels) (sym is) (transforms_channels tables weights count bytes c ts d fourth)

-- ---- and among the steps

same_ok : {X : Type 0} (x y : X) → ◌≡◌ {A = Result X ErrorKind} (Ok x) (Ok y) → x ≡ y
same_ok x y e = cc

squeezes : (steps : List SqueezeParams) → All HasChannels (map SqueezeStep steps)
squeezes [] = All-nil HasChannels
squeezes (s ∷ ss) = All-cons HasChannels (SqueezeStep s) (map SqueezeStep ss) tt (squeezes ss)

of_one : (t : Transform) (l : ChannelList) (ss : List Step) → listed.HasChannels t → steps_of t l ≡ Ok ss → All HasChannels ss
of_one (OfRct t) l ss p e = subst (All HasChannels) (same_ok _ ss e) (All-cons HasChannels (RctStep t) [] tt (All-nil HasChannels))
of_one (OfPalette t) l ss p e = subst (All HasChannels) (same_ok _ ss e) (All-cons HasChannels (PaletteStep t) [] p (All-nil HasChannels))
of_one (OfSqueeze steps) l ss p e =
    let (listed, found, mapped) = came (steps_of_squeeze steps l) (λ steps. Ok (map SqueezeStep steps)) ss e in
    subst (All HasChannels) (same_ok _ ss mapped) (squeezes listed)

of_all : (ts : List Transform) (l : ChannelList) (c : CodedList) → All listed.HasChannels ts → coded_list ts l ≡ Ok c → All HasChannels c.steps
of_all [] l c p e = subst (λ (x : CodedList). All HasChannels x.steps) (same_ok _ c e) (All-nil HasChannels)
of_all (t ∷ ts) l c p e =
    let (ss, steps, after_it) = came (steps_of t l) _ c e in
    let (m, list, rest) = came (list_after_all ss l) _ c after_it in
    let (others, all, last) = came (coded_list ts m) _ c rest in
    subst (λ (x : CodedList). All HasChannels x.steps) (same_ok _ c last)
    (All-append HasChannels ss others.steps (of_one t l ss (All-head listed.HasChannels t ts p) steps) (of_all ts m others (All-tail listed.HasChannels t ts p) all))

checked_is : {X : Type 0} (r : Result X ErrorKind) (bytes : List ℕ) (m : ℕ) (x : X) (q : ℕ) → (from_result r).Stands bytes m x q → r ≡ Ok x
checked_is (Ok y) bytes m x q s = ap Ok (sym s.0)
checked_is (Err e) bytes m x q s = absurd s

pub record StepsOf (given : ChannelList) (head : Opening) : Type 0 where
  pub leave : list_after_all head.coded.steps given ≡ Ok head.coded.list
  pub channels : All HasChannels head.coded.steps

pub opened_steps : (global : Bool) (given : ChannelList) (bytes : List ℕ) (p : ℕ) (head : Opening) (q : ℕ) → (opening global given).read bytes p ≡ Ok (record { value = head; position = q }) → StepsOf given head
opened_steps global given bytes p head q e =
    let (h, m, stands, comes) = (exact-opening global given).read_stands bytes p (record { value = head; position = q }) e in
    let all : resolve global given h ≡ Ok head = checked_is (resolve global given h) bytes m head q comes in
    let (coded, found, then) = came (coded_list h.transform given) _ head all in
    let (u, holds, last) = came (conditions global h coded.list) _ head then in
    let is : coded ≡ head.coded = ap (λ (o : Opening). o.coded) (same_ok (opening_of h coded) head last) in
    record {
      leave = subst (λ (c : CodedList). list_after_all c.steps given ≡ Ok c.list) is (steps_list h.transform given coded found);
      channels = subst (λ (c : CodedList). All HasChannels c.steps) is (of_all h.transform given coded (header_channels (tables_for given.channels) bytes p h m stands) found);
    }
