use Rattle.std.proofs.Common.{◌∙◌, ap, ℕ, pos, map, length, get_or, FitsSigned, arith, cond, refl, ◌≡◌, int_le, List, [], ◌∷◌, w16, of_z, to_z, int_lt, ◌<◌, subst, sym}
use Rattle.std.proofs.lemmas.Simd.{Each1-from_get_or, Each1-get_or, get_or-replicate}
use Rattle.std.proofs.lemmas.List.{length-map, get_or-map}
use Rattle.jxlm_lanes.specs.Inner.Lanes.{lane}
use Rattle.jxlm_lanes.proofs.Each.{picked, picked_len, picked_at, none_of, either}
use Rattle.jxlm_lanes.proofs.lanes.none_below.Goals as goal

abbrev zeros : List ℕ
zeros = 0 ∷ 0 ∷ 0 ∷ 0 ∷ 0 ∷ 0 ∷ 0 ∷ 0 ∷ []

module _ (c : goal.Start) where
  abbrev chosen : List ℕ
  chosen = picked (map (of_z w16) c.args.a) (map (of_z w16) c.args.b) zeros (map (of_z w16) c.args.kept)

  chosen_len : length chosen ≡ 8
  chosen_len =
      let a = length-map c.args.a (of_z w16) in
      let b = length-map c.args.b (of_z w16) in
      let k = length-map c.args.kept (of_z w16) in
      let la = c.requires.a_len in
      let lb = c.requires.b_len in
      let lk = c.requires.kept_len in picked_len (map (of_z w16) c.args.a) (map (of_z w16) c.args.b) zeros (map (of_z w16) c.args.kept) (omega arith) (omega arith) refl (omega arith)

  value : (j : ℕ) → j < 8 → lane (map (to_z w16) chosen) j ≡ cond (int_le (lane c.args.b j) (lane c.args.a j)) (lane c.args.kept j) (pos 0)
  value j lt =
      let n = chosen_len in
      let lk = c.requires.kept_len in
      let k = length-map c.args.kept (of_z w16) in
      let t = int_lt (lane c.args.a j) (lane c.args.b j) in
      let fk : FitsSigned w16 (lane c.args.kept j) = Each1-get_or (FitsSigned w16) c.args.kept j (pos 0) (omega arith) c.requires.kept_fit in
      get_or-map (to_z w16) chosen j 0 (pos 0) (omega arith)
      ∙ ap (to_z w16) (picked_at c.args.a c.args.b zeros (map (of_z w16) c.args.kept) j c.requires.a_len c.requires.b_len refl (omega arith) c.requires.a_fit c.requires.b_fit lt)
      ∙ ap (λ z. to_z w16 (cond t z (get_or (map (of_z w16) c.args.kept) j 0))) (get_or-replicate 8 j 0 0 lt)
      ∙ ap (λ z. to_z w16 (cond t 0 z)) (get_or-map (of_z w16) c.args.kept j (pos 0) 0 (omega arith))
      ∙ none_of (lane c.args.a j) (lane c.args.b j) (lane c.args.kept j) fk

pub returns-clause-value : goal.returns-clause-value
returns-clause-value c j lt = value c j lt

pub returns-clause-len : goal.returns-clause-len
returns-clause-len c = length-map (chosen c) (to_z w16) ∙ chosen_len c

pub returns-clause-fit : goal.returns-clause-fit
returns-clause-fit c =
    let n = chosen_len c in
    let m = length-map (chosen c) (to_z w16) in
    let lk = c.requires.kept_len in
    Each1-from_get_or (FitsSigned w16) (map (to_z w16) (chosen c)) (pos 0) (λ i lt.
    let fk : FitsSigned w16 (lane c.args.kept i) = Each1-get_or (FitsSigned w16) c.args.kept i (pos 0) (omega arith) c.requires.kept_fit in
    subst (FitsSigned w16) (sym (value c i (omega arith))) (either (int_le (lane c.args.b i) (lane c.args.a i)) (lane c.args.kept i) fk))
