-- Channels in buffers of their own, one by one.
use Rattle.std.proofs.Common.{◌≡◌, ℕ, suc, ◌+◌, ◌<◌, List, [], ◌∷◌, ◌++◌, length, take, get_or, refl, ap, ◌∙◌, arith}
use Rattle.std.proofs.lemmas.List.{take_more}
use Rattle.jxlm_base.specs.Regions.{region}
use Rattle.jxlm_base.specs.declared.subgrid.Region.{Region}
use Rattle.jxlm_transform.specs.Channels.{Channel}
use Rattle.jxlm_transform.specs.Layout.{whole_regions}

-- one for each
pub length-whole : (b : ℕ) (cs : List Channel) → length (whole_regions b cs) ≡ length cs
length-whole b [] = refl
length-whole b (c ∷ cs) = ap suc (length-whole (suc b) cs)

-- one more
whole-push : (b : ℕ) (cs : List Channel) (c : Channel) (n : ℕ) → n ≡ b + length cs → whole_regions b (cs ++ c ∷ []) ≡ whole_regions b cs ++ region n 0 0 c.width c.height ∷ []
whole-push b [] c n e = let same : b ≡ n = omega arith in ap (λ (k : ℕ). region k 0 0 c.width c.height ∷ []) same
whole-push b (d ∷ cs) c n e = ap (λ (rs : List Region). region b 0 0 d.width d.height ∷ rs) (whole-push (suc b) cs c n (omega arith))

-- the next channel of a list that a program keeps
pub whole-next : (xs : List Channel) (i : ℕ) (d : Channel) (rs : List Region) (n : ℕ) → i < length xs → n ≡ length rs → rs ≡ whole_regions 0 (take i xs) →
    rs ++ region n 0 0 (get_or xs i d).width (get_or xs i d).height ∷ [] ≡ whole_regions 0 (take (i + 1) xs)
whole-next xs i d rs n h len made =
    let x : Channel = get_or xs i d in
    let cs : List Channel = take i xs in
    let size : n ≡ 0 + length cs = len ∙ ap length made ∙ length-whole 0 cs ∙ omega arith in
    rw (take_more xs i d h, whole-push 0 cs x n size, ← made) refl
