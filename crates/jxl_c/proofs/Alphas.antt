-- The first alpha channel, from channel k on.
use Rattle.std.proofs.Common.{◌≡◌, ℕ, zero, suc, ◌+◌, ◌<◌, ◌≤◌, List, [], ◌∷◌, length, get_or, drop, Bool, true, false, cond, refl, ap, ◌∙◌, arith}
use Rattle.std.proofs.lemmas.List.{drop_all}
use Rattle.jxl_image_header.specs.declared.channel.ExtraChannel.{ExtraChannel}
use Rattle.jxl_picture.specs.Pictures.{is_full_alpha}
use Rattle.jxl_c.specs.Infos.{alpha_among}

alpha_next : (m : ℕ) (cs : List ExtraChannel) (k : ℕ) (d : ExtraChannel) → k < length cs → alpha_among m (drop k cs) ≡ cond (is_full_alpha (get_or cs k d)) m (alpha_among (m + 1) (drop (suc k) cs))
alpha_next m [] k d less = absurd (omega (arith, less))
alpha_next m (c ∷ cs) zero d less = refl
alpha_next m (c ∷ cs) (suc k) d less = alpha_next m cs k d (omega (arith, less))

-- it is this channel
pub alpha_here : (n : ℕ) (cs : List ExtraChannel) (k : ℕ) (d : ExtraChannel) → k < length cs → is_full_alpha (get_or cs k d) ≡ true → alpha_among (n + k) (drop k cs) ≡ n + k
alpha_here n cs k d less is = alpha_next (n + k) cs k d less ∙ ap (λ (b : Bool). cond b (n + k) (alpha_among (n + k + 1) (drop (suc k) cs))) is

-- or a later one
pub alpha_later : (n : ℕ) (cs : List ExtraChannel) (k : ℕ) (d : ExtraChannel) → k < length cs → is_full_alpha (get_or cs k d) ≡ false → alpha_among (n + k) (drop k cs) ≡ alpha_among (n + (k + 1)) (drop (k + 1) cs)
alpha_later n cs k d less is =
    let same : n + k + 1 ≡ n + (k + 1) = omega arith in
    let next : suc k ≡ k + 1 = omega arith in
    alpha_next (n + k) cs k d less ∙ ap (λ (b : Bool). cond b (n + k) (alpha_among (n + k + 1) (drop (suc k) cs))) is
    ∙ ap (λ (m : ℕ). alpha_among m (drop (suc k) cs)) same ∙ ap (λ (j : ℕ). alpha_among (n + (k + 1)) (drop j cs)) next

-- or there is none
pub alpha_none : (n : ℕ) (cs : List ExtraChannel) (k : ℕ) → length cs ≤ k → alpha_among (n + k) (drop k cs) ≡ 0
alpha_none n cs k le = ap (alpha_among (n + k)) (drop_all k cs le)
