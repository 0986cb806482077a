-- Extra channels that a caller describes, one after another.
use Rattle.std.proofs.Common.{◌≡◌, ℕ, ◌+◌, ◌<◌, ◌≤◌, List, [], ◌∷◌, ◌++◌, length, take, get_or, sym, ap, ◌∙◌, subst}
use Rattle.std.specs.List.{AllZip}
use Rattle.std.proofs.lemmas.List.{take_all, take_more}
use Rattle.jxl_image_header.specs.declared.channel.ExtraChannel.{ExtraChannel}
use Rattle.jxl_picture.proofs.Orienting.{one_more_oriented}
use Rattle.jxl_c_picture.specs.Described.{IsExtraOf}
use Rattle.jxl_c_picture.specs.declared.channels.CChannel.{CChannel}

pub one_more_extra : (cs : List CChannel) (es after : List ExtraChannel) (i : ℕ) (d c : CChannel) (e : ExtraChannel) → i < length cs → c ≡ get_or cs i d → IsExtraOf c e → AllZip IsExtraOf (take i cs) es →
    after ≡ es ++ e ∷ [] → AllZip IsExtraOf (take (i + 1) cs) after
one_more_extra cs es after i d c e less is names so_far pushed =
    let more : take (i + 1) cs ≡ take i cs ++ c ∷ [] = take_more cs i d less ∙ ap (λ (x : CChannel). take i cs ++ x ∷ []) (sym is) in
    let all : AllZip IsExtraOf (take i cs ++ c ∷ []) (es ++ e ∷ []) = one_more_oriented IsExtraOf (take i cs) es c e so_far names in
    let moved : AllZip IsExtraOf (take (i + 1) cs) (es ++ e ∷ []) = subst (λ (l : List CChannel). AllZip IsExtraOf l (es ++ e ∷ [])) (sym more) all in
    subst (λ (l : List ExtraChannel). AllZip IsExtraOf (take (i + 1) cs) l) (sym pushed) moved

pub all_extra : (cs : List CChannel) (es : List ExtraChannel) (i : ℕ) → length cs ≤ i → AllZip IsExtraOf (take i cs) es → AllZip IsExtraOf cs es
all_extra cs es i le so_far = subst (λ (l : List CChannel). AllZip IsExtraOf l es) (take_all i cs le) so_far
