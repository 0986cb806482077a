-- The samples that transforms make have the sides of the coded channels.
use Rattle.std.proofs.Common.{◌≡◌, ℕ, ℤ, List, [], ◌∷◌, Result, Ok, refl, sym, ◌∙◌, subst}
use Rattle.std.specs.Int.{Width}
use Rattle.jxlm_bits.specs.ErrorKind.{ErrorKind}
use Rattle.jxlm_base.specs.Grid.{Grid}
use Rattle.jxlm_chain.specs.Chain.{Chain}
use Rattle.jxlm_transform.specs.Channels.{AreGridsOf, ChannelList}
use Rattle.jxlm_transform.specs.ChannelSteps.{Step, list_after_all}
use Rattle.jxlm_transform.proofs.StepLaws.{steps_list}
use Rattle.jxl_encode_image.specs.Preparations.{Preparation}

same_list : (x y : ChannelList) → ◌≡◌ {A = Result ChannelList ErrorKind} (Ok x) (Ok y) → x ≡ y
same_list x y e = cc

-- the list that a chain ends with
last_list : (w : Width) (depth : ℕ) (steps : List Step) (l : ChannelList) (image coded : List (Grid ℤ)) → Chain w depth steps l image coded → (m : ChannelList) × (list_after_all steps l ≡ Ok m) × AreGridsOf m.channels coded
last_list w depth [] l image coded h = (l, refl, subst (AreGridsOf l.channels) (sym h.1) h.0)
last_list w depth (s ∷ steps) l image coded h =
    let rest = last_list w depth steps h.1 h.2 coded h.5 in
    (rest.0, rw h.3 rest.1, rest.2)

pub prepared_sides : (w : Width) (given : ChannelList) (image : List (Grid ℤ)) (r : Preparation w given image) → AreGridsOf r.coded.list.channels r.samples
prepared_sides w given image r =
    let last = last_list w 0 r.coded.steps given image r.samples (r.chain 0) in
    let is : last.0 ≡ r.coded.list = same_list last.0 r.coded.list (sym last.1 ∙ steps_list r.transforms given r.coded r.accepted.come) in
    subst (λ (l : ChannelList). AreGridsOf l.channels r.samples) is last.2
