-- Transforms after others: they come to the steps of both, and their chains are one.
use Rattle.std.proofs.Common.{◌≡◌, ◌≤◌, ℕ, ℤ, List, [], ◌∷◌, ◌++◌, length, Result, Ok, refl, sym, ap, ◌∙◌, subst}
use Rattle.std.specs.Int.{Width}
use Rattle.std.specs.List.{All}
use Rattle.std.proofs.lemmas.List.{append_assoc}
use Rattle.std.proofs.lemmas.List.Elements.{All-append}
use Rattle.jxlm_bits.specs.ErrorKind.{ErrorKind}
use Rattle.jxlm_base.specs.Grid.{Grid}
use Rattle.jxlm_chain.specs.Chain.{Chain}
use Rattle.jxlm_chain.specs.declared.placed.PlacedChannels.{PlacedChannels}
use Rattle.jxlm_transform.specs.Channels.{ChannelList}
use Rattle.jxlm_transform.specs.ChannelSteps.{CodedList, Step, coded_list, list_after_all, steps_of}
use Rattle.jxlm_transform.specs.Lists.{list_of}
use Rattle.jxlm_transform.specs.Transforms.{Transform}
use Rattle.jxlm_transform.specs.declared.channels.ModularChannels.{ModularChannels}
use Rattle.jxlm_transform.proofs.SideBounds.{came}
use Rattle.jxlm_transform.proofs.StepFacts.{first_step, same_ok}
use Rattle.jxlm_transform.proofs.StepLaws.{steps_list}
use Rattle.jxl_encode_image.specs.Images.{IsCodedImage, LieCoded, samples_in}
use Rattle.jxl_encode_image.specs.Preparations.{IsSpelled}
use Rattle.jxl_encode_image.specs.Inner.Placing.{IsPlacedFor}

pub same_coded : (x y : CodedList) → ◌≡◌ {A = Result CodedList ErrorKind} (Ok x) (Ok y) → x ≡ y
same_coded x y e = cc

-- steps after others
chain_on : (w : Width) (depth : ℕ) (ss us : List Step) (l m : ChannelList) (image coded next : List (Grid ℤ)) → list_after_all ss l ≡ Ok m → Chain w depth ss l image coded → Chain w depth us m coded next → Chain w depth (ss ++ us) l image next
chain_on w depth [] us l m image coded next e c d =
    subst (λ (k : ChannelList). Chain w depth us k image next) (sym (same_ok l m e)) (subst (λ (gs : List (Grid ℤ)). Chain w depth us m gs next) c.1 d)
chain_on w depth (s ∷ ss) us l m image coded next e c d =
    let (grids, n, between, first, codes, rest) = c in
    let (k, found, others) = first_step s ss l m e in
    let same : k ≡ n = same_ok k n (sym found ∙ first) in
    (grids, n, between, first, codes, chain_on w depth ss us n m between coded next (subst (λ (x : ChannelList). list_after_all ss x ≡ Ok m) same others) rest d)

-- transforms after others
coded_on : (ts us : List Transform) (l : ChannelList) (c d : CodedList) → coded_list ts l ≡ Ok c → coded_list us c.list ≡ Ok d → coded_list (ts ++ us) l ≡ Ok (record { steps = c.steps ++ d.steps; list = d.list })
coded_on [] us l c d e f =
    let same = same_coded (record { steps = []; list = l }) c e in
    subst (λ (x : CodedList). coded_list us l ≡ Ok (record { steps = x.steps ++ d.steps; list = d.list })) same (subst (λ (x : CodedList). coded_list us x.list ≡ Ok d) (sym same) f)
coded_on (t ∷ ts) us l c d e f =
    let (ss, steps, after_it) = came (steps_of t l) _ c e in
    let (m, list, rest) = came (list_after_all ss l) _ c after_it in
    let (others, all, last) = came (coded_list ts m) _ c rest in
    let same = same_coded (record { steps = ss ++ others.steps; list = others.list }) c last in
    let more = coded_on ts us m others d all (subst (λ (x : CodedList). coded_list us x.list ≡ Ok d) (sym same) f) in
    rw (steps, list, more) (ap (λ (xs : List Step). Ok (record { steps = xs; list = d.list })) (sym (append_assoc ss others.steps d.steps) ∙ ap (λ (x : CodedList). x.steps ++ d.steps) same))

-- an image that was coded goes on to samples that transforms make of its own
module _ {S : Type 0} (to_int : S → ℤ) (w : Width) (given : ChannelList) (image : List (Grid ℤ)) (ts us : List Transform) (old : ModularChannels) (store : List (Grid S)) (coded : IsCodedImage to_int w ts given image old store)
    (spelled : All IsSpelled us) (few : length (ts ++ us) ≤ 273) (p : PlacedChannels) (placed : IsPlacedFor us old p) (next : List (Grid S)) (lie : LieCoded p.channels next)
    (chain : (depth : ℕ) → Chain w depth placed.steps (list_of old) (samples_in to_int old store) (samples_in to_int p.channels next)) where
  come : coded_list ts given ≡ Ok coded.ready.coded
  come = subst (λ (us : List Transform). coded_list us given ≡ Ok coded.ready.coded) coded.transforms_are coded.ready.accepted.come

  leaves : list_after_all coded.ready.coded.steps given ≡ Ok (list_of old)
  leaves = subst (λ (m : ChannelList). list_after_all coded.ready.coded.steps given ≡ Ok m) coded.list_is (steps_list ts given coded.ready.coded come)

  own : (depth : ℕ) → Chain w depth coded.ready.coded.steps given image (samples_in to_int old store)
  own depth = subst (λ (gs : List (Grid ℤ)). Chain w depth coded.ready.coded.steps given image gs) coded.samples_are (coded.ready.chain depth)

  pub goes_on : IsCodedImage to_int w (ts ++ us) given image p.channels next
  goes_on = record {
    ready = record {
      transforms = ts ++ us;
      coded = record { steps = coded.ready.coded.steps ++ placed.steps; list = list_of p.channels };
      accepted = record {
        few = few;
        spelled = All-append IsSpelled ts us (subst (All IsSpelled) coded.transforms_are coded.ready.accepted.spelled) spelled;
        come = coded_on ts us given coded.ready.coded (record { steps = placed.steps; list = list_of p.channels }) come
            (subst (λ (m : ChannelList). coded_list us m ≡ Ok (record { steps = placed.steps; list = list_of p.channels })) (sym coded.list_is) placed.come);
      };
      count = placed.count;
      samples = samples_in to_int p.channels next;
      chain = λ depth. chain_on w depth coded.ready.coded.steps placed.steps given (list_of old) image (samples_in to_int old store) (samples_in to_int p.channels next) leaves (own depth) (chain depth);
    };
    transforms_are = refl;
    list_is = refl;
    samples_are = refl;
    lie = lie;
  }
