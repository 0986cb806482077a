-- Applying transforms one after another, as a loop does.
use Rattle.std.proofs.Common.{◌≡◌, List, [], ◌∷◌, ◌++◌, Result, Ok, Err, refl, sym, ap, ◌∙◌, append_assoc}
use Rattle.std.proofs.lemmas.List.{append-nil}
use Rattle.jxlm_bits.specs.ErrorKind.{ErrorKind, ◌>>=◌}
use Rattle.jxlm_transform.specs.Channels.{ChannelList}
use Rattle.jxlm_transform.specs.ChannelSteps.{CodedList, Step, steps_of, listed_steps, list_after_all, coded_list}
use Rattle.jxlm_transform.specs.Transforms.{Transform}

-- the steps of the transforms before, and what is still to be applied
abbrev pub with_steps : List Step → Result CodedList ErrorKind → Result CodedList ErrorKind
with_steps front r = r >>= λ rest. Ok (record { steps = front ++ rest.steps; list = rest.list })

regroup : (front steps : List Step) (r : Result CodedList ErrorKind) → with_steps front (with_steps steps r) ≡ with_steps (front ++ steps) r
regroup front steps (Ok rest) = ap (λ (ss : List Step). Ok (record { steps = ss; list = rest.list })) (simp append_assoc)
regroup front steps (Err e) = refl

-- one more transform was applied
pub transform_applied : (front : List Step) (t listed : Transform) (ts : List Transform) (l m : ChannelList) (total : Result CodedList ErrorKind) → steps_of t l ≡ Ok (listed_steps listed) →
    list_after_all (listed_steps listed) l ≡ Ok m → with_steps front (coded_list (t ∷ ts) l) ≡ total → with_steps (front ++ listed_steps listed) (coded_list ts m) ≡ total
transform_applied front t listed ts l m total steps list so_far =
    let one : coded_list (t ∷ ts) l ≡ with_steps (listed_steps listed) (coded_list ts m) = rw (steps, list) refl in
    sym (regroup front (listed_steps listed) (coded_list ts m)) ∙ sym (ap (with_steps front) one) ∙ so_far

stays_error : {X Y Z : Type 0} (r : Result X ErrorKind) (g : X → Result Y ErrorKind) (h : X → Y → Result Z ErrorKind) (error : ErrorKind) → r >>= g ≡ Err error → (r >>= λ x. g x >>= h x) ≡ Err error
stays_error (Err e) g h error refused = cc
stays_error {Y} {Z} (Ok x) g h error refused = rw refused refl

-- a transform gave an error
pub transform_refused : (front : List Step) (t : Transform) (ts : List Transform) (l : ChannelList) (error : ErrorKind) (total : Result CodedList ErrorKind) →
    (steps_of t l >>= λ steps. list_after_all steps l) ≡ Err error → with_steps front (coded_list (t ∷ ts) l) ≡ total → total ≡ Err error
transform_refused front t ts l error total refused so_far =
    let one : coded_list (t ∷ ts) l ≡ Err error =
    stays_error (steps_of t l) (λ steps. list_after_all steps l) (λ steps m. with_steps steps (coded_list ts m)) error refused in
    sym so_far ∙ ap (with_steps front) one

-- all transforms were applied
pub all_applied : (front : List Step) (l : ChannelList) (total : Result CodedList ErrorKind) → with_steps front (coded_list [] l) ≡ total → total ≡ Ok (record { steps = front; list = l })
all_applied front l total so_far = sym so_far ∙ ap (λ (ss : List Step). Ok (record { steps = ss; list = l })) (append-nil front)
