-- A list of channels from one of them on.
use Rattle.std.proofs.Common.{◌≡◌, ◌∙◌, ℕ, ◌+◌, ◌<◌, List, ◌∷◌, length, drop, map, sym, ap, subst}
use Rattle.std.specs.Prelude.{get_or}
use Rattle.std.proofs.lemmas.List.{drop_more, get_or-map, length-map}
use Rattle.jxlm_transform.specs.Channels.{Channel, infos, regions}
use Rattle.jxlm_transform.specs.declared.channels.PlacedChannel.{PlacedChannel}

pub drop_at : (cs : List Channel) (n : ℕ) (c : Channel) → n < length cs → ((d : Channel) → c ≡ get_or cs n d) → drop n cs ≡ c ∷ drop (n + 1) cs
drop_at cs n c lt is = drop_more cs n c lt ∙ ap (λ x. x ∷ drop (n + 1) cs) (sym (is c))

-- places of a list of placed channels, and those of its parts
pub at_place : (xs : List PlacedChannel) (n : ℕ) → n < length (infos xs) → n < length xs
at_place xs n lt = subst (λ m. n < m) (length-map xs (λ p. p.info)) lt

pub in_infos : {Y : Type 0} (part : PlacedChannel → Y) (xs : List PlacedChannel) (n : ℕ) → n < length xs → n < length (map part xs)
in_infos part xs n lt = subst (λ m. n < m) (sym (length-map xs part)) lt

pub info_is : (xs : List PlacedChannel) (n : ℕ) (p : PlacedChannel) → n < length xs → p ≡ get_or xs n p → get_or (infos xs) n p.info ≡ p.info
info_is xs n p lt is = get_or-map (λ q. q.info) xs n p p.info lt ∙ ap (λ (q : PlacedChannel). q.info) (sym is)

pub region_is : (xs : List PlacedChannel) (n : ℕ) (p : PlacedChannel) → n < length xs → p ≡ get_or xs n p → get_or (regions xs) n p.region ≡ p.region
region_is xs n p lt is = get_or-map (λ q. q.region) xs n p p.region lt ∙ ap (λ (q : PlacedChannel). q.region) (sym is)
