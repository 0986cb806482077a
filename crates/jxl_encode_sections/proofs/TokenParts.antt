-- Parts, and their tokens, one after another.
use Rattle.std.proofs.Common.{◌≡◌, ◌∙◌, ℕ, ◌+◌, ◌<◌, List, [], ◌∷◌, ◌++◌, length, get_or, map, take, sym, ap, subst}
use Rattle.std.specs.List.{All}
use Rattle.std.proofs.lemmas.Grind.{take_at_read}
use Rattle.std.proofs.lemmas.List.{map-append}
use Rattle.std.proofs.lemmas.List.Elements.{All-push}
use Rattle.jxlm_groups.specs.declared.part.SectionPart.{SectionPart}
use Rattle.jxl_encode_sections.specs.declared.parts.PartTokens.{PartTokens}

-- the part of the tokens
abbrev of : PartTokens → SectionPart
of p = p.part

-- one part more
pub one_more_part : (Have : PartTokens → Type 0) (all new : List PartTokens) (parts : List SectionPart) (i : ℕ) (d : SectionPart) (p : PartTokens) → i < length parts → p.part ≡ get_or parts i d →
    new ≡ all ++ p ∷ [] → map (λ (q : PartTokens). q.part) all ≡ take i parts → All Have all → Have p → (map (λ (q : PartTokens). q.part) new ≡ take (i + 1) parts) × All Have new
one_more_part Have all new parts i d p lt is pushed before have own = (
  ap (map of) pushed ∙ map-append of all (p ∷ []) ∙ ap (λ (xs : List SectionPart). xs ++ p.part ∷ []) before ∙ ap (λ (q : SectionPart). take i parts ++ q ∷ []) is ∙ sym (take_at_read parts i d lt).1,
  subst (All Have) (sym pushed) (All-push Have all p have own),
)
