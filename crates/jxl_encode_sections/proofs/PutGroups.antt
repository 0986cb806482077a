-- The sections of groups, put into their places one after another.
use Rattle.std.proofs.Common.{◌≡◌, ◌≢◌, ◌⊎◌, ◌∙◌, inl, inr, ℕ, ◌+◌, ◌<◌, List, length, get_or, take, Contains, Some, refl, sym, ap, subst, arith}
use Rattle.std.specs.Global.{Vec}
use Rattle.std.specs.List.{All}
use Rattle.std.proofs.lemmas.Bool.{cases_lt}
use Rattle.std.proofs.lemmas.List.Elements.{All-more, All-weaker}
use Rattle.jxlm_groups.specs.declared.part.SectionPart.{SectionPart}
use Rattle.jxlm_groups.specs.declared.part.SectionPart.TheVariants as parts
use Rattle.jxl_codestream.specs.Layouts.{Layout, stream_index}
use Rattle.jxl_coding.specs.Symbols.{Codes}
use Rattle.jxl_encode_frame.specs.Numbers.{section_among}
use Rattle.jxl_encode_sections.specs.Inner.Groups.{HasSection, IsGroupOf}
use Rattle.jxl_encode_sections.specs.declared.parts.PartTokens.{PartTokens}

same_number : (m n : ℕ) → (m ≡ n) ⊎ (m ≢ n)
same_number m n = elim (cases_lt m n) [
  | inl lt ↦ inr (λ e. omega (arith, lt, e))
  | inr ge ↦ elim (cases_lt n m) [ inl lt ↦ inr (λ e. omega (arith, lt, e)) | inr le ↦ inl (omega (arith, ge, le)) ]
]

-- two parts are the same, or not
part_cases : (a b : SectionPart) → (a ≡ b) ⊎ (a ≢ b)
part_cases parts.Global parts.Global = inl refl
part_cases parts.Global (parts.Lf k) = inr (λ e. cc)
part_cases parts.Global (parts.Pass p k) = inr (λ e. cc)
part_cases (parts.Lf j) parts.Global = inr (λ e. cc)
part_cases (parts.Lf j) (parts.Lf k) = elim (same_number j k) [ inl e ↦ inl (ap parts.Lf e) | inr ne ↦ inr (λ e. ne cc) ]
part_cases (parts.Lf j) (parts.Pass p k) = inr (λ e. cc)
part_cases (parts.Pass q j) parts.Global = inr (λ e. cc)
part_cases (parts.Pass q j) (parts.Lf k) = inr (λ e. cc)
part_cases (parts.Pass q j) (parts.Pass p k) =
    elim (same_number q p) [
      | inl e ↦ elim (same_number j k) [ inl f ↦ inl (ap (λ n. parts.Pass n j) e ∙ ap (parts.Pass p) f) | inr ne ↦ inr (λ e. ne cc) ]
      | inr ne ↦ inr (λ e. ne cc)
    ]

module _ (codes : Codes) (l : Layout) (groups : List PartTokens) where
  -- one more section was put into its place
  pub one_more : (group : PartTokens) (old new : List (Vec ℕ)) (part : SectionPart) → Contains groups group → IsGroupOf codes l group old new → HasSection codes l groups old part → HasSection codes l groups new part
  one_more group old new part among put has =
      elim (part_cases part group.part) [
        | inl same ↦ record { own = group; among = among; is = sym same; bytes = put.bytes; found = subst (λ (q : SectionPart). section_among l new q ≡ Some (put.bytes, stream_index l q)) (sym same) put.found; end = put.end; samples = put.samples }
        | inr other ↦ record { own = has.own; among = has.among; is = has.is; bytes = has.bytes; found = put.others part other ∙ has.found; end = has.end; samples = has.samples }
      ]

  -- and it is there
  pub just_put : (group : PartTokens) (old new : List (Vec ℕ)) → Contains groups group → IsGroupOf codes l group old new → HasSection codes l groups new group.part
  just_put group old new among put = record { own = group; among = among; is = refl; bytes = put.bytes; found = put.found; end = put.end; samples = put.samples }

  -- so are those before it
  pub all_put : (i : ℕ) (group : PartTokens) (old new : List (Vec ℕ)) → i < length groups → group ≡ get_or groups i group → IsGroupOf codes l group old new →
      All (λ (p : PartTokens). HasSection codes l groups old p.part) (take i groups) → All (λ (p : PartTokens). HasSection codes l groups new p.part) (take (i + 1) groups)
  all_put i group old new lt at put before =
      let among : Contains groups group = (i, lt, sym at) in
      All-more (λ (p : PartTokens). HasSection codes l groups new p.part) groups i group lt
      (All-weaker (λ (p : PartTokens). HasSection codes l groups old p.part) (λ (p : PartTokens). HasSection codes l groups new p.part) (λ p has. one_more group old new p.part among put has) (take i groups) before)
      (subst (λ (p : PartTokens). HasSection codes l groups new p.part) at (just_put group old new among put))
