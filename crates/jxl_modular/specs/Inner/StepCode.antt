-- A code for steps, by which a proof distinguishes them.
use Rattle.std.specs.Prelude.{◌≡◌, ◌⊎◌, refl}
use Rattle.std.proofs.Common.{inl, inr}
use Rattle.std.specs.Coded.{Coded, code_by, coded⊎}
use Rattle.jxlm_transform.specs.ChannelSteps.{Step, RctStep, PaletteStep, SqueezeStep}
use Rattle.jxlm_transform.specs.declared.transform.Rct.{Rct}
use Rattle.jxlm_transform.specs.declared.transform.Palette.{Palette}
use Rattle.jxlm_transform.specs.declared.transform.SqueezeParams.{SqueezeParams}

abbrev kinds : Step → Rct ⊎ (Palette ⊎ SqueezeParams)
kinds (RctStep t) = inl t
kinds (PaletteStep t) = inr (inl t)
kinds (SqueezeStep t) = inr (inr t)

abbrev of_kind : Rct ⊎ (Palette ⊎ SqueezeParams) → Step
of_kind (inl t) = RctStep t
of_kind (inr (inl t)) = PaletteStep t
of_kind (inr (inr t)) = SqueezeStep t

pub of_kinds : (s : Step) → of_kind (kinds s) ≡ s
of_kinds (RctStep t) = refl
of_kinds (PaletteStep t) = refl
of_kinds (SqueezeStep t) = refl

abbrev pub step_code : Coded Rct → Coded Palette → Coded SqueezeParams → Coded Step
step_code c p s = code_by (Rct ⊎ (Palette ⊎ SqueezeParams)) (coded⊎ c (coded⊎ p s)) kinds of_kind of_kinds
