-- One token more is counted.
use Rattle.std.proofs.Common.{◌≡◌, ℕ, ◌+◌, ◌<◌, ◌≤◌, ◌⊎◌, List, length, get_or, ap, subst, ◌∙◌, inl, inr, arith}
use Rattle.std.specs.Prelude.{slice_index}
use Rattle.std.proofs.lemmas.Bool.{cases_lt}
use Rattle.std.proofs.lemmas.List.{get_or_default}
use Rattle.jxl_coding_codes.specs.declared.config.IntegerConfig.{IntegerConfig}
use Rattle.jxl_coding_write.specs.HybridIntegers.{symbol_of, symbol_count}
use Rattle.jxlm_bit_writer.specs.declared.token.Token.{Token}
use Rattle.jxl_coding_build.specs.Histograms.{AllOccur, HasSymbol, HaveSymbols}

more_than : (a b : ℕ) → 0 < a → a ≤ b → 0 < b
more_than a b some le = omega (arith, some, le)

pub occur_next : (config : IntegerConfig) (cluster : ℕ) (tokens : List Token) (i : ℕ) (d0 : Token) (old new : List ℕ) → i < length tokens → AllOccur config cluster tokens i old →
    ((get_or tokens i d0).cluster ≡ cluster → 0 < slice_index new (symbol_of config (get_or tokens i d0).value)) → ((s : ℕ) → slice_index old s ≤ slice_index new s) → AllOccur config cluster tokens (i + 1) new
occur_next config cluster tokens i d0 old new inside before own keeps k d lt e =
    elim (cases_lt k i) [
      | inl below ↦ more_than (slice_index old (symbol_of config (get_or tokens k d).value)) (slice_index new (symbol_of config (get_or tokens k d).value)) (before k d below e) (keeps (symbol_of config (get_or tokens k d).value))
      | inr above ↦
          let same : i ≡ k = omega (arith, above, lt) in
          let t : get_or tokens i d0 ≡ get_or tokens k d = get_or_default tokens i d0 d inside ∙ ap (λ (n : ℕ). get_or tokens n d) same in
          subst (λ (x : Token). 0 < slice_index new (symbol_of config x.value)) t (own (ap (λ (x : Token). x.cluster) t ∙ e))
    ]

-- what holds of all tokens holds of one
pub item_fits : (config : IntegerConfig) (cluster : ℕ) (tokens : List Token) (i : ℕ) (d : Token) → i < length tokens → HaveSymbols config cluster tokens → (symbol_count config ≤ 256) ⊎ HasSymbol config cluster (get_or tokens i d)
item_fits config cluster tokens i d lt (inl few) = inl few
item_fits config cluster tokens i d lt (inr all) = inr (all i d lt)
