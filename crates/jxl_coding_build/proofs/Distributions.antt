-- Distributions that a head can signal.
use Rattle.std.proofs.Common.{◌≡◌, ℕ, zero, suc, ◌+◌, ◌-◌, ◌<◌, ◌≤◌, ◌⊎◌, List, [], ◌∷◌, length, get_or, replicate, Bool, true, false, cond, Option, Some, None, refl, sym, ap, subst, ◌∙◌, inl, inr, arith}
use Rattle.std.specs.Prelude.{◌==◌, slice_index, slice_set}
use Rattle.std.specs.List.{All, sum}
use Rattle.std.proofs.lemmas.Bool.{true≢false, cases_lt, eq-eqb}
use Rattle.std.proofs.lemmas.List.{get_or_past}
use Rattle.std.proofs.lemmas.List.Sums.{get_or-le-sum_by}
use Rattle.jxl_coding_codes.specs.Alias.{only_from}
use Rattle.jxl_coding_codes.specs.Distributions.{whole, one_symbol}
use Rattle.jxl_coding_codes.specs.declared.config.IntegerConfig.{IntegerConfig}
use Rattle.jxl_coding_stream_write.specs.Heads.{FitsConfig, FitsCounts, FitsCluster}
use Rattle.jxl_coding_stream_write.specs.declared.cluster.ClusterWriter.{ClusterWriter}
use Rattle.jxl_coding_stream_write.proofs.OnlySymbols.{only_is}

-- an only symbol

-- a symbol below 256, since those of all numbers are, or since this one is where the clusters are the same
pub below_count : (s n v : ℕ) (Same : Type 0) → s < n → s ≡ v → (n ≤ 256) ⊎ (Same → v < 256) → Same → s + 1 ≤ 256
below_count s n v Same few is (inl most) same = omega (arith, few, most)
below_count s n v Same few is (inr lt) same = let l = lt same in omega (arith, is, l)

pub only_small : (o : Option ℕ) (counts : List ℕ) (symbol : ℕ) → o ≡ only_from 0 counts → o ≡ Some symbol → length counts ≤ 256 → symbol < 256
only_small o counts symbol is some few =
    let h = only_is 0 counts symbol (sym is ∙ some) in
    elim (cases_lt symbol (length counts)) [
      | inl lt ↦ omega (arith, lt, few)
      | inr ge ↦
          let z : symbol - 0 ≡ symbol = omega arith in
          let n : slice_index counts symbol ≡ 0 = get_or_past counts symbol 0 ge in
          let w : slice_index counts symbol ≡ 4096 = subst (λ (k : ℕ). slice_index counts k ≡ 4096) z h.1 in
          absurd (omega (arith, n, w))
    ]

plus_suc : (j t : ℕ) → j + 1 + t ≡ j + suc t
plus_suc j t = omega arith

plus_zero : (j : ℕ) → j ≡ j + 0
plus_zero j = omega arith

some : ℕ → Option ℕ
some x = Some x

only_last : (s j : ℕ) → only_from j (slice_set (replicate (suc s) 0) s 4096) ≡ Some (j + s)
only_last zero j = ap (λ (x : ℕ). Some x) (plus_zero j)
only_last (suc t) j = only_last t (j + 1) ∙ ap (λ (x : ℕ). Some x) (plus_suc j t)

one_more : (s : ℕ) → s + 1 ≡ suc s
one_more s = omega arith

one_is : (s : ℕ) → only_from 0 (one_symbol s) ≡ Some s
one_is s =
    let z : 0 + s ≡ s = omega arith in
    ap (λ (n : ℕ). only_from 0 (slice_set (replicate n 0) s 4096)) (one_more s) ∙ only_last s 0 ∙ ap (λ (x : ℕ). Some x) z

pub one_fits : (counts : List ℕ) (symbol : ℕ) → counts ≡ one_symbol symbol → symbol < 256 → FitsCounts (only_from 0 counts) counts
one_fits counts symbol e lt = subst (λ (o : Option ℕ). FitsCounts o counts) (sym (ap (λ (xs : List ℕ). only_from 0 xs) e ∙ one_is symbol)) (lt, e)

-- no only symbol

never : (counts : List ℕ) (j : ℕ) → only_from j counts ≡ None → (k d : ℕ) → k < length counts → get_or counts k d ≡ 4096 → ⊥
never [] j e k d lt h = omega (arith, lt)
never (c ∷ cs) j e zero d lt h = by (c == whole) refl e
  where
    by : (b : Bool) → (c == whole) ≡ b → cond b (Some j) (only_from (j + 1) cs) ≡ None → ⊥
    by true t n = cc
    by false t n = true≢false (sym (eq-eqb c whole h) ∙ t)
never (c ∷ cs) j e (suc k) d lt h = by (c == whole) (λ n. never cs (j + 1) n k d (omega (arith, lt)) h) e
  where
    by : (b : Bool) → (only_from (j + 1) cs ≡ None → ⊥) → cond b (Some j) (only_from (j + 1) cs) ≡ None → ⊥
    by true further n = cc
    by false further n = further n

pub many_fit : (o : Option ℕ) (counts : List ℕ) → o ≡ only_from 0 counts → o ≡ None → 3 ≤ length counts → sum counts ≡ 4096 → FitsCounts (only_from 0 counts) counts
many_fit o counts is none many total = subst (λ (x : Option ℕ). FitsCounts x counts) (sym (sym is ∙ none)) (many, small)
  where
    small : All (λ c. c < 4096) counts
    small k d lt =
        let m : get_or counts k d ≤ sum counts = get_or-le-sum_by (λ (x : ℕ). x) counts k d lt in
        elim (cases_lt (get_or counts k d) 4096) [
          | inl below ↦ below
          | inr above ↦ absurd (never counts 0 (sym is ∙ none) k d lt (omega (arith, m, above, total)))
        ]

-- a configuration

pub code_fits : (code : ClusterWriter) (config : IntegerConfig) (counts : List ℕ) → code.config ≡ config → code.slots.counts.items ≡ counts → config.split_exponent < 8 →
    FitsCounts (only_from 0 counts) counts → FitsCluster 8 code
code_fits code config counts e f lt fits =
    record {
      rule = subst (λ (h : IntegerConfig). FitsConfig 8 h) (sym e) (omega (arith, lt), λ same. absurd (omega (arith, lt, same)));
      counts =
          subst (λ (o : Option ℕ). FitsCounts o code.slots.counts.items) (sym code.is_only)
          (subst (λ (xs : List ℕ). FitsCounts (only_from 0 xs) xs) (sym f) fits);
    }
