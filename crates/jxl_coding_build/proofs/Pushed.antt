-- One code more, and what holds of each.
use Rattle.std.proofs.Common.{◌≡◌, ℕ, ◌<◌, List, [], ◌∷◌, ◌++◌, length, get_or, inl, inr, sym, subst, arith}
use Rattle.std.proofs.lemmas.Bool.{cases_lt}
use Rattle.std.proofs.lemmas.List.{length_push, get_or_append_left, get_or_push}
use Rattle.jxl_coding_stream_write.specs.declared.cluster.ClusterWriter.{ClusterWriter}

each_pushed : (P : ℕ → ClusterWriter → Type 0) (codes : List ClusterWriter) (code : ClusterWriter) → ((k : ℕ) (d : ClusterWriter) → k < length codes → P k (get_or codes k d)) → P (length codes) code →
    (k : ℕ) (d : ClusterWriter) → k < length (codes ++ code ∷ []) → P k (get_or (codes ++ code ∷ []) k d)
each_pushed P codes code h here k d lt =
    let l = length_push codes code in
    elim (cases_lt k (length codes)) [
      | inl below ↦ subst (P k) (sym (get_or_append_left codes (code ∷ []) d k below)) (h k d below)
      | inr above ↦
          let e : length codes ≡ k = omega (arith, above, lt, l) in
          subst (P k) (sym (get_or_push codes code d k e)) (subst (λ (n : ℕ). P n code) e here)
    ]

pub pushed_all : (P : ℕ → ClusterWriter → Type 0) (codes new : List ClusterWriter) (code : ClusterWriter) (n : ℕ) → new ≡ codes ++ code ∷ [] → length codes ≡ n →
    ((k : ℕ) (d : ClusterWriter) → k < length codes → P k (get_or codes k d)) → P n code → (k : ℕ) (d : ClusterWriter) → k < length new → P k (get_or new k d)
pushed_all P codes new code n e m h here =
    subst (λ (xs : List ClusterWriter). (k : ℕ) (d : ClusterWriter) → k < length xs → P k (get_or xs k d)) (sym e)
    (each_pushed P codes code h (subst (λ (k : ℕ). P k code) (sym m) here))
