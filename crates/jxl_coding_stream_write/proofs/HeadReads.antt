-- The head of a decoder that was written is read.
use Rattle.std.proofs.Common.{◌≡◌, ℕ, zero, suc, ◌+◌, ◌-◌, ◌^◌, ◌<◌, ◌≤◌, List, [], ◌∷◌, ◌++◌, length, take, get_or, map, replicate, Option, None, Bool, true, false, Ok, refl, sym, ap, ◌∙◌, subst, arith}
use Rattle.std.specs.Prelude.{nat_lt}
use Rattle.std.specs.List.{All}
use Rattle.std.proofs.lemmas.Bool.{lt-ltb, le-ltb}
use Rattle.std.proofs.lemmas.List.{length_push, length-take-le, take_more, take_all, map-append}
use Rattle.std.proofs.lemmas.List.Sums.{fold_more}
use Rattle.jxlm_bit_writer.specs.Writes.{Writes}
use Rattle.jxlm_bit_writer.specs.Written.{digits}
use Rattle.jxlm_bit_writer.proofs.WriteLaws.{after, becomes}
use Rattle.jxl_coding_codes.specs.Fields.{number_at}
use Rattle.jxl_coding_codes.specs.IntegerConfigs.{config_at}
use Rattle.jxl_coding_codes.specs.Distributions.{distribution_at}
use Rattle.jxl_coding_codes.specs.Reading.{steps, list_and_one}
use Rattle.jxl_coding_codes.specs.declared.config.IntegerConfig.{IntegerConfig}
use Rattle.jxl_coding.specs.Clusters.{plain_clusters_at}
use Rattle.jxl_coding.specs.Parse.{Coded, nothing_coded, with_distribution, config_of, distribution_step, log_at, ans_codes_at, clusters_codes_at, codes_at, clusters_at, clusters_or_one, lz77_at, decoder_codes_at, decoder_at, start_of}
use Rattle.jxl_coding.specs.declared.codes.Lz77.{Lz77}
use Rattle.jxl_coding_stream_write.specs.Codes.{with_code, coded_after, codes_among, codes_of}
use Rattle.jxl_coding_stream_write.specs.Heads.{IsHead}
use Rattle.jxl_coding_stream_write.specs.declared.cluster.ClusterWriter.{ClusterWriter}
use Rattle.jxl_coding_stream_write.specs.declared.stream.StreamWriter.{StreamWriter}
use Rattle.jxl_coding_stream_write.proofs.CodesAt.{code_at}
use Rattle.jxl_coding_fields_write.proofs.ReadingLaws.{Reading, writes_nothing, writes_renamed, writes_steps, writes_none}
use Rattle.jxl_coding_fields_write.proofs.NumberFields.{number_writes}

-- One more of a list.

pub push_next : {X Y : Type 0} (read : Reading X) (f : Y → X) (ys : List Y) (i : ℕ) (d : Y) (a b c : List ℕ) → i < length ys → Writes a b (steps (list_and_one read) i []) (map f (take i ys)) → Writes b c read (f (get_or ys i d)) →
    Writes a c (steps (list_and_one read) (i + 1) []) (map f (take (i + 1) ys))
push_next {X} {Y} read f ys i d a b c lt before one =
    let e : map f (take i ys) ++ f (get_or ys i d) ∷ [] ≡ map f (take (i + 1) ys) = sym (ap (λ (xs : List Y). map f xs) (take_more ys i d lt) ∙ map-append f (take i ys) (get_or ys i d ∷ [])) in
    writes_steps (list_and_one read) i [] (map f (take i ys)) (map f (take (i + 1) ys)) a b c before
    (subst (λ (xs : List X). Writes b c (list_and_one read (map f (take i ys))) xs) e (writes_renamed read (λ (x : X). map f (take i ys) ++ x ∷ []) (f (get_or ys i d)) b c one))

pub push_all : {X Y : Type 0} (read : Reading X) (f : Y → X) (ys : List Y) (i : ℕ) (a b : List ℕ) → i ≡ length ys → Writes a b (steps (list_and_one read) i []) (map f (take i ys)) → Writes a b (steps (list_and_one read) (length ys) []) (map f ys)
push_all {X} {Y} read f ys i a b e w =
    subst (λ (xs : List Y). Writes a b (steps (list_and_one read) (length ys) []) (map f xs)) (take_all (length ys) ys (omega arith))
    (subst (λ (n : ℕ). Writes a b (steps (list_and_one read) n []) (map f (take n ys))) e w)

-- Distributions.

codes_many : (log : ℕ) (s : Coded) (codes : List ClusterWriter) → length (coded_after log s codes).cluster_codes ≡ length s.cluster_codes + length codes
codes_many log s [] = omega arith
codes_many log s (c ∷ codes) =
    let m = codes_many log (with_code log s c) codes in
    let l = length_push s.cluster_codes (code_at log s c) in
    omega (arith, m, l)

config_at_place : (codes : List ClusterWriter) (i : ℕ) (d : IntegerConfig) (c : ClusterWriter) → i < length codes → c ≡ get_or codes i c → get_or (map (λ (x : ClusterWriter). x.config) codes) i d ≡ c.config
config_at_place [] i d c lt e = absurd (omega (arith, lt))
config_at_place (x ∷ codes) zero d c lt e = ap (λ (y : ClusterWriter). y.config) (sym e)
config_at_place (x ∷ codes) (suc i) d c lt e = config_at_place codes i d c (omega (arith, lt)) e

module _ (codes : List ClusterWriter) (log : ℕ) where
  abbrev configs : List IntegerConfig
  configs = map (λ (x : ClusterWriter). x.config) codes

  abbrev pub coded_first : ℕ → Coded
  coded_first i = coded_after log nothing_coded (take i codes)

  code_step : (i : ℕ) (c : ClusterWriter) (a b : List ℕ) → i < length codes → c ≡ get_or codes i c → length c.slots.counts.items ≤ 2 ^ log → Writes a b distribution_at c.slots.counts.items →
      Writes a b (distribution_step configs log (coded_first i)) (with_code log (coded_first i) c)
  unfolding distribution_step
  code_step i c a b lt e short h =
      let m = codes_many log nothing_coded (take i codes) in
      let t : length (take i codes) ≡ i = length-take-le i codes (omega (arith, lt)) in
      let k : length (coded_first i).cluster_codes ≡ i = omega (arith, m, t) in
      let f : config_of configs (length (coded_first i).cluster_codes) ≡ c.config = ap (λ (n : ℕ). config_of configs n) k ∙ config_at_place codes i _ c lt e in
      let s : nat_lt (2 ^ log) (length c.slots.counts.items) ≡ false = le-ltb (2 ^ log) (length c.slots.counts.items) short in
      becomes h (λ bytes p q read. rw (read, s) (ap (λ (x : IntegerConfig). Ok (record { value = with_distribution (coded_first i) x c.slots.counts.items log; position = q })) f))

  pub codes_start : (a : List ℕ) → Writes a a (steps (distribution_step configs log) 0 nothing_coded) (coded_first 0)
  codes_start a = writes_none (distribution_step configs log) nothing_coded a

  pub codes_next : (i : ℕ) (c : ClusterWriter) (a b d : List ℕ) → i < length codes → c ≡ get_or codes i c → c.slots.log ≡ log → Writes a b (steps (distribution_step configs log) i nothing_coded) (coded_first i) →
      Writes b d distribution_at c.slots.counts.items → Writes a d (steps (distribution_step configs log) (i + 1) nothing_coded) (coded_first (i + 1))
  codes_next i c a b d lt e l before one =
      let short : length c.slots.counts.items ≤ 2 ^ log = subst (λ (n : ℕ). length c.slots.counts.items ≤ 2 ^ n) l c.slots.short in
      let z : with_code log (coded_first i) c ≡ coded_first (i + 1) = ap (λ (x : ClusterWriter). with_code log (coded_first i) x) e ∙ sym (fold_more (with_code log) nothing_coded codes i c lt) in
      subst (λ (x : Coded). Writes a d (steps (distribution_step configs log) (i + 1) nothing_coded) x) z
      (writes_steps (distribution_step configs log) i nothing_coded (coded_first i) (with_code log (coded_first i) c) a b d before (code_step i c b d lt e short one))

  pub codes_all : (i : ℕ) (a b : List ℕ) → i ≡ length codes → Writes a b (steps (distribution_step configs log) i nothing_coded) (coded_first i) →
      Writes a b (steps (distribution_step configs log) (length codes) nothing_coded) (coded_after log nothing_coded codes)
  codes_all i a b e w =
      subst (λ (xs : List ClusterWriter). Writes a b (steps (distribution_step configs log) (length codes) nothing_coded) (coded_after log nothing_coded xs)) (take_all (length codes) codes (omega arith))
      (subst (λ (n : ℕ). Writes a b (steps (distribution_step configs log) n nothing_coded) (coded_after log nothing_coded (take n codes))) e w)

-- Clusters.

zeros : (clusters : List ℕ) → All (λ c. c ≡ 0) clusters → replicate (length clusters) 0 ≡ clusters
zeros [] none = refl
zeros (c ∷ clusters) none =
    let e : c ≡ 0 = none 0 0 (omega arith) in
    ap (λ (xs : List ℕ). 0 ∷ xs) (zeros clusters (λ k d lt. none (suc k) d (omega (arith, lt)))) ∙ ap (λ (x : ℕ). x ∷ clusters) (sym e)

pub one_cluster : (clusters : List ℕ) (a : List ℕ) → length clusters ≤ 1 → All (λ c. c ≡ 0) clusters → Writes a a (clusters_or_one (clusters_at (length clusters)) (length clusters)) clusters
one_cluster clusters a few none =
    let t : nat_lt 1 (length clusters) ≡ false = le-ltb 1 (length clusters) few in
    becomes (writes_nothing clusters a) (λ bytes p q read. rw (t, zeros clusters none) read)

plain_written : (width : ℕ) (clusters b c d : List ℕ) → width < 2 ^ 2 → c ≡ b ++ digits 2 width → Writes c d (steps (list_and_one (λ all q. number_at all q width)) (length clusters) []) clusters → Writes b d (plain_clusters_at (length clusters)) clusters
unfolding plain_clusters_at
plain_written width clusters b c d small f w = becomes (after (number_writes 2 width b c small f) w) (λ bytes p q s. rw (s.1, s.2) refl)

pub many_clusters : (width : ℕ) (clusters a b c d : List ℕ) → width < 2 ^ 2 → 1 < length clusters → b ≡ a ++ digits 1 1 → c ≡ b ++ digits 2 width → Writes c d (steps (list_and_one (λ all q. number_at all q width)) (length clusters) []) clusters →
    Writes a d (clusters_or_one (clusters_at (length clusters)) (length clusters)) clusters
unfolding clusters_at
many_clusters width clusters a b c d small many e f w =
    let t : nat_lt 1 (length clusters) ≡ true = lt-ltb 1 (length clusters) many in
    becomes (after (number_writes 1 1 a b (omega arith) e) (plain_written width clusters b c d small f w)) (λ bytes p q s. rw (t, s.1, s.2) refl)

-- The head.

pub lz77_none : (may : Bool) (a b : List ℕ) → b ≡ a ++ digits 1 0 → Writes a b (lz77_at may) None
unfolding lz77_at
lz77_none may a b e = becomes (number_writes 1 0 a b (omega arith) e) (λ bytes p q read. rw read refl)

log_written : (log : ℕ) (a b : List ℕ) → 5 ≤ log → log ≤ 8 → b ≡ a ++ digits 2 (log - 5) → Writes a b log_at log
unfolding log_at
log_written log a b least most e =
    let back : log - 5 + 5 ≡ log = omega (arith, least) in
    becomes (number_writes 2 (log - 5) a b (omega (arith, most)) e) (λ bytes p q read. rw (read, back) refl)

module _ (w : StreamWriter) (least : 5 ≤ w.log) (a b c d e : List ℕ) (by_slots : b ≡ a ++ digits 1 0) (log : c ≡ b ++ digits 2 (w.log - 5))
    (configured : Writes c d (steps (list_and_one (λ all q. config_at all w.log q)) (length w.codes.items) []) (map (λ (x : ClusterWriter). x.config) w.codes.items))
    (distributed : Writes d e (steps (distribution_step (map (λ (x : ClusterWriter). x.config) w.codes.items) w.log) (length w.codes.items) nothing_coded) (coded_after w.log nothing_coded w.codes.items))
    (clusters : List ℕ) (copies : Option Lz77) where
  ans_written : Writes b e (ans_codes_at clusters copies (length w.codes.items)) (codes_among clusters copies w)
  unfolding ans_codes_at
  ans_written = becomes (after (log_written w.log b c least w.log_few log) (after configured distributed)) (λ bytes p q s. rw (s.1, s.2.1, s.2.2) refl)

  -- whatever contexts have these codes
  pub codes_written : Writes a e (clusters_codes_at clusters copies (length w.codes.items)) (codes_among clusters copies w)
  unfolding clusters_codes_at
  codes_written = becomes (after (number_writes 1 0 a b (omega arith) by_slots) ans_written) (λ bytes p q s. rw (s.1, s.2) refl)

-- without copies
pub own_written : (w : StreamWriter) (h : IsHead w) (a b : List ℕ) → Writes a b (clusters_codes_at w.clusters.items None (length w.codes.items)) (codes_of w) → Writes a b (codes_at None w.clusters.items) (codes_of w)
unfolding codes_at
own_written w h a b u = becomes u (λ bytes p q s. rw (h.used, s) refl)

pub head_written : (w : StreamWriter) (a b c d : List ℕ) → b ≡ a ++ digits 1 0 → Writes b c (clusters_or_one (clusters_at (length w.clusters.items)) (length w.clusters.items)) w.clusters.items →
    Writes c d (codes_at None w.clusters.items) (codes_of w) → Writes a d (λ bytes p. decoder_at bytes p (length w.clusters.items)) (start_of (codes_of w))
unfolding decoder_at decoder_codes_at
head_written w a b c d e u v = becomes (after (lz77_none true a b e) (after u v)) (λ bytes p q s. rw (s.1, s.2.1, s.2.2) refl)
