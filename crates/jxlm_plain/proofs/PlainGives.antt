-- What the parts of a plain decoder do is what the decoder means.
use Rattle.std.proofs.Common.{◌≡◌, ℕ, zero, suc, ◌-◌, ◌<◌, List, Result, Ok, Err, IfErr, length, refl, sym, ap, arith, get_or}
use Rattle.std.proofs.lemmas.List.{get_or_read_under}
use Rattle.jxlm_bits.specs.declared.decoder.DecoderError.{DecoderError}
use Rattle.jxlm_bits.specs.declared.decoder.RleToken.{RleToken}
use Rattle.jxlm_bits.specs.declared.decoder.RleToken.TheVariants.{Value, Repeat}
use Rattle.jxlm_plain.specs.declared.plain.Code.{Code}
use Rattle.jxlm_plain.specs.declared.plain.Code.TheVariants.{Fixed}
use Rattle.jxlm_plain.specs.declared.plain.Mode.{Mode}
use Rattle.jxlm_plain.specs.declared.plain.Mode.TheVariants.{Runs}
use Rattle.jxlm_bits.specs.Decoding.{Keeps, BeginGives, ReadGives, RunGives, iterate}
use Rattle.jxlm_plain.specs.Inner.PlainReads.{ReadsRun}
use Rattle.jxlm_plain.specs.Plain.{PlainState, code_of, begin_mode, token_at, plain_begin, plain_read, plain, plain_next, last_in}
use Rattle.jxlm_plain.specs.Inner.PlainLaws.{plain_begin_keeps}

abbrev pub state : Mode → List Code → List ℕ → PlainState
state mode codes clusters = record { mode = mode; codes = codes; clusters = clusters }

pub begin_given : (mode t : Mode) (codes : List Code) (clusters : List ℕ) (r : Result (Unit {0}) DecoderError) (bytes : List ℕ) (p q : ℕ) →
    BeginGives r mode t p q (begin_mode mode bytes p) → BeginGives r (state mode codes clusters) (state t codes clusters) p q (plain_begin (state mode codes clusters) bytes p)
unfolding plain_begin
begin_given mode t codes clusters (Ok u) bytes p q h = rw h refl
begin_given mode t codes clusters (Err e) bytes p q h = (rw h.0 refl, h.1)

pub begin_kept : (mode t : Mode) (codes : List Code) (clusters : List ℕ) (r : Result (Unit {0}) DecoderError) (bytes : List ℕ) (p q : ℕ) →
    BeginGives r mode t p q (begin_mode mode bytes p) → IfErr r (λ e. t ≡ mode) → Keeps plain (state mode codes clusters) (state t codes clusters)
begin_kept mode t codes clusters (Ok u) bytes p q h k =
    plain_begin_keeps (state mode codes clusters) bytes p (record { value = state t codes clusters; position = q }) (begin_given mode t codes clusters (Ok u) bytes p q h)
begin_kept mode t codes clusters (Err e) bytes p q h k = rw k (record { clusters = refl; single = λ c within. refl; rle = refl })

pub read_given : (mode t : Mode) (codes : List Code) (clusters : List ℕ) (code : Code) (r : Result ℕ DecoderError) (bytes : List ℕ) (p q c m : ℕ) → code ≡ code_of codes c →
    ReadGives r mode t p q (token_at mode code bytes p) →
    ReadGives r (state mode codes clusters) (state t codes clusters) p q (plain_read (state mode codes clusters) bytes p c m)
unfolding plain_read
read_given mode t codes clusters code (Ok v) bytes p q c m e h = rw (← e, h) refl
read_given mode t codes clusters code (Err f) bytes p q c m e h = (rw (← e, h.0) refl, ap (λ (n : Mode). state n codes clusters) h.1, h.2)

-- all owed tokens were taken
run_ends : (last n : ℕ) (codes : List Code) (clusters : List ℕ) → iterate plain_next n (state (Runs last n) codes clusters) ≡ state (Runs last 0) codes clusters
run_ends last zero codes clusters = refl
run_ends last (suc n) codes clusters = let e : suc n - 1 ≡ n = omega arith in rw e (run_ends last n codes clusters)

pub run_given : (mode t : Mode) (codes : List Code) (clusters : List ℕ) (code : Code) (r : Result RleToken DecoderError) (bytes : List ℕ) (p q c : ℕ) → code ≡ code_of codes c →
    ReadsRun r mode t p q (token_at mode code bytes p) →
    (m : ℕ) → RunGives plain r (state mode codes clusters) (state t codes clusters) p q (plain_read (state mode codes clusters) bytes p c m)
unfolding plain_read
run_given mode t codes clusters code (Ok (Value v)) bytes p q c e h m = (rw (← e, h.0) refl, h.1)
run_given mode t codes clusters code (Ok (Repeat n)) bytes p q c e h m = record {
  first = state (Runs (last_in mode) (n - 1)) codes clusters;
  read = rw (← e, h.1) refl;
  owes = omega arith;
  ends = rw h.2 (sym (run_ends (last_in mode) (n - 1) codes clusters));
}
run_given mode t codes clusters code (Err f) bytes p q c e h m = (rw (← e, h.0) refl, ap (λ (n : Mode). state n codes clusters) h.1, h.2)

-- what was indexed is the code of the cluster
pub code_read : (codes : List Code) (c : ℕ) (code : Code) → code ≡ get_or codes c code → c < length codes → code ≡ code_of codes c
code_read codes c code e h = get_or_read_under codes c (length codes) code (Fixed 0) e h refl
