-- A stream that is written is read, token by token.
use Rattle.std.proofs.Common.{◌≡◌, ℕ, ◌+◌, ◌-◌, ◌^◌, ◌<◌, ◌≤◌, List, [], ◌∷◌, ◌++◌, append_assoc, length, map, get_or, drop, None, Ok, refl, sym, ap, ◌∙◌, subst, false, arith}
use Rattle.std.specs.Prelude.{nat_lt}
use Rattle.std.proofs.lemmas.Bool.{le-ltb}
use Rattle.std.proofs.lemmas.List.{append-nil, length-append, drop_all, drop_more}
use Rattle.jxlm_bits.specs.Decoding.{Asked}
use Rattle.jxlm_bit_writer.specs.Written.{digits, HasBits}
use Rattle.jxlm_bit_writer.proofs.BitLists.{has_first, has_rest, length-digits, has_moved}
use Rattle.jxl_coding_write.proofs.NumberReads.{number_read}
use Rattle.jxl_coding.specs.Symbols.{Codes}
use Rattle.jxl_coding.specs.Tokens.{Entropy, begin_at, end_state, plain_token, read_at, token_with}
use Rattle.jxl_coding_stream_write.specs.Codes.{codes_of}
use Rattle.jxl_coding_stream_write.specs.Inner.TokenBits.{AreWritten, IsWritten, TokenStands, TokensStand}
use Rattle.jxl_coding_stream_write.specs.Streams.{in_stream, AreAsked, Reads, IsStream, StreamsAreRead}
use Rattle.jxl_coding_stream_write.specs.declared.stream.StreamWriter.{StreamWriter}
use Rattle.jxlm_bit_writer.specs.declared.token.Token.{Token}

clusters_of : List Asked → List ℕ
clusters_of asked = map (λ a. a.cluster) asked

-- none are asked for where none are written
pub none_read : (codes : Codes) → Reads codes end_state [] []
none_read codes bytes p [] same has = let q : p ≡ p + 0 = omega arith in ap (λ (r : ℕ). Ok (record { value = []; state = in_stream codes end_state; position = r })) q
none_read codes bytes p (a ∷ asked) same has = absurd (cc)

pub head_same : (a : Asked) (asked : List Asked) (t : Token) (tokens : List Token) → AreAsked (a ∷ asked) (t ∷ tokens) → a.cluster ≡ t.cluster
head_same a asked t tokens same = cc

pub tail_same : (a : Asked) (asked : List Asked) (t : Token) (tokens : List Token) → AreAsked (a ∷ asked) (t ∷ tokens) → AreAsked asked tokens
tail_same a asked t tokens same = cc

-- one token before others
pub one_more : (codes : Codes) (before middle : ℕ) (t : Token) (tokens : List Token) (one others : List ℕ) →
    ((bytes : List ℕ) (p m : ℕ) → HasBits bytes p one → read_at (in_stream codes before) bytes p t.cluster m ≡ Ok (record { value = t.value; state = in_stream codes middle; position = p + length one })) →
    Reads codes middle tokens others → Reads codes before (t ∷ tokens) (one ++ others)
one_more codes before middle t tokens one others first rest bytes p [] same has = absurd (cc)
one_more codes before middle t tokens one others first rest bytes p (a ∷ asked) same has =
    let l = length-append one others in
    let f : read_at (in_stream codes before) bytes p a.cluster a.multiplier ≡ Ok (record { value = t.value; state = in_stream codes middle; position = p + length one }) =
    ap (λ (c : ℕ). read_at (in_stream codes before) bytes p c a.multiplier) (head_same a asked t tokens same) ∙ first bytes p a.multiplier (has_first bytes p one others has) in
    let r = rest bytes (p + length one) asked (tail_same a asked t tokens same) (has_rest bytes p one others has) in
    let q : p + length one + length others ≡ p + length (one ++ others) = omega (arith, l) in
    rw (f, r) (ap (λ (n : ℕ). Ok (record { value = t.value ∷ map (λ (x : Token). x.value) tokens; state = in_stream codes end_state; position = n })) q)

module _ (w : StreamWriter) (first : ℕ) (tokens : List Token) (bits : List ℕ) (least : 2 ^ 16 ≤ first) (below : first < 2 ^ 32) (read : Reads (codes_of w) first tokens bits) where
  begun : (bytes : List ℕ) (p : ℕ) (s : Entropy) → s.codes ≡ codes_of w → HasBits bytes p (digits 32 first) → begin_at s bytes p ≡ Ok (record { value = in_stream (codes_of w) first; position = p + 32 })
  unfolding begin_at
  begun bytes p s e has =
      let t : nat_lt first (2 ^ 16) ≡ false = le-ltb first (2 ^ 16) least in
      rw (e, number_read bytes p 32 first below has, t) refl

  -- the whole stream
  pub is_stream : IsStream (codes_of w) tokens (digits 32 first ++ bits)
  is_stream = record {
    first = first;
    long = let l = length-append (digits 32 first) bits in let m = length-digits 32 first in omega (arith, l, m);
    begins = λ bytes p s e has. begun bytes p s e (has_first bytes p (digits 32 first) bits has);
    reads_all = λ bytes p asked same has.
        let l = length-append (digits 32 first) bits in
        let m = length-digits 32 first in
        let second : HasBits bytes (p + 32) bits = has_moved bytes (p + length (digits 32 first)) (p + 32) bits (omega (arith, m)) (has_rest bytes p (digits 32 first) bits has) in
        let q : p + 32 + length bits ≡ p + length (digits 32 first ++ bits) = omega (arith, l, m) in
        read bytes (p + 32) asked same second ∙ ap (λ (n : ℕ). Ok (record { value = map (λ (x : Token). x.value) tokens; state = in_stream (codes_of w) end_state; position = n })) q;
    ends = refl;
  }

-- a token that is written is read, if none are copied
plain_read : (w : StreamWriter) (t : Token) (before after : ℕ) (one : List ℕ) → TokenStands w t before after one → (bytes : List ℕ) (p m : ℕ) → HasBits bytes p one →
    read_at (in_stream (codes_of w) before) bytes p t.cluster m ≡ Ok (record { value = t.value; state = in_stream (codes_of w) after; position = p + length one })
unfolding token_with plain_token
plain_read w t before after one stands bytes p m has = let s = stands None bytes p has in rw (s.1, s.2) refl

-- tokens before others
run_reads : (w : StreamWriter) (tokens : List Token) (before after : ℕ) (bits : List ℕ) → TokensStand w tokens before after bits → (rest : List Token) (old : List ℕ) → Reads (codes_of w) after rest old →
    Reads (codes_of w) before (tokens ++ rest) (bits ++ old)
run_reads w [] before after bits s rest old reads = rw (s.0, s.1) reads
run_reads w (t ∷ tokens) before after bits (middle, one, others, e, stands, more) rest old reads =
    subst (λ (xs : List ℕ). Reads (codes_of w) before (t ∷ (tokens ++ rest)) xs) (sym (ap (λ (xs : List ℕ). xs ++ old) e ∙ append_assoc one others old))
    (one_more (codes_of w) before middle t (tokens ++ rest) one (others ++ old) (plain_read w t before middle one stands) (run_reads w tokens middle after others more rest old reads))

-- all tokens of a stream
pub stream_read : (w : StreamWriter) (tokens : List Token) (before state : ℕ) (new old : List ℕ) → AreWritten w tokens before state new old → state ≡ end_state → old ≡ [] → Reads (codes_of w) before tokens new
stream_read w tokens before state new old written e none =
    let r = run_reads w tokens before state written.0 written.2 [] [] (subst (λ (x : ℕ). Reads (codes_of w) x [] []) (sym e) (none_read (codes_of w))) in
    subst (λ (xs : List Token). Reads (codes_of w) before xs new) (append-nil tokens)
    (subst (λ (xs : List ℕ). Reads (codes_of w) before (tokens ++ []) xs) (sym (written.1 ∙ ap (λ (xs : List ℕ). written.0 ++ xs) none)) r)

-- Tokens written from the last to the first.

pub run_start : (w : StreamWriter) (tokens : List Token) (state : ℕ) (old : List ℕ) → AreWritten w (drop (length tokens - 0) tokens) state state old old
run_start w tokens state old =
    subst (λ (xs : List Token). AreWritten w xs state state old old) (sym (drop_all (length tokens - 0) tokens (omega arith))) ([], refl, (refl, refl))

one_before : (w : StreamWriter) (t : Token) (tokens : List Token) (before middle after : ℕ) (new mid old : List ℕ) → IsWritten w t before middle new mid → AreWritten w tokens middle after mid old → AreWritten w (t ∷ tokens) before after new old
one_before w t tokens before middle after new mid old (one, e, stands) (bits, f, all) =
    (one ++ bits, e ∙ ap (λ (xs : List ℕ). one ++ xs) f ∙ sym (append_assoc one bits old), (middle, one, bits, refl, stands, all))

pub run_stepped : (w : StreamWriter) (tokens : List Token) (i : ℕ) (d : Token) (before middle after : ℕ) (new mid old : List ℕ) → i < length tokens →
    IsWritten w (get_or tokens (length tokens - 1 - i) d) before middle new mid → AreWritten w (drop (length tokens - i) tokens) middle after mid old →
    AreWritten w (drop (length tokens - (i + 1)) tokens) before after new old
run_stepped w tokens i d before middle after new mid old lt one all =
    let k : length tokens - 1 - i + 1 ≡ length tokens - i = omega (arith, lt) in
    let m : length tokens - 1 - i ≡ length tokens - (i + 1) = omega arith in
    let e : drop (length tokens - (i + 1)) tokens ≡ get_or tokens (length tokens - 1 - i) d ∷ drop (length tokens - i) tokens =
    ap (λ (n : ℕ). drop n tokens) (sym m) ∙ drop_more tokens (length tokens - 1 - i) d (omega (arith, lt)) ∙ ap (λ (n : ℕ). get_or tokens (length tokens - 1 - i) d ∷ drop n tokens) k in
    subst (λ (xs : List Token). AreWritten w xs before after new old) (sym e) (one_before w (get_or tokens (length tokens - 1 - i) d) (drop (length tokens - i) tokens) before middle after new mid old one all)

pub run_all : (w : StreamWriter) (tokens : List Token) (i before after : ℕ) (new old : List ℕ) → length tokens ≤ i → AreWritten w (drop (length tokens - i) tokens) before after new old → AreWritten w tokens before after new old
run_all w tokens i before after new old le all =
    let z : length tokens - i ≡ 0 = omega (arith, le) in
    subst (λ (n : ℕ). AreWritten w (drop n tokens) before after new old) z all

pub streams_read : StreamsAreRead
streams_read codes tokens bits s bytes p asked stream e same has = record {
  first = in_stream codes stream.first;
  start = p + 32;
  last = in_stream codes end_state;
  begins = stream.begins bytes p s e has;
  all = stream.reads_all bytes p asked same has;
  accepts = stream.ends;
}
