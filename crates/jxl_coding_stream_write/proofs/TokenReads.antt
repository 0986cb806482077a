-- A token that is written in a cluster is read.
use Rattle.std.proofs.Common.{◌≡◌, ℕ, ◌+◌, ◌<◌, List, ◌++◌, append_assoc, length, get_or, Option, Some, None, Ok, refl, sym, ap, ◌∙◌, arith}
use Rattle.std.proofs.lemmas.List.{length-append}
use Rattle.jxlm_bit_writer.specs.Written.{digits, HasBits}
use Rattle.jxlm_bit_writer.proofs.BitLists.{has_first, has_rest, length-digits, has_moved}
use Rattle.jxl_coding_codes.specs.Alias.{buckets_of, only_from}
use Rattle.jxl_coding_codes.specs.IntegerConfigs.{token_at}
use Rattle.jxl_coding_codes.specs.declared.config.IntegerConfig.{IntegerConfig}
use Rattle.jxl_coding_write.specs.HybridIntegers.{IsSpelled, symbol_of}
use Rattle.jxl_coding.specs.Parse.{nothing_coded}
use Rattle.jxl_coding.specs.Symbols.{cluster_code, symbol_at, symbol_with}
use Rattle.jxl_coding.specs.declared.codes.ClusterCode.{ClusterCode}
use Rattle.jxl_coding.specs.declared.codes.Lz77.{Lz77}
use Rattle.jxl_coding_stream_write.specs.Codes.{codes_with, coded_after}
use Rattle.jxl_coding_stream_write.specs.Inner.TokenBits.{IsWritten, config_in}
use Rattle.jxl_coding_stream_write.specs.declared.cluster.ClusterWriter.{ClusterWriter}
use Rattle.jxl_coding_stream_write.specs.declared.stream.StreamWriter.{StreamWriter}
use Rattle.jxlm_bit_writer.specs.declared.token.Token.{Token}
use Rattle.jxl_coding_stream_write.proofs.CodesAt.{IsAt, at_all, code_at, code_is, slot_is}
use Rattle.jxl_coding_stream_write.specs.Inner.SymbolBits.{SymbolLeads}
use Rattle.jxl_coding_stream_write.proofs.SymbolReads.{symbol_none, symbol_only}

-- a token of the cluster is its symbol and the bits that follow that
pub record TokenWrites (code : ClusterWriter) (token before after word_count word rest_count rest : ℕ) : Type 0 where
  pub symbol : ℕ
  pub leads : SymbolLeads code.slots code.only symbol before after word_count word
  pub spelled : IsSpelled code.config token symbol rest_count rest
  pub is_symbol : symbol ≡ symbol_of code.config token

module _ (w : StreamWriter) (place : ℕ) (c : ClusterWriter) (lt : place < length w.codes.items) (is : c ≡ get_or w.codes.items place c) (fits : c.slots.log ≡ w.log) where
  pub at : IsAt w.log (coded_after w.log nothing_coded w.codes.items) place c
  at = at_all w.log w.codes.items place c w.logs lt is

  pub few : place < 256
  few = let f = w.few in omega (arith, f, lt)

  pub code : cluster_code (coded_after w.log nothing_coded w.codes.items).cluster_codes place ≡ code_at w.log at.before c
  code = code_is w.log (coded_after w.log nothing_coded w.codes.items) place c at

  pub config_is : config_in w place ≡ c.config
  config_is = ap (λ (k : ClusterCode). k.config) code

  module _ (copies : Option Lz77) where
    -- its symbol
    pub symbol_reads : (symbol before after count value : ℕ) → SymbolLeads c.slots c.only symbol before after count value → (bytes : List ℕ) (p : ℕ) → HasBits bytes p (digits count value) →
        symbol_at (codes_with copies w) place before bytes p ≡ Ok (record { symbol = symbol; ans_state = after; position = p + count })
    symbol_reads symbol before after count value leads bytes p has =
        ap (λ (k : ClusterCode). symbol_with (codes_with copies w) k.only k before bytes p) code
        ∙ by c.only c.is_only leads
      where
        by : (o : Option ℕ) → o ≡ only_from 0 c.slots.counts.items → SymbolLeads c.slots o symbol before after count value →
            symbol_with (codes_with copies w) (only_from 0 c.slots.counts.items) (code_at w.log at.before c) before bytes p
            ≡ Ok (record { symbol = symbol; ans_state = after; position = p + count })
        by (Some only) e l =
            ap (λ (x : Option ℕ). symbol_with (codes_with copies w) x (code_at w.log at.before c) before bytes p) (sym e)
            ∙ symbol_only (codes_with copies w) (code_at w.log at.before c) only symbol before after count l.0 l.1 l.2 bytes p
        by None e l =
            ap (λ (x : Option ℕ). symbol_with (codes_with copies w) x (code_at w.log at.before c) before bytes p) (sym e)
            ∙ (symbol_none (codes_with copies w) refl (buckets_of c.slots.counts.items w.log) (length at.before.buckets)
            (λ slot less. slot_is w.log (coded_after w.log nothing_coded w.codes.items) place c at few fits slot less)
            (code_at w.log at.before c) symbol before after count value refl (rw fits at l) bytes p has)

    -- and the token, with the bits that follow
    pub token_reads : (token before after word_count word rest_count rest : ℕ) → TokenWrites c token before after word_count word rest_count rest → (bytes : List ℕ) (p : ℕ) →
        HasBits bytes p (digits word_count word ++ digits rest_count rest) →
        (symbol_at (codes_with copies w) place before bytes p ≡ Ok (record { symbol = symbol_of (config_in w place) token; ans_state = after; position = p + word_count }))
        × (token_at (config_in w place) (symbol_of (config_in w place) token) bytes (p + word_count) ≡ Ok (record { value = token; position = p + word_count + rest_count }))
    token_reads token before after word_count word rest_count rest h bytes p has =
        let l = length-digits word_count word in
        let s = symbol_reads h.symbol before after word_count word h.leads bytes p (has_first bytes p (digits word_count word) (digits rest_count rest) has) in
        let second : HasBits bytes (p + word_count) (digits rest_count rest) =
        has_moved bytes (p + length (digits word_count word)) (p + word_count) (digits rest_count rest) (omega (arith, l)) (has_rest bytes p (digits word_count word) (digits rest_count rest) has) in
        let e : h.symbol ≡ symbol_of (config_in w place) token = h.is_symbol ∙ ap (λ (k : IntegerConfig). symbol_of k token) (sym config_is) in (
          s ∙ ap (λ (x : ℕ). Ok (record { symbol = x; ans_state = after; position = p + word_count })) e,
          ap (λ (k : IntegerConfig). token_at k (symbol_of (config_in w place) token) bytes (p + word_count)) config_is
              ∙ ap (λ (x : ℕ). token_at c.config x bytes (p + word_count)) (sym e)
              ∙ h.spelled bytes (p + word_count) second,
        )

pub logs_fit : (w : StreamWriter) (place : ℕ) (c : ClusterWriter) → place < length w.codes.items → c ≡ get_or w.codes.items place c → c.slots.log ≡ w.log
logs_fit w place c lt is = ap (λ (x : ClusterWriter). x.slots.log) is ∙ w.logs place c lt

-- a token before others
pub token_before : (w : StreamWriter) (t : Token) (c : ClusterWriter) → t.cluster < length w.codes.items → c ≡ get_or w.codes.items t.cluster c → (before state word_count word rest_count rest : ℕ) →
    TokenWrites c t.value before state word_count word rest_count rest → (old mid new : List ℕ) → mid ≡ digits rest_count rest ++ old → new ≡ digits word_count word ++ mid → IsWritten w t before state new old
token_before w t c lt is before state word_count word rest_count rest h old mid new e f =
    let l = length-append (digits word_count word) (digits rest_count rest) in
    let a = length-digits word_count word in
    let b = length-digits rest_count rest in
    let many : (p : ℕ) → p + word_count + rest_count ≡ p + length (digits word_count word ++ digits rest_count rest) = λ p. omega (arith, l, a, b) in (
      digits word_count word ++ digits rest_count rest,
      f ∙ ap (λ (xs : List ℕ). digits word_count word ++ xs) e ∙ sym (append_assoc (digits word_count word) (digits rest_count rest) old),
      λ copies bytes p has.
          let r = token_reads w t.cluster c lt is (logs_fit w t.cluster c lt is) copies t.value before state word_count word rest_count rest h bytes p has in
          (p + word_count, r.0, r.1 ∙ ap (λ (n : ℕ). Ok (record { value = t.value; position = n })) (many p)),
    )
