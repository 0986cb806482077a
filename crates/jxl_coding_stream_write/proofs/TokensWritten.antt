-- A token that is written before others is read before them.
use Rattle.std.proofs.Common.{◌≡◌, ℕ, ◌/◌, ◌^◌, ◌<◌, List, ◌++◌, get_or, slice_index, true, false, refl, sym, subst}
use Rattle.std.specs.Prelude.{is_some}
use Rattle.jxlm_bit_writer.specs.Written.{digits}
use Rattle.jxlm_bit_writer.specs.declared.token.Token.{Token}
use Rattle.jxl_coding_codes.specs.Alias.{buckets_of}
use Rattle.jxl_coding_codes.specs.Distributions.{whole}
use Rattle.jxl_coding_write.specs.Places.{Leads}
use Rattle.jxl_coding_write.specs.HybridIntegers.{IsSpelled, symbol_of}
use Rattle.jxl_coding_stream_write.specs.Inner.SymbolBits.{SymbolLeads}
use Rattle.jxl_coding_stream_write.specs.Inner.TokenBits.{IsWritten}
use Rattle.jxl_coding_stream_write.specs.Tokens.{Occurs, HasSlot}
use Rattle.jxl_coding_stream_write.specs.declared.cluster.ClusterWriter.{ClusterWriter}
use Rattle.jxl_coding_stream_write.specs.declared.stream.StreamWriter.{StreamWriter}
use Rattle.jxl_coding_stream_write.proofs.OnlySymbols.{only_leads, slots_lead}
use Rattle.jxl_coding_stream_write.proofs.TokenReads.{token_before}

module _ (w : StreamWriter) (t : Token) (slot : HasSlot w.codes.items t) (c : ClusterWriter) (is : c ≡ get_or w.codes.items t.cluster c) where
  pub occurs : 0 < slice_index c.slots.counts.items (symbol_of c.config t.value)
  occurs = subst (λ (k : ClusterWriter). Occurs k t.value) (sym is) (slot.1 c)

  module _ (state : ℕ) (old : List ℕ) where
    -- with bits after its symbol
    module _ (rest_count rest : ℕ) (spelled : IsSpelled c.config t.value (symbol_of c.config t.value) rest_count rest) (mid : List ℕ) (rest_before : mid ≡ digits rest_count rest ++ old) where
      pub spelled_read : (symbol before count value : ℕ) → symbol ≡ symbol_of c.config t.value → SymbolLeads c.slots c.only symbol before state count value →
          (new : List ℕ) → new ≡ digits count value ++ mid → IsWritten w t before state new old
      spelled_read symbol before count value s leads new e =
          token_before w t c slot.0 is before state count value rest_count rest
          (record {
            symbol = symbol;
            leads = leads;
            spelled = subst (λ (x : ℕ). IsSpelled c.config t.value x rest_count rest) (sym s) spelled;
            is_symbol = s;
          }) old mid new rest_before e

      pub only_rest_read : is_some c.only ≡ true → IsWritten w t state state mid old
      only_rest_read some =
          spelled_read (symbol_of c.config t.value) state 0 0 refl (only_leads c.slots c.only (symbol_of c.config t.value) state c.is_only some occurs) mid refl

      pub rest_read : is_some c.only ≡ false → (symbol before count value : ℕ) → symbol ≡ symbol_of c.config t.value →
          Leads (buckets_of c.slots.counts.items c.slots.log) (whole / 2 ^ c.slots.log) symbol before state count value →
          (new : List ℕ) → new ≡ digits count value ++ mid → IsWritten w t before state new old
      rest_read none symbol before count value s leads = spelled_read symbol before count value s (slots_lead c.slots c.only symbol before state count value none leads)
