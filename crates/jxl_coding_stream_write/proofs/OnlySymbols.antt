-- An only symbol.
use Rattle.std.specs.Prelude.{◌≡◌, ℕ, suc, ◌+◌, ◌-◌, ◌/◌, ◌^◌, ◌<◌, ◌≤◌, List, [], ◌∷◌, Bool, true, false, cond, ◌==◌, Option, Some, None, is_some, slice_index}
use Rattle.std.proofs.Common.{refl, sym, ap, ◌∙◌, arith}
use Rattle.std.specs.List.{sum}
use Rattle.std.proofs.lemmas.Bool.Decides.{nat_tests}
use Rattle.jxl_coding_codes.specs.Alias.{only_from, buckets_of}
use Rattle.jxl_coding_codes.specs.Distributions.{whole}
use Rattle.jxl_coding_write.specs.Places.{Leads}
use Rattle.jxl_coding_write.specs.declared.slot_table.SlotTable.{SlotTable}
use Rattle.jxl_coding_write.proofs.SumsBefore.{alone}
use Rattle.jxl_coding_stream_write.specs.Inner.SymbolBits.{SymbolLeads}

pub only_is : (start : ℕ) (counts : List ℕ) (symbol : ℕ) → only_from start counts ≡ Some symbol → (start ≤ symbol) × (slice_index counts (symbol - start) ≡ 4096)
only_is start [] symbol e = cc
only_is start (count ∷ counts) symbol e = by (only_is (start + 1) counts symbol) (count == whole) refl e
  where
    same : (a b : ℕ) → Some a ≡ Some b → a ≡ b
    same a b h = cc

    at : (m : ℕ) → m ≡ 0 → count ≡ 4096 → slice_index (count ∷ counts) m ≡ 4096
    at m z h = rw z h

    after : (m k : ℕ) → m ≡ suc k → slice_index counts k ≡ 4096 → slice_index (count ∷ counts) m ≡ 4096
    after m k z h = rw z h

    by : (only_from (start + 1) counts ≡ Some symbol → (start + 1 ≤ symbol) × (slice_index counts (symbol - (start + 1)) ≡ 4096)) → (b : Bool) → (count == whole) ≡ b → cond b (Some start) (only_from (start + 1) counts) ≡ Some symbol → (start ≤ symbol) × (slice_index (count ∷ counts) (symbol - start) ≡ 4096)
    by further true t h =
        let s : start ≡ symbol = same start symbol h in
        (omega (arith, s), at (symbol - start) (omega (arith, s)) (grind (arith, nat_tests)))
    by further false t h =
        let r = further h in
        let le : start + 1 ≤ symbol = r.0 in
        (omega (arith, le), after (symbol - start) (symbol - (start + 1)) (omega (arith, le)) r.1)

-- if there is an only symbol, a symbol that occurs is that one
pub only_occurs : (o : Option ℕ) (counts : List ℕ) (only symbol : ℕ) → o ≡ only_from 0 counts → o ≡ Some only → sum counts ≡ 4096 → 0 < slice_index counts symbol → symbol ≡ only
only_occurs o counts only symbol is some total occurs =
    let h = only_is 0 counts only (sym is ∙ some) in
    let z : only - 0 ≡ only = omega arith in
    alone counts only symbol total (sym (ap (λ (n : ℕ). slice_index counts n) z) ∙ h.1) occurs

-- a symbol that occurs takes no bits if there is an only symbol
pub only_leads : (slots : SlotTable) (o : Option ℕ) (symbol state : ℕ) → o ≡ only_from 0 slots.counts.items → is_some o ≡ true → 0 < slice_index slots.counts.items symbol → SymbolLeads slots o symbol state state 0 0
only_leads slots (Some only) symbol state is some occurs = (sym (only_occurs (Some only) slots.counts.items only symbol is refl slots.whole occurs), refl, refl)
only_leads slots None symbol state is some occurs = cc

pub slots_lead : (slots : SlotTable) (o : Option ℕ) (symbol before after count value : ℕ) → is_some o ≡ false → Leads (buckets_of slots.counts.items slots.log) (whole / 2 ^ slots.log) symbol before after count value →
    SymbolLeads slots o symbol before after count value
slots_lead slots (Some only) symbol before after count value none leads = cc
slots_lead slots None symbol before after count value none leads = leads
