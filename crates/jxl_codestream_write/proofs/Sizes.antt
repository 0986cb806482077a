-- Sizes of sections, as they were written: each takes 12 bits at least.
use Rattle.std.proofs.Common.{◌≡◌, ℕ, zero, suc, ◌+◌, ◌*◌, ◌<◌, ◌≤◌, List, length, take, get_or, Bool, true, false, refl, sym, subst, ◌∙◌, arith}
use Rattle.std.specs.Prelude.{◌==◌}
use Rattle.std.specs.List.{list_all}
use Rattle.std.proofs.lemmas.List.{take_all, take_more}
use Rattle.std.proofs.lemmas.List.Folds.{list_all_at}
use Rattle.std.proofs.lemmas.Bool.{false≢true}
use Rattle.jxlm_bits.specs.Grammar.{Grammar, either, part, repeated, u32}
use Rattle.jxlm_bits.specs.declared.bits.U32Spec.TheVariants.{Offset}
use Rattle.jxlm_bit_writer.specs.Writes.{Spells}
use Rattle.jxlm_bit_writer.proofs.WriteLaws.{one_more}
use Rattle.jxl_codestream_write.specs.Tables.{is_section_size}

-- the size of a section
abbrev pub entry : Grammar ℕ
entry = u32 (Offset 0 10) (Offset 1024 14) (Offset 17408 22) (Offset 4211712 30)

pub size_at : (sizes : List ℕ) (i d : ℕ) → list_all is_section_size sizes ≡ true → i < length sizes → is_section_size (get_or sizes i d) ≡ true
size_at sizes i d all lt = by_test (is_section_size (get_or sizes i d)) refl
  where
    by_test : (b : Bool) → is_section_size (get_or sizes i d) ≡ b → is_section_size (get_or sizes i d) ≡ true
    by_test true e = e
    by_test false e = absurd (false≢true (sym (list_all_at is_section_size sizes i d lt e) ∙ all))

-- one size more
pub sizes_next : (sizes : List ℕ) (i d : ℕ) (a b c : List ℕ) → i < length sizes → Spells a b (repeated i entry) (take i sizes) → Spells b c entry (get_or sizes i d) →
    Spells a c (repeated (i + 1) entry) (take (i + 1) sizes)
sizes_next sizes i d a b c lt u v = rw (take_more sizes i d lt) (one_more i entry (take i sizes) (get_or sizes i d) a b c u v)

-- all sizes
pub sizes_all : (sizes : List ℕ) (i : ℕ) (a b : List ℕ) → length sizes ≤ i → i ≤ length sizes → Spells a b (repeated i entry) (take i sizes) → Spells a b (repeated (length sizes) entry) sizes
sizes_all sizes i a b least most u =
    let e : i ≡ length sizes = omega (arith, least, most) in
    subst (λ (xs : List ℕ). Spells a b (repeated (length sizes) entry) xs) (take_all (length sizes) sizes (omega arith)) (subst (λ (n : ℕ). Spells a b (repeated n entry) (take n sizes)) e u)

part_long : (least n : ℕ) (bytes : List ℕ) (p v q : ℕ) → 10 ≤ n → (part (Offset least n)).Stands bytes p v q → p + 10 ≤ q
part_long least n bytes p v q few s = let a = s.2.2 in let b = s.3.1 in omega (arith, few, a, b)

either_long : (t : Bool) (f g : Grammar ℕ) (bytes : List ℕ) (p v q : ℕ) → (f.Stands bytes p v q → p + 10 ≤ q) → (g.Stands bytes p v q → p + 10 ≤ q) → (either t f g).Stands bytes p v q → p + 10 ≤ q
either_long true f g bytes p v q first second s = first s
either_long false f g bytes p v q first second s = second s

-- the parts of a size, and those from the second and the third on
abbrev third : ℕ → Grammar ℕ
third selector = either (selector == 2) (part (Offset 17408 22)) (part (Offset 4211712 30))

abbrev second : ℕ → Grammar ℕ
second selector = either (selector == 1) (part (Offset 1024 14)) (third selector)

third_long : (selector : ℕ) (bytes : List ℕ) (p v q : ℕ) → (third selector).Stands bytes p v q → p + 10 ≤ q
third_long selector bytes p v q s =
    either_long (selector == 2) (part (Offset 17408 22)) (part (Offset 4211712 30)) bytes p v q (part_long 17408 22 bytes p v q (omega arith)) (part_long 4211712 30 bytes p v q (omega arith)) s

second_long : (selector : ℕ) (bytes : List ℕ) (p v q : ℕ) → (second selector).Stands bytes p v q → p + 10 ≤ q
second_long selector bytes p v q s =
    either_long (selector == 1) (part (Offset 1024 14)) (third selector) bytes p v q (part_long 1024 14 bytes p v q (omega arith)) (third_long selector bytes p v q) s

entry_long : (bytes : List ℕ) (p v q : ℕ) → entry.Stands bytes p v q → p + 12 ≤ q
entry_long bytes p v q s =
    let a = s.2.2 in
    let b : s.1 + 10 ≤ q = either_long (s.0 == 0) (part (Offset 0 10)) (second s.0) bytes s.1 v q (part_long 0 10 bytes s.1 v q (omega arith)) (second_long s.0 bytes s.1 v q) s.3 in
    omega (arith, a, b)

pub sizes_long : (n : ℕ) (bytes : List ℕ) (p : ℕ) (sizes : List ℕ) (q : ℕ) → (repeated n entry).Stands bytes p sizes q → p + 12 * n ≤ q
sizes_long zero bytes p sizes q s = let e = s.1 in omega (arith, e)
sizes_long (suc n) bytes p sizes q s =
    let a = entry_long bytes p s.0 s.1 s.2 in
    let b = sizes_long n bytes s.1 s.3.0 s.3.1 s.3.2 in
    let e = s.3.3.1 in
    omega (arith, a, b, e)
