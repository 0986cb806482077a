-- Spellings of fields that are absent, of enumerations, names, extensions and sizes.
use Rattle.std.proofs.Common.{◌≡◌, ℕ, List, [], Bool, true, false, Option, Some, None, refl, sym, ap, ◌∙◌, subst}
use Rattle.std.specs.Prelude.{not, is_some, MatchBool, count_ones}
use Rattle.std.proofs.lemmas.Bool.{false≢true}
use Rattle.jxlm_bits.specs.ErrorKind.{BadEnum}
use Rattle.jxlm_bits.specs.Grammar.{Grammar, number, flag, u32, give, ◌>>=◌}
use Rattle.jxlm_bits.specs.declared.bits.U32Spec.TheVariants.{Const, Offset}
use Rattle.jxlm_bit_writer.specs.Writes.{Spells}
use Rattle.jxlm_bit_writer.proofs.WriteLaws.{after, becomes, chose_first, absent}
use Rattle.jxl_image_header.specs.Fields.{long, when, optional, bundle_follows, enum_number, value_or, variant, number_where, extensions, name}

-- a field that is present
pub present : {X : Type 0} (t : Bool) (f : Grammar X) (usual x : X) (a b : List ℕ) → t ≡ true → Spells a b f x → Spells a b (when t f usual) x
present t f usual x a b e u = chose_first t f (give usual) x a b e u

not_not : (b : Bool) → not (not b) ≡ b
not_not true = refl
not_not false = refl

-- the flag of a bundle
pub bundle_present : (t follows : Bool) (a b : List ℕ) → t ≡ true → Spells a b flag (not follows) → Spells a b (bundle_follows t) follows
bundle_present t follows a b e u = present t (flag >>= λ all_default. give (not all_default)) false follows a b e
    (becomes u (λ bytes p q s. (not follows, q, s, (sym (not_not follows), refl))))

pub bundle_absent : (t follows : Bool) (a : List ℕ) → t ≡ false → follows ≡ false → Spells a a (bundle_follows t) follows
bundle_absent t follows a e same = absent t (flag >>= λ all_default. give (not all_default)) false follows a e same

-- the number of an enumeration
pub enum_present : (t : Bool) (v usual : ℕ) (a b : List ℕ) → t ≡ true → Spells a b (u32 (Const 0) (Const 1) (Offset 2 4) (Offset 18 6)) v → Spells a b (when t enum_number usual) v
unfolding enum_number
enum_present t v usual a b e u = present t (u32 (Const 0) (Const 1) (Offset 2 4) (Offset 18 6)) usual v a b e u

-- a number that has a meaning
pub meant : (text : List ℕ) (holds : ℕ → Bool) (field : Grammar ℕ) (v : ℕ) (a b : List ℕ) → holds v ≡ true → Spells a b field v → Spells a b (number_where text holds field) v
meant text holds field v a b e u = becomes u (λ bytes p q s. (v, q, s, subst (λ (r : Bool). MatchBool r ((v ≡ v) × (q ≡ q)) ⊥) (sym e) (refl, refl)))

-- none of what may be told
pub untold : {X : Type 0} (t : Bool) (field : Grammar X) (a b : List ℕ) → Spells a b (when t flag false) false → Spells a b (when t (optional field) None) None
untold true field a b u = becomes u (λ bytes p q s. (false, q, s, (refl, refl)))
untold false field a b u = becomes u (λ bytes p q s. (refl, s.1))

-- what may be told, where it is there and where it is not
pub option_told : {X : Type 0} (t : Bool) (field : Grammar X) (o : Option X) (x : X) (v : Bool) (a b c : List ℕ) → o ≡ Some x → v ≡ is_some o → (t ≡ false → o ≡ None) →
    Spells a b (when t flag false) v → Spells b c field x → Spells a c (when t (optional field) None) o
option_told {X} true field o x v a b c e f usual u w =
    let s : Spells a b flag true = subst (λ (r : Bool). Spells a b flag r) (f ∙ ap is_some e) u in
    subst (λ (p : Option X). Spells a c (when true (optional field) None) p) (sym e) (becomes (after s w) (λ bytes p q k. (true, k.0, k.1, (x, q, k.2, (refl, refl)))))
option_told false field o x v a b c e f usual u w = absurd (false≢true (ap is_some (sym (usual refl) ∙ e)))

pub option_untold : {X : Type 0} (t : Bool) (field : Grammar X) (o : Option X) (v : Bool) (a b : List ℕ) → o ≡ None → v ≡ is_some o → Spells a b (when t flag false) v →
    Spells a b (when t (optional field) None) o
option_untold {X} t field o v a b e f u =
    subst (λ (p : Option X). Spells a b (when t (optional field) None) p) (sym e) (untold t field a b (subst (λ (r : Bool). Spells a b (when t flag false) r) (f ∙ ap is_some e) u))

-- no extensions
pub extensions_none : (t : Bool) (a b c : List ℕ) → t ≡ true → Spells a b (number 2) 0 → Spells b c (number 0) 0 → Spells a c (when t extensions 0) 0
unfolding extensions long lib.Count.ones
extensions_none t a b c e u v = present t extensions 0 0 a c e
    (becomes (after u v) (λ bytes p q s. (0, s.0, (0, s.0, s.1, (refl, refl)), ([], s.0, (refl, refl), (0, q, s.2, (refl, refl))))))

-- a name of no bytes
pub name_none : (a b c : List ℕ) → Spells a b (u32 (Const 0) (Offset 0 4) (Offset 16 5) (Offset 48 10)) 0 → Spells b c (number 0) 0 → Spells a c name 0
unfolding name
name_none a b c u v = becomes (after u v) (λ bytes p q s. (0, s.0, s.1, (tt, q, (0, q, s.2, (refl, refl)), (refl, refl))))

-- the same, if it is present
pub meant_when : (t : Bool) (text : List ℕ) (holds : ℕ → Bool) (field : Grammar ℕ) (v usual : ℕ) (a b : List ℕ) → holds v ≡ true → Spells a b (when t field usual) v →
    Spells a b (when t (number_where text holds field) usual) v
meant_when true text holds field v usual a b e u = meant text holds field v a b e u
meant_when false text holds field v usual a b e u = u

-- a number of an enumeration that has a meaning, if it is present
pub meant_if : (t : Bool) (text : List ℕ) (holds : ℕ → Bool) (v usual : ℕ) (a b : List ℕ) → holds v ≡ true → Spells a b (when t enum_number usual) v →
    Spells a b (when t (number_where text holds enum_number) usual) v
meant_if t text holds v usual a b e u = meant_when t text holds enum_number v usual a b e u

-- the variant of a number
variant_spelled : {X : Type 0} (text : List ℕ) (table : ℕ → Option X) (v : ℕ) (x : X) (a b : List ℕ) → table v ≡ Some x → Spells a b enum_number v → Spells a b (variant text table) x
variant_spelled text table v x a b e u = becomes u (λ bytes p q s. (v, q, s, subst (λ o. (value_or (BadEnum text v) o).Stands bytes q x q) (sym e) (refl, refl)))

pub variant_if : {X : Type 0} (t : Bool) (text : List ℕ) (table : ℕ → Option X) (v usual : ℕ) (x default : X) (a b : List ℕ) → table v ≡ Some x → (t ≡ false → x ≡ default) →
    Spells a b (when t enum_number usual) v → Spells a b (when t (variant text table) default) x
variant_if true text table v usual x default a b e f u = variant_spelled text table v x a b e u
variant_if false text table v usual x default a b e f u = becomes u (λ bytes p q s. (f refl, s.1))
