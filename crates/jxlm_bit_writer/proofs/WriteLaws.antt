-- Laws of what was written: one field after another, fields that may be absent, and numbers.
use Rattle.std.proofs.Common.{◌≡◌, ℕ, zero, suc, ◌+◌, ◌^◌, ◌<◌, List, [], ◌∷◌, ◌++◌, length, Bool, true, false, refl, sym, ap, ◌∙◌, subst, arith, append_assoc}
use Rattle.std.specs.Prelude.{if◌then◌else◌, MatchBool}
use Rattle.std.proofs.lemmas.List.{length-append, append-nil}
use Rattle.jxlm_bits.specs.Grammar.{Grammar, IsExact, number, flag, u32, give, either, repeated}
use Rattle.jxlm_bits.specs.declared.bits.U32Spec.{U32Spec}
use Rattle.jxlm_bit_writer.specs.Written.{digits}
use Rattle.jxlm_bit_writer.specs.Fields.{is_spelled, u32_bits}
use Rattle.jxlm_bit_writer.specs.Writes.{Adds, Writes, Spells}
use Rattle.jxlm_bit_writer.proofs.BitLists.{has_first, has_rest}
use Rattle.jxlm_bit_writer.proofs.FieldLaws.{number_as, flag_as, u32_as}

-- one word, and after it another
pub after : {a b c : List ℕ} {P Q : List ℕ → ℕ → ℕ → Type 0} → Adds a b P → Adds b c Q → Adds a c (λ bytes p q. (m : ℕ) × P bytes p m × Q bytes m q)
after {a} {b} {c} {P} {Q} u v = record {
  word = u.word ++ v.word;
  added = v.added ∙ ap (λ (xs : List ℕ). xs ++ v.word) u.added ∙ append_assoc a u.word v.word;
  holds = λ bytes p h.
      let l = length-append u.word v.word in
      let e : p + length u.word + length v.word ≡ p + length (u.word ++ v.word) = omega (arith, l) in (
        p + length u.word,
        u.holds bytes p (has_first bytes p u.word v.word h),
        subst (λ (q : ℕ). Q bytes (p + length u.word) q) e (v.holds bytes (p + length u.word) (has_rest bytes p u.word v.word h)),
      );
}

-- what holds of a word follows from what was known of it
pub becomes : {a b : List ℕ} {P Q : List ℕ → ℕ → ℕ → Type 0} → Adds a b P → ((bytes : List ℕ) (p q : ℕ) → P bytes p q → Q bytes p q) → Adds a b Q
becomes u f = record { word = u.word; added = u.added; holds = λ bytes p h. f bytes p (p + length u.word) (u.holds bytes p h) }

-- no bits
pub none_added : (a : List ℕ) → Adds a a (λ bytes p q. q ≡ p)
none_added a = record { word = []; added = sym (append-nil a); holds = λ bytes p h. let e : p + 0 ≡ p = omega arith in e }

pub given : {X : Type 0} (x : X) (a : List ℕ) → Spells a a (give x) x
given x a = becomes (none_added a) (λ bytes p q e. (refl, e))

pub number_added : (n v : ℕ) (a b : List ℕ) → v < 2 ^ n → b ≡ a ++ digits n v → Spells a b (number n) v
number_added n v a b small e = record { word = digits n v; added = e; holds = λ bytes p h. number_as n v small bytes p (p + length (digits n v)) h refl }

pub flag_added : (v : Bool) (a b : List ℕ) → b ≡ a ++ digits 1 (if v then 1 else 0) → Spells a b flag v
flag_added v a b e = record {
  word = digits 1 (if v then 1 else 0);
  added = e;
  holds = λ bytes p h. flag_as v bytes p (p + length (digits 1 (if v then 1 else 0))) h refl;
}

pub u32_added : (d0 d1 d2 d3 : U32Spec) (v : ℕ) (a b : List ℕ) → is_spelled d0 d1 d2 d3 v ≡ true → b ≡ a ++ u32_bits d0 d1 d2 d3 v → Spells a b (u32 d0 d1 d2 d3) v
u32_added d0 d1 d2 d3 v a b spelled e = record {
  word = u32_bits d0 d1 d2 d3 v;
  added = e;
  holds = λ bytes p h. u32_as d0 d1 d2 d3 v spelled bytes p (p + length (u32_bits d0 d1 d2 d3 v)) h refl;
}

-- the first of two fields, or the second, by a test
pub chose_first : {X : Type 0} (t : Bool) (f g : Grammar X) (x : X) (a b : List ℕ) → t ≡ true → Spells a b f x → Spells a b (either t f g) x
chose_first t f g x a b e u = becomes u (λ bytes p q s. subst (λ (r : Bool). MatchBool r (f.Stands bytes p x q) (g.Stands bytes p x q)) (sym e) s)

pub chose_second : {X : Type 0} (t : Bool) (f g : Grammar X) (x : X) (a b : List ℕ) → t ≡ false → Spells a b g x → Spells a b (either t f g) x
chose_second t f g x a b e u = becomes u (λ bytes p q s. subst (λ (r : Bool). MatchBool r (f.Stands bytes p x q) (g.Stands bytes p x q)) (sym e) s)

-- a field that is absent has its usual value
pub absent : {X : Type 0} (t : Bool) (f : Grammar X) (usual x : X) (a : List ℕ) → t ≡ false → x ≡ usual → Spells a a (either t f (give usual)) x
absent t f usual x a e same = chose_second t f (give usual) x a a e (becomes (none_added a) (λ bytes p q h. (same, h)))

-- one field more of a kind
stands_more : {X : Type 0} (n : ℕ) (f : Grammar X) (bytes : List ℕ) (p : ℕ) (xs : List X) (q : ℕ) (x : X) (r : ℕ) →
    (repeated n f).Stands bytes p xs q → f.Stands bytes q x r → (repeated (suc n) f).Stands bytes p (xs ++ x ∷ []) r
stands_more zero f bytes p xs q x r s t = (x, r, subst (λ (k : ℕ). f.Stands bytes k x r) s.1 t, ([], r, (refl, refl), (ap (λ ys. ys ++ x ∷ []) s.0, refl)))
stands_more (suc n) f bytes p xs q x r s t =
    let more = stands_more n f bytes s.1 s.3.0 s.3.1 x r s.3.2 (subst (λ (k : ℕ). f.Stands bytes k x r) s.3.3.1 t) in
    (s.0, s.1, s.2, (s.3.0 ++ x ∷ [], r, more, (ap (λ ys. ys ++ x ∷ []) s.3.3.0, refl)))

pub none_repeated : {X : Type 0} (f : Grammar X) (a : List ℕ) → Spells a a (repeated 0 f) []
none_repeated f a = given [] a

pub one_more : {X : Type 0} (n : ℕ) (f : Grammar X) (xs : List X) (x : X) (a b c : List ℕ) → Spells a b (repeated n f) xs → Spells b c f x → Spells a c (repeated (n + 1) f) (xs ++ x ∷ [])
one_more n f xs x a b c u v =
    let e : suc n ≡ n + 1 = omega arith in
    becomes (after u v) (λ bytes p q s. subst (λ (k : ℕ). (repeated k f).Stands bytes p (xs ++ x ∷ []) q) e (stands_more n f bytes p xs s.0 x q s.1 s.2))

-- a field that is read exactly is read as it was spelled
pub spelled_reads : {X : Type 0} (field : Grammar X) (x : X) (a b : List ℕ) → IsExact field → Spells a b field x → Writes a b field.read x
spelled_reads field x a b exact u = becomes u (λ bytes p q s. exact.stands_read bytes p x q s)
