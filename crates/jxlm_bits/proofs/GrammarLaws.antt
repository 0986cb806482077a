-- The laws of fields: the parser returns exactly what the bits at its position code.
use Rattle.std.proofs.Common.{◌≡◌, ℕ, zero, suc, ◌+◌, ◌*◌, Bool, true, false, List, [], ◌∷◌, length, Some, Ok, Err, Result, sym, refl, ap}
use Rattle.std.specs.Prelude.{nat_lt, ◌==◌, if◌then◌else◌}
use Rattle.std.proofs.lemmas.Bool.{ltb-false, le-ltb}
use Rattle.jxlm_bits.specs.Bits.{bits_at}
use Rattle.jxlm_bits.specs.Decoding.{Found}
use Rattle.jxlm_bits.specs.ErrorKind as reading
use Rattle.jxlm_bits.specs.ErrorKind.{ErrorKind, Eof, ErrorAt}
use Rattle.jxlm_bits.specs.Grammar.{Grammar, IsExact, undone, number, give, fail, either, whole, repeated, flag, part, u32, ◌>>=◌}
use Rattle.jxlm_bits.specs.declared.bits.U32Spec.{U32Spec}
use Rattle.jxlm_bits.specs.declared.bits.U32Spec.TheVariants.{Const, Offset}

pub found_same : {X : Type 0} (a b : Found X) → ◌≡◌ {A = Result (Found X) ErrorAt} (Ok a) (Ok b) → a ≡ b
found_same a b e = cc

pub none_found : {X : Type 0} (e : ErrorAt) (found : Found X) → ◌≡◌ {A = Result (Found X) ErrorAt} (Err e) (Ok found) → ⊥
none_found e found same = cc

pub exact-give : {X : Type 0} (x : X) → IsExact (give x)
exact-give x = record {
  read_stands = λ bytes p found e. let same = found_same (record { value = x; position = p }) found e in (ap (λ f. f.value) (sym same), ap (λ f. f.position) (sym same));
  stands_read = λ bytes p y q s. rw (s.0, s.1) refl;
}

pub exact-fail : {X : Type 0} (error : ErrorKind) → IsExact (fail {X = X} error)
exact-fail error = record {
  read_stands = λ bytes p found e. none_found (record { error = error; position = Some p }) found e;
  stands_read = λ bytes p y q s. absurd s;
}

number_read : (bytes : List ℕ) (p n : ℕ) (found : Found ℕ) (b : Bool) → nat_lt (8 * length bytes) (p + n) ≡ b →
    if◌then◌else◌ {A = Result (Found ℕ) ErrorAt} b (Err (record { error = Eof; position = Some p })) (Ok (record { value = bits_at bytes p n; position = p + n })) ≡ Ok found →
    (number n).Stands bytes p found.value found.position
number_read bytes p n found true t e = absurd (none_found (record { error = Eof; position = Some p }) found e)
number_read bytes p n found false t e =
    let same = found_same (record { value = bits_at bytes p n; position = p + n }) found e in
    (ltb-false (8 * length bytes) (p + n) t, ap (λ f. f.value) (sym same), ap (λ f. f.position) (sym same))

pub exact-number : (n : ℕ) → IsExact (number n)
exact-number n = record {
  read_stands = λ bytes p found e. number_read bytes p n found (nat_lt (8 * length bytes) (p + n)) refl e;
  stands_read = λ bytes p v q s. rw (le-ltb (8 * length bytes) (p + n) s.0, s.1, s.2) refl;
}

then_found : {X Y : Type 0} (r : Result (Found X) ErrorAt) (next : Found X → Result (Found Y) ErrorAt) (found : Found Y) →
    reading.◌>>=◌ r next ≡ Ok found → (first : Found X) × (r ≡ Ok first) × (next first ≡ Ok found)
then_found (Ok first) next found e = (first, refl, e)
then_found (Err error) next found e = absurd (none_found error found e)

pub exact-bind : {X Y : Type 0} (field : Grammar X) (next : X → Grammar Y) → IsExact field → ((x : X) → IsExact (next x)) → IsExact (field >>= next)
exact-bind field next first rest = record {
  read_stands = λ bytes p found e.
      let (m, r, s) = then_found (field.read bytes p) (λ f. (next f.value).read bytes f.position) found e in
      (m.value, m.position, first.read_stands bytes p m r, (rest m.value).read_stands bytes m.position found s);
  stands_read = λ bytes p y q s.
      rw (first.stands_read bytes p s.0 s.1 s.2) ((rest s.0).stands_read bytes s.1 y q s.3);
}

pub bind : {X Y : Type 0} {field : Grammar X} {next : X → Grammar Y} → IsExact field → ((x : X) → IsExact (next x)) → IsExact (field >>= next)
bind {field} {next} first rest = exact-bind field next first rest

pub exact-either : {X : Type 0} (b : Bool) (f g : Grammar X) → IsExact f → IsExact g → IsExact (either b f g)
exact-either true f g x y = record { read_stands = x.read_stands; stands_read = x.stands_read }
exact-either false f g x y = record { read_stands = y.read_stands; stands_read = y.stands_read }

undone_found : {X : Type 0} (p : ℕ) (r : Result (Found X) ErrorAt) (found : Found X) → undone p r ≡ Ok found → r ≡ Ok found
undone_found p (Ok first) found e = e
undone_found p (Err error) found e = absurd (none_found (record { error = error.error; position = Some p }) found e)

pub exact-whole : {X : Type 0} (f : Grammar X) → IsExact f → IsExact (whole f)
exact-whole f x = record {
  read_stands = λ bytes p found e. x.read_stands bytes p found (undone_found p (f.read bytes p) found e);
  stands_read = λ bytes p y q s. rw (x.stands_read bytes p y q s) refl;
}

pub exact-repeated : {X : Type 0} (n : ℕ) (f : Grammar X) → IsExact f → IsExact (repeated n f)
exact-repeated zero f x = exact-give []
exact-repeated (suc n) f x =
    exact-bind f (λ v. repeated n f >>= λ vs. give (v ∷ vs)) x (λ v. exact-bind (repeated n f) (λ vs. give (v ∷ vs)) (exact-repeated n f x) (λ vs. exact-give (v ∷ vs)))

pub exact-flag : IsExact flag
exact-flag = exact-bind (number 1) (λ bit. give (bit == 1)) (exact-number 1) (λ bit. exact-give (bit == 1))

pub exact-part : (d : U32Spec) → IsExact (part d)
exact-part (Const n) = exact-give n
exact-part (Offset least n) = exact-bind (number n) (λ v. give (least + v)) (exact-number n) (λ v. exact-give (least + v))

pub exact-u32 : (d0 d1 d2 d3 : U32Spec) → IsExact (u32 d0 d1 d2 d3)
exact-u32 d0 d1 d2 d3 =
    let last : ℕ → Grammar ℕ = λ s. either (s == 2) (part d2) (part d3) in
    let middle : ℕ → Grammar ℕ = λ s. either (s == 1) (part d1) (last s) in
    let all : ℕ → Grammar ℕ = λ s. either (s == 0) (part d0) (middle s) in
    exact-whole (number 2 >>= all) (exact-bind (number 2) all (exact-number 2) (λ s.
    exact-either (s == 0) (part d0) (middle s) (exact-part d0)
    (exact-either (s == 1) (part d1) (last s) (exact-part d1)
    (exact-either (s == 2) (part d2) (part d3) (exact-part d2) (exact-part d3)))))
