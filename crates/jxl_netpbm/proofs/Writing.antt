-- What a writer holds after one write more.
use Rattle.std.proofs.Common.{◌≡◌, ℕ, zero, suc, ◌+◌, ◌-◌, ◌*◌, ◌<◌, ◌≤◌, List, [], ◌++◌, length, length-drop, take, drop, None, Option, Some, refl, sym, ap, ◌∙◌, subst, append_assoc, append-nil, take-append-drop, add-one, arith, Result, Ok, Err}
use Rattle.std.specs.Prelude.{OnErr, OnOk}
use Rattle.std.specs.Io.KnownBytes.{Appends, Keeps}
use Rattle.std.specs.List.{flat_map, range_with_len}
use Rattle.std.proofs.KnownBytes.{Appends-nil, Appends-trans, Appends-kept}
use Rattle.std.proofs.Math.Nat.{mul-le-mul_right, suc-mul}
use Rattle.std.proofs.Math.Seq.{take-add}
use Rattle.std.proofs.lemmas.List.{length-append, take_all}
use Rattle.jxl_netpbm.specs.Output.{AppendsBeginning, AppendsLess, IsWriters}
use Rattle.std.specs.declared.io.Error.{Error}
use Rattle.jxl_netpbm.specs.declared.output.WriteError.{WriteError}
use Rattle.jxl_netpbm.specs.declared.output.WriteError.TheVariants.{OutOfMemory}
use Rattle.jxl_netpbm.proofs.Growing.{below_more}

pub wrote_more : (held now after : Option (List ℕ)) (bytes part : List ℕ) (at n : ℕ) → Appends held now (take at bytes) → part ≡ drop at bytes → Appends now after (take n part) → Appends held after (take (at + n) bytes)
wrote_more held now after bytes part at n p is q =
    subst (λ (bs : List ℕ). Appends held after bs) (ap (λ (xs : List ℕ). take at bytes ++ take n xs) is ∙ sym (take-add at n bytes)) (Appends-trans held now after (take at bytes) (take n part) p q)

pub wrote_all : (held now : Option (List ℕ)) (bytes : List ℕ) (at : ℕ) → length bytes ≤ at → Appends held now (take at bytes) → Appends held now bytes
wrote_all held now bytes at all p = subst (λ (bs : List ℕ). Appends held now bs) (take_all at bytes all) p

-- no byte is a beginning
pub begun_none : (held : Option (List ℕ)) (text : List ℕ) → AppendsBeginning held held text
begun_none held text = record { part = []; rest = text; appended = Appends-nil held; whole = refl }

-- the first bytes are a beginning, and not all
pub wrote_less : (held now : Option (List ℕ)) (bytes : List ℕ) (at : ℕ) → at < length bytes → Appends held now (take at bytes) → AppendsLess held now bytes
wrote_less held now bytes at lt p = record {
  part = take at bytes;
  rest = drop at bytes;
  appended = p;
  whole = sym (take-append-drop at bytes);
  left = let l = length-drop at bytes in omega (arith, l, lt);
}

-- less than a text is a beginning of it
pub less_begun : (held now : Option (List ℕ)) (text : List ℕ) → AppendsLess held now text → AppendsBeginning held now text
less_begun held now text b = record { part = b.part; rest = b.rest; appended = b.appended; whole = b.whole }

-- a write that failed wrote nothing more
pub wrote_no_more : (held now after : Option (List ℕ)) (bytes : List ℕ) (at : ℕ) → Appends held now (take at bytes) → Keeps now after → Appends held after (take at bytes)
wrote_no_more held now after bytes at p q = Appends-kept held now after (take at bytes) p q

-- what was begun is the first of two parts, or the second
pub less_first : (held now : Option (List ℕ)) (first second : List ℕ) → AppendsLess held now first → AppendsLess held now (first ++ second)
less_first held now first second b = record {
  part = b.part;
  rest = b.rest ++ second;
  appended = b.appended;
  whole = ap (λ (t : List ℕ). t ++ second) b.whole ∙ append_assoc b.part b.rest second;
  left = let l = length-append b.rest second in let m = b.left in omega (arith, l, m);
}

pub less_second : (held now after : Option (List ℕ)) (first second : List ℕ) → Appends held now first → AppendsLess now after second → AppendsLess held after (first ++ second)
less_second held now after first second p b = record {
  part = first ++ b.part;
  rest = b.rest;
  appended = Appends-trans held now after first b.part p b.appended;
  whole = ap (λ (t : List ℕ). first ++ t) b.whole ∙ sym (append_assoc first b.part b.rest);
  left = b.left;
}

-- The writer got a beginning of the text, and these bytes are the rest.
pub record IsPending (held now : Option (List ℕ)) (bytes text : List ℕ) : Type 0 where
  pub part : List ℕ
  pub appended : Appends held now part
  pub whole : part ++ bytes ≡ text

-- nothing is left to be written
pub pending_none : (held now : Option (List ℕ)) (bytes text : List ℕ) → Appends held now text → bytes ≡ [] → IsPending held now bytes text
pending_none held now bytes text p e = record { part = text; appended = p; whole = ap (λ (t : List ℕ). text ++ t) e ∙ append-nil text }

module _ (held now : Option (List ℕ)) (bytes text : List ℕ) (is : IsPending held now bytes text) where
  pub pending_more : (after row more : List ℕ) → after ≡ bytes ++ row → more ≡ text ++ row → IsPending held now after more
  pending_more after row more e f = record {
    part = is.part;
    appended = is.appended;
    whole = ap (λ (t : List ℕ). is.part ++ t) e ∙ sym (append_assoc is.part bytes row) ∙ ap (λ (t : List ℕ). t ++ row) is.whole ∙ sym f;
  }

  pub pending_written : (after : Option (List ℕ)) → Appends now after bytes → Appends held after text
  pending_written after p = subst (λ (t : List ℕ). Appends held after t) is.whole (Appends-trans held now after is.part bytes is.appended p)

  pub pending_less : (after : Option (List ℕ)) → AppendsLess now after bytes → AppendsLess held after text
  pending_less after b = subst (λ (t : List ℕ). AppendsLess held after t) is.whole (less_second held now after is.part bytes is.appended b)

-- rows that come later
below_rest : (f : ℕ → List ℕ) (n d m : ℕ) → n + d ≡ m → (rest : List ℕ) × (flat_map f (range_with_len 0 m) ≡ flat_map f (range_with_len 0 n) ++ rest)
below_rest f n zero m e =
    let same : m ≡ n = omega (arith, e) in
    ([], ap (λ (k : ℕ). flat_map f (range_with_len 0 k)) same ∙ sym (append-nil (flat_map f (range_with_len 0 n))))
below_rest f n (suc d) m e =
    let (rest, is) = below_rest f n d (n + d) refl in
    let same : m ≡ n + d + 1 = omega (arith, e) in
    (rest ++ f (n + d), ap (λ (k : ℕ). flat_map f (range_with_len 0 k)) same ∙ below_more f (n + d) ∙ ap (λ (t : List ℕ). t ++ f (n + d)) is ∙ append_assoc (flat_map f (range_with_len 0 n)) rest (f (n + d)))

pub less_rows : (held now : Option (List ℕ)) (f : ℕ → List ℕ) (n m : ℕ) → n ≤ m → AppendsLess held now (flat_map f (range_with_len 0 n)) → AppendsLess held now (flat_map f (range_with_len 0 m))
less_rows held now f n m le b =
    let (rest, is) = below_rest f n (m - n) m (omega arith) in
    subst (λ (t : List ℕ). AppendsLess held now t) (sym is) (less_first held now (flat_map f (range_with_len 0 n)) rest b)

-- room for one of n pieces of b bytes each
pub room_next : (at i n b len : ℕ) → i < n → at + n * b ≤ len → at + i * b + b ≤ len
room_next at i n b len less room =
    let p : suc i * b ≤ n * b = mul-le-mul_right {m = suc i} {n = n} b (omega (arith, less)) in
    let q : suc i * b ≡ i * b + b = suc-mul i b in
    omega (arith, p, q, room)

-- the place after one piece more
pub place_next : (at i b end after : ℕ) → end ≡ at + i * b → after ≡ end + b → after ≡ at + (i + 1) * b
place_next at i b end after e f = rw add-one (let q : suc i * b ≡ i * b + b = suc-mul i b in omega (arith, e, f, q))

pub room_here : (at i n b end len now : ℕ) → i < n → end ≡ at + i * b → at + n * b ≤ len → now ≡ len → end + b ≤ now
room_here at i n b end len now less is room same = let p = room_next at i n b len less room in omega (arith, p, is, same)

-- what is known after an error
pub on_err : {A E : Type 0} (r : Result A E) (P : Type 0) → P → OnErr r P
on_err (Ok a) P p = tt
on_err (Err e) P p = p

pub on_err_so : {A E : Type 0} (r : Result A E) (P Q : Type 0) → (P → Q) → OnErr r P → OnErr r Q
on_err_so (Ok a) P Q f p = tt
on_err_so (Err e) P Q f p = f p

-- what is known without one
pub on_ok_so : {A E : Type 0} (r : Result A E) (P Q : Type 0) → (P → Q) → OnOk r P → OnOk r Q
on_ok_so (Ok a) P Q f p = f p
on_ok_so (Err e) P Q f p = tt

-- a write after those that wrote nothing
pub kept_appends : (held now after : Option (List ℕ)) (bytes : List ℕ) → Keeps held now → Appends now after bytes → Appends held after bytes
kept_appends None now after bytes p q = tt
kept_appends (Some x) None after bytes p q = absurd p
kept_appends (Some x) (Some y) None bytes p q = absurd q
kept_appends (Some x) (Some y) (Some z) bytes p q = q ∙ ap (λ (t : List ℕ). t ++ bytes) p

-- a write of no byte wrote nothing
pub none_kept : (held now after : Option (List ℕ)) (bytes : List ℕ) (n : ℕ) → n ≡ 0 → Keeps held now → Appends now after (take n bytes) → Keeps held after
none_kept None now after bytes n e p q = tt
none_kept (Some x) None after bytes n e p q = absurd p
none_kept (Some x) (Some y) None bytes n e p q = absurd q
none_kept (Some x) (Some y) (Some z) bytes n e p q = subst (λ (k : ℕ). z ≡ y ++ take k bytes) e q ∙ append-nil y ∙ p

-- out of memory is no error of the writer
pub memory_fails : (by : Error → Type 0) (e : WriteError) → e ≡ OutOfMemory → IsWriters by e
memory_fails by e is = subst (λ (x : WriteError). IsWriters by x) (sym is) tt
