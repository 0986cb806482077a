-- A stream of literal bytes encodes its profile.
use Rattle.std.proofs.Common.{◌≡◌, ℕ, zero, suc, ◌+◌, ◌-◌, ◌%◌, ◌^◌, ◌<◌, ◌≤◌, min, List, [], ◌∷◌, ◌++◌, length, take, drop, get_or, Ok, inl, inr, refl, sym, ap, subst, ◌∙◌, arith, append_assoc}
use Rattle.std.specs.Prelude.{slice_index, slice_range}
use Rattle.std.proofs.lemmas.Bool.{cases_lt, eq-eqb, ne_eqb, le-leb, lt-leb, le-ltb}
use Rattle.std.proofs.lemmas.List.{drop_all, get_or-drop, length-append, length-drop, length-take-le, take-append-drop, take_all, take_more, get_or_append_left}
use Rattle.jxl_icc.specs.Commands.{command_at}
use Rattle.jxl_icc.specs.Growth.{extend}
use Rattle.jxl_icc.specs.Header.{header_byte, predicted}
use Rattle.jxl_icc.specs.Profiles.{SoFar, body, contents, icc_of, list, step}
use Rattle.jxl_icc_write.specs.Inner.Streams.{AreResiduals, literal_commands, number_bytes}
use Rattle.jxl_icc_write.proofs.NumberBytes.{byte_at, bytes_below, few_bytes, found_there, inside_at, next_at, rest_at, zero_there}

-- the header is what the residuals and the predictions make
header_is : (icc residuals bytes rest : List ℕ) (at n : ℕ) → AreResiduals icc residuals → drop at bytes ≡ residuals ++ rest → n ≤ length residuals → extend (header_byte bytes at (length icc)) [] n ≡ take n icc
unfolding extend
header_is icc residuals bytes rest at zero are e le = refl
header_is icc residuals bytes rest at (suc n) are e le =
    let before = header_is icc residuals bytes rest at n are e (omega (arith, le)) in
    let short = are.short in
    let here : slice_index bytes (at + n) ≡ slice_index residuals n =
    sym (get_or-drop at bytes n 0) ∙ ap (λ (xs : List ℕ). get_or xs n 0) e ∙ get_or_append_left residuals rest 0 n (omega (arith, le)) in
    let byte : (slice_index bytes (at + n) + predicted (length icc) (take n icc) n) % 256 ≡ slice_index icc n =
    ap (λ (b : ℕ). (b + predicted (length icc) (take n icc) n) % 256) here ∙ are.each n (omega (arith, le)) in
    let next : n + 1 ≡ suc n = omega arith in
    ap (λ (xs : List ℕ). xs ++ (slice_index bytes (at + n) + predicted (length icc) xs n) % 256 ∷ []) before
    ∙ ap (λ (b : ℕ). take n icc ++ b ∷ []) byte ∙ sym (take_more icc n 0 (omega (arith, le, short))) ∙ ap (λ (k : ℕ). take k icc) next

module _ (bytes : List ℕ) (end size : ℕ) where
  -- where the commands end, the profile so far is all
  contents_end : (n : ℕ) (s : SoFar) → s.place ≡ end → contents bytes end size n s ≡ Ok s
  unfolding contents
  contents_end zero s e = refl
  contents_end (suc n) s e = rw (eq-eqb s.place end e) refl

  -- a command that ends there is the last
  contents_last : (n : ℕ) (s t : SoFar) → (s.place ≡ end → ⊥) → step bytes end size s ≡ Ok t → t.place ≡ end → contents bytes end size (suc n) s ≡ Ok t
  unfolding contents
  contents_last n s t ne h e = rw (ne_eqb s.place end ne, h) (contents_end n t e)

-- a number of 32 bits has at most five bytes
five : (v : ℕ) → v < 2 ^ 32 → v < 128 ^ 5
five v lt = let q : 128 ^ 5 ≡ 34359738368 = refl in omega (arith, lt, q)

-- literal bytes are the command of code 1
literal_step : (bytes : List ℕ) (end size p at n : ℕ) (out rest : List ℕ) → n < 2 ^ 32 → drop p bytes ≡ 1 ∷ (number_bytes 4 n ++ rest) → p + 1 + length (number_bytes 4 n) ≡ end →
    n ≤ length bytes - at → n ≤ size - length out → step bytes end size (record { place = p; at = at; out = out }) ≡ Ok (record { place = end; at = at + n; out = out ++ slice_range bytes at (at + n) })
unfolding step command_at
literal_step bytes end size p at n out rest small e ends enough room =
    let found = found_there 4 n (five n small) (omega arith) bytes end (p + 1) rest (next_at bytes p 1 (number_bytes 4 n ++ rest) e) (omega (arith, ends)) in
    rw (byte_at bytes p 1 (number_bytes 4 n ++ rest) e, found, le-ltb (length bytes - at) n enough, le-ltb (size - length out) n room, ends) refl

module _ (icc residuals bytes : List ℕ) (p : ℕ) (fits : length icc < 2 ^ 32) (are : AreResiduals icc residuals) (count : length residuals ≡ min (length icc) 128) (room : p ≤ length bytes) where
  -- where all of the profile is its header
  short_body : length icc ≤ 128 → drop p bytes ≡ residuals ++ drop (length residuals) icc → body bytes p p (length icc) ≡ Ok icc
  unfolding body
  short_body le e =
      let n : min (length icc) 128 ≡ length icc = omega (arith, le) in
      let none : drop (length residuals) icc ≡ [] = drop_all (length residuals) icc (omega (arith, count, le)) in
      let l = inside_at bytes p residuals (drop (length residuals) icc) room e in
      let m = length-drop (length residuals) icc in
      let head : extend (header_byte bytes p (length icc)) [] (length icc) ≡ icc =
      header_is icc residuals bytes (drop (length residuals) icc) p (length icc) are e (omega (arith, count, le)) ∙ take_all (length icc) icc (omega arith) in
      let used : p + length icc ≡ length bytes = omega (arith, l, m, count, le) in
      let enough : length icc ≤ length bytes - p = omega (arith, used) in
      rw (n, le-ltb (length bytes - p) (length icc) enough, le-leb (length icc) 128 le, head, eq-eqb p p refl, eq-eqb (p + length icc) (length bytes) used, eq-eqb (length icc) (length icc) refl) refl

  -- where bytes follow the header
  module _ (end : ℕ) (long : 128 < length icc) (e : drop p bytes ≡ 0 ∷ (1 ∷ (number_bytes 4 (length icc - 128) ++ (residuals ++ drop (length residuals) icc)))) (ends : p + 1 + 1 + length (number_bytes 4 (length icc - 128)) ≡ end) where
    abbrev rest : List ℕ
    rest = residuals ++ drop (length residuals) icc

    many : length residuals ≡ 128
    many = omega (arith, count, long)

    after_zero : drop (p + 1) bytes ≡ 1 ∷ (number_bytes 4 (length icc - 128) ++ rest)
    after_zero = next_at bytes p 0 (1 ∷ (number_bytes 4 (length icc - 128) ++ rest)) e

    after_commands : drop end bytes ≡ rest
    after_commands = subst (λ (q : ℕ). drop q bytes ≡ rest) ends
        (rest_at bytes (p + 1 + 1) (number_bytes 4 (length icc - 128)) rest (next_at bytes (p + 1) 1 (number_bytes 4 (length icc - 128) ++ rest) after_zero))

    after_header : drop (end + 128) bytes ≡ drop 128 icc
    after_header = subst (λ (n : ℕ). drop (end + n) bytes ≡ drop n icc) many (rest_at bytes end residuals (drop (length residuals) icc) after_commands)

    all_used : end + 128 + (length icc - 128) ≡ length bytes
    all_used =
        let l = inside_at bytes p (0 ∷ (1 ∷ number_bytes 4 (length icc - 128))) rest room e in
        let m = length-append residuals (drop (length residuals) icc) in
        let n = length-drop (length residuals) icc in
        omega (arith, l, m, n, many, ends, long)

    header_there : extend (header_byte bytes end (length icc)) [] 128 ≡ take 128 icc
    header_there = header_is icc residuals bytes (drop (length residuals) icc) end 128 are after_commands (omega (arith, many))

    list_there : list bytes end (length icc) (record { place = p; at = end + 128; out = take 128 icc }) ≡ Ok (record { place = p + 1; at = end + 128; out = take 128 icc })
    unfolding list
    list_there = rw (zero_there bytes end p (1 ∷ (number_bytes 4 (length icc - 128) ++ rest)) e (omega (arith, ends))) refl

    literals_are : slice_range bytes (end + 128) (end + 128 + (length icc - 128)) ≡ drop 128 icc
    literals_are =
        let n = length-drop 128 icc in
        ap (take (end + 128 + (length icc - 128) - (end + 128))) after_header ∙ take_all (end + 128 + (length icc - 128) - (end + 128)) (drop 128 icc) (omega (arith, n))

    profile_is : take 128 icc ++ slice_range bytes (end + 128) (end + 128 + (length icc - 128)) ≡ icc
    profile_is = ap (λ (xs : List ℕ). take 128 icc ++ xs) literals_are ∙ take-append-drop 128 icc

    contents_there : contents bytes end (length icc) (end - (p + 1)) (record { place = p + 1; at = end + 128; out = take 128 icc })
        ≡ Ok (record { place = end; at = end + 128 + (length icc - 128); out = take 128 icc ++ slice_range bytes (end + 128) (end + 128 + (length icc - 128)) })
    contents_there =
        let fuel : suc (end - (p + 1 + 1)) ≡ end - (p + 1) = omega (arith, ends) in
        let l = length-take-le 128 icc (omega (arith, long)) in
        let used = all_used in
        let s : SoFar = record { place = p + 1; at = end + 128; out = take 128 icc } in
        let t : SoFar = record { place = end; at = end + 128 + (length icc - 128); out = take 128 icc ++ slice_range bytes (end + 128) (end + 128 + (length icc - 128)) } in
        subst (λ (n : ℕ). contents bytes end (length icc) n s ≡ Ok t) fuel
        (contents_last bytes end (length icc) (end - (p + 1 + 1)) s t (λ same. omega (arith, same, ends))
        (literal_step bytes end (length icc) (p + 1) (end + 128) (length icc - 128) (take 128 icc) rest (omega (arith, fits)) after_zero ends (omega (arith, used)) (omega (arith, l))) refl)

    long_body : body bytes p end (length icc) ≡ Ok icc
    unfolding body
    long_body =
        let n : min (length icc) 128 ≡ 128 = omega (arith, long) in
        let used = all_used in
        let enough : 128 ≤ length bytes - end = omega (arith, used) in
        rw (n, le-ltb (length bytes - end) 128 enough, lt-leb (length icc) 128 long, header_there, list_there, contents_there, eq-eqb end end refl, eq-eqb (end + 128 + (length icc - 128)) (length bytes) used, profile_is, eq-eqb (length icc) (length icc) refl) refl

-- the commands of a short profile, and of a long one
no_commands : (size : ℕ) → size ≤ 128 → literal_commands size ≡ []
no_commands size le = rw (le-leb size 128 le) refl

some_commands : (size : ℕ) → 128 < size → literal_commands size ≡ 0 ∷ (1 ∷ number_bytes 4 (size - 128))
some_commands size lt = rw (lt-leb size 128 lt) refl

pub few_commands : (size : ℕ) → length (literal_commands size) ≤ 7
few_commands size = elim (cases_lt 128 size) [
  | inl long ↦ let e = ap length (some_commands size long) in let n = few_bytes 4 (size - 128) in omega (arith, e, n)
  | inr short ↦ let e = ap length (no_commands size short) in omega (arith, e)
]

module _ (icc residuals encoded : List ℕ) (fits : length icc < 2 ^ 32) (are : AreResiduals icc residuals) (count : length residuals ≡ min (length icc) 128)
    (e : encoded ≡ number_bytes 4 (length icc) ++ (number_bytes 4 (length (literal_commands (length icc))) ++ (literal_commands (length icc) ++ (residuals ++ drop (length residuals) icc)))) where
  abbrev commands : List ℕ
  commands = literal_commands (length icc)

  abbrev after : List ℕ
  after = residuals ++ drop (length residuals) icc

  abbrev first : ℕ
  first = 0 + length (number_bytes 4 (length icc))

  abbrev second : ℕ
  second = first + length (number_bytes 4 (length commands))

  after_size : drop first encoded ≡ number_bytes 4 (length commands) ++ (commands ++ after)
  after_size = rest_at encoded 0 (number_bytes 4 (length icc)) (number_bytes 4 (length commands) ++ (commands ++ after)) e

  after_count : drop second encoded ≡ commands ++ after
  after_count = rest_at encoded first (number_bytes 4 (length commands)) (commands ++ after) after_size

  all_there : second + length commands + length after ≡ length encoded
  all_there =
      let a = inside_at encoded 0 (number_bytes 4 (length icc)) (number_bytes 4 (length commands) ++ (commands ++ after)) (omega arith) e in
      let b = length-append (number_bytes 4 (length commands)) (commands ++ after) in
      let c = length-append commands after in
      omega (arith, a, b, c)

  -- the stream is at most 16 bytes longer than the profile
  pub literals_long : length encoded ≤ length icc + 16
  literals_long =
      let few = few_commands (length icc) in
      let a = few_bytes 4 (length icc) in
      let b = ap length (bytes_below 4 (length commands) (omega (arith, few))) in
      let l = length-append residuals (drop (length residuals) icc) in
      let m = length-drop (length residuals) icc in
      let all = all_there in
      omega (arith, few, a, b, l, m, all, count)

  whole_body : body encoded second (second + length commands) (length icc) ≡ Ok icc
  whole_body =
      let all = all_there in
      let inside : second ≤ length encoded = omega (arith, all) in
      elim (cases_lt 128 (length icc)) [
        | inl long ↦
            let are_some = some_commands (length icc) long in
            long_body icc residuals encoded second fits are count inside (second + length commands) long (after_count ∙ ap (λ (xs : List ℕ). xs ++ after) are_some)
            (let n = ap length are_some in omega (arith, n))
        | inr short ↦
            let none = no_commands (length icc) short in
            let same : second ≡ second + length commands = let n = ap length none in omega (arith, n) in
            subst (λ (q : ℕ). body encoded second q (length icc) ≡ Ok icc) same (short_body icc residuals encoded second fits are count inside short (after_count ∙ ap (λ (xs : List ℕ). xs ++ after) none))
      ]

  -- and it encodes the profile
  pub literals_decode : (max : ℕ) → length icc ≤ max → icc_of max encoded ≡ Ok icc
  unfolding icc_of
  literals_decode max le =
      let all = all_there in
      let few = few_commands (length icc) in
      let size = found_there 4 (length icc) (five (length icc) fits) (omega arith) encoded (length encoded) 0 (number_bytes 4 (length commands) ++ (commands ++ after)) e (omega (arith, all)) in
      let counted = found_there 4 (length commands) (five (length commands) (omega (arith, few))) (omega arith) encoded (length encoded) first (commands ++ after) after_size (omega (arith, all)) in
      let enough : length commands ≤ length encoded - second = omega (arith, all) in
      let below : length icc < 4294967296 = omega (arith, fits) in
      rw (size, le-ltb max (length icc) le, lt-leb 4294967296 (length icc) below, counted, le-ltb (length encoded - second) (length commands) enough, whole_body) refl

-- the parts of a stream, one after another
pub parts_joined : (a b c d e none first second third fourth all : List ℕ) → none ≡ [] → first ≡ none ++ a → second ≡ first ++ b → third ≡ second ++ c → fourth ≡ third ++ d → all ≡ fourth ++ e → all ≡ a ++ (b ++ (c ++ (d ++ e)))
parts_joined a b c d e none first second third fourth all start f s t u v =
    v ∙ ap (λ (xs : List ℕ). xs ++ e) (u ∙ ap (λ (xs : List ℕ). xs ++ d) (t ∙ ap (λ (xs : List ℕ). xs ++ c) (s ∙ ap (λ (xs : List ℕ). xs ++ b) (f ∙ ap (λ (xs : List ℕ). xs ++ a) start))))
    ∙ ap (λ (xs : List ℕ). (xs ++ d) ++ e) (append_assoc a b c) ∙ ap (λ (xs : List ℕ). xs ++ e) (append_assoc a (b ++ c) d) ∙ append_assoc a ((b ++ c) ++ d) e
    ∙ ap (λ (xs : List ℕ). a ++ (xs ++ e)) (append_assoc b c d) ∙ ap (λ (xs : List ℕ). a ++ xs) (append_assoc b (c ++ d) e) ∙ ap (λ (xs : List ℕ). a ++ (b ++ xs)) (append_assoc c d e)

-- a stream of given parts is that of the profile
pub stream_is : (all icc given seen header others : List ℕ) → length header ≡ min (length icc) 128 → all ≡ number_bytes 4 (length icc) ++ (number_bytes 4 (length given) ++ (given ++ (seen ++ others))) → given ≡ literal_commands (length icc) →
    seen ≡ header → others ≡ drop (min (length icc) 128) icc → all ≡ number_bytes 4 (length icc) ++ (number_bytes 4 (length (literal_commands (length icc))) ++ (literal_commands (length icc) ++ (header ++ drop (length header) icc)))
stream_is all icc given seen header others count e a b c =
    e ∙ ap (λ (xs : List ℕ). number_bytes 4 (length icc) ++ (number_bytes 4 (length xs) ++ (xs ++ (seen ++ others)))) a
    ∙ ap (λ (xs : List ℕ). number_bytes 4 (length icc) ++ (number_bytes 4 (length (literal_commands (length icc))) ++ (literal_commands (length icc) ++ (xs ++ others)))) b
    ∙ ap (λ (xs : List ℕ). number_bytes 4 (length icc) ++ (number_bytes 4 (length (literal_commands (length icc))) ++ (literal_commands (length icc) ++ (header ++ xs)))) (c ∙ ap (λ (n : ℕ). drop n icc) (sym count))
