-- The line that names a channel.
use Rattle.std.proofs.Common.{◌≡◌, ◌≢◌, ℕ, ◌^◌, ◌<◌, ◌≤◌, List, [], ◌∷◌, ◌++◌, length, drop, codes, None, Some, refl, sym, ap, ◌∙◌, subst, arith}
use Rattle.std.specs.Prelude.{Option, MatchOption}
use Rattle.std.specs.Fmt.{decimal}
use Rattle.std.proofs.lemmas.Fmt.{decimal_injective}
use Rattle.std.proofs.lemmas.List.{append_assoc}
use Rattle.jxl_text.specs.Printing.{name}
use Rattle.jxl_text.specs.Reading.{IsNamed}
use Rattle.jxl_text.specs.Inner.Cuts.{Lacks, IsCut}
use Rattle.jxl_text.specs.Inner.Words.{IsNoSize, IsSize, IsOfNoChannel, NamesNone, Names, WritesNoNumber}
use Rattle.jxl_text.proofs.Cuts.{SameCut, cut_is, no_cut, Lacks-append}
use Rattle.jxl_text.proofs.Decimals.{decimal_lacks}

abbrev NoSide : List ℕ → Type 0
NoSide word = (n : ℕ) → n ≤ 2 ^ 30 → word ≢ decimal n

pub side_none : (word : List ℕ) → WritesNoNumber word → NoSide word
side_none word none n small writes = none n (omega (arith, small)) writes

pub side_large : (word : List ℕ) (n : ℕ) → word ≡ decimal n → n < 2 ^ 32 → 2 ^ 30 < n → NoSide word
side_large word n is small large m low writes =
    let same : n ≡ m = decimal_injective n m (omega (arith, small)) (omega (arith, low)) (sym is ∙ writes) in
    omega (arith, large, low)

-- ---- the size

lacks_x : (n : ℕ) → n ≤ 2 ^ 30 → Lacks 120 (decimal n)
lacks_x n small = decimal_lacks 120 n (λ r. omega (arith, r.1)) (omega (arith, small))

pub size_uncut : (text : List ℕ) → Lacks 120 text → IsNoSize text
size_uncut text lacks w h wide high is = no_cut 120 text (decimal w) (decimal h) lacks is

pub size_wide : (text a b : List ℕ) → IsCut 120 text a b → NoSide a → IsNoSize text
size_wide text a b cut none w h wide high is = none w wide (cut_is 120 text a b (decimal w) (decimal h) cut is (lacks_x w wide)).before

pub size_high : (text a b : List ℕ) → IsCut 120 text a b → NoSide b → IsNoSize text
size_high text a b cut none w h wide high is = none h high (cut_is 120 text a b (decimal w) (decimal h) cut is (lacks_x w wide)).after

pub size_is : (text a b : List ℕ) (w h : ℕ) → IsCut 120 text a b → a ≡ decimal w → w ≤ 2 ^ 30 → b ≡ decimal h → h ≤ 2 ^ 30 → IsSize text w h
size_is text a b w h cut first wide second high = record { wide = wide; high = high; is = cut.is ∙ ap (λ xs. xs ++ 120 ∷ b) first ∙ ap (λ ys. decimal w ++ 120 ∷ ys) second }

-- ---- the word before the number

lacks_space : Lacks 32 (codes "channel")
lacks_space = (omega arith, (omega arith, (omega arith, (omega arith, (omega arith, (omega arith, (omega arith, tt)))))))

pub channel_uncut : (line : List ℕ) → Lacks 32 line → IsOfNoChannel line
channel_uncut line lacks rest is = no_cut 32 line (codes "channel") rest lacks is

pub channel_other : (line word after : List ℕ) → IsCut 32 line word after → word ≢ codes "channel" → IsOfNoChannel line
channel_other line word after cut other rest is = other (cut_is 32 line word after (codes "channel") rest cut is lacks_space).before

pub channel_is : (line word after : List ℕ) → IsCut 32 line word after → word ≡ codes "channel" → line ≡ codes "channel" ++ 32 ∷ after
channel_is line word after cut is = cut.is ∙ ap (λ xs. xs ++ 32 ∷ after) is

-- ---- all of it

abbrev numbers : ℕ → ℕ → ℕ → List ℕ
numbers n w h = decimal n ++ 32 ∷ (decimal w ++ 120 ∷ decimal h)

name_is : (n w h : ℕ) → name n w h ≡ codes "channel" ++ 32 ∷ numbers n w h
name_is n w h = simp append_assoc

lacks_gap : (n : ℕ) → n < 2 ^ 20 → Lacks 32 (decimal n)
lacks_gap n small = decimal_lacks 32 n (λ r. omega (arith, r.0)) (omega (arith, small))

pub no_name : (line : List ℕ) (n : ℕ) → IsOfNoChannel line → NamesNone n line
no_name line n none w h named is = none (numbers n w h) (is ∙ name_is n w h)

-- what comes after the word, where the line is a name
after_word : (line rest : List ℕ) (n w h : ℕ) → line ≡ codes "channel" ++ 32 ∷ rest → line ≡ name n w h → rest ≡ numbers n w h
after_word line rest n w h is names = ap (λ xs. drop 8 xs) (sym is ∙ names ∙ name_is n w h)

pub no_index : (line rest : List ℕ) (n : ℕ) → line ≡ codes "channel" ++ 32 ∷ rest → Lacks 32 rest → NamesNone n line
no_index line rest n is lacks w h named names = no_cut 32 rest (decimal n) (decimal w ++ 120 ∷ decimal h) lacks (after_word line rest n w h is names)

parts : (line rest index text : List ℕ) (n w h : ℕ) → line ≡ codes "channel" ++ 32 ∷ rest → IsCut 32 rest index text → IsNamed n w h → line ≡ name n w h → SameCut index (decimal n) text (decimal w ++ 120 ∷ decimal h)
parts line rest index text n w h is cut named names =
    cut_is 32 rest index text (decimal n) (decimal w ++ 120 ∷ decimal h) cut (after_word line rest n w h is names) (lacks_gap n named.count)

pub index_none : (line rest index text : List ℕ) (n : ℕ) → line ≡ codes "channel" ++ 32 ∷ rest → IsCut 32 rest index text → WritesNoNumber index → NamesNone n line
index_none line rest index text n is cut none w h named names = none n (omega (arith, named.count)) (parts line rest index text n w h is cut named names).before

pub index_other : (line rest index text : List ℕ) (n m : ℕ) → line ≡ codes "channel" ++ 32 ∷ rest → IsCut 32 rest index text → index ≡ decimal m → m < 2 ^ 32 → m ≢ n → NamesNone n line
index_other line rest index text n m is cut writes small other w h named names =
    other (decimal_injective m n (omega (arith, small)) (omega (arith, named.count)) (sym writes ∙ (parts line rest index text n w h is cut named names).before))

pub number_large : (line : List ℕ) (n : ℕ) → 2 ^ 20 ≤ n → NamesNone n line
number_large line n large w h named names = omega (arith, named.count, large)

pub sizes_give : (line rest index text : List ℕ) (n m : ℕ) (r : Option (ℕ × ℕ)) → line ≡ codes "channel" ++ 32 ∷ rest → IsCut 32 rest index text → index ≡ decimal m → m ≡ n → n < 2 ^ 20 → MatchOption r (IsNoSize text) (λ p. IsSize text p.0 p.1) → MatchOption r (NamesNone n line) (λ p. Names n line p.0 p.1)
sizes_give line rest index text n m None is cut writes same small none = λ w h named names. none w h named.wide named.high (parts line rest index text n w h is cut named names).after
sizes_give line rest index text n m (Some p) is cut writes same small gives = record {
  named = record { count = small; wide = gives.wide; high = gives.high };
  is = is ∙ ap (λ xs. codes "channel" ++ 32 ∷ xs) (cut.is ∙ ap (λ xs. xs ++ 32 ∷ text) (writes ∙ ap decimal same) ∙ ap (λ xs. decimal n ++ 32 ∷ xs) gives.is) ∙ sym (name_is n p.0 p.1);
}

-- no line ends within a name
pub name_lacks : (n w h : ℕ) → IsNamed n w h → Lacks 10 (name n w h)
name_lacks n w h named =
    let digits = λ (k : ℕ) (small : k < 2 ^ 64). decimal_lacks 10 k (λ r. omega (arith, r.0)) small in
    subst (Lacks 10) (sym (name_is n w h))
    (Lacks-append 10 (codes "channel ") (numbers n w h) (omega arith, (omega arith, (omega arith, (omega arith, (omega arith, (omega arith, (omega arith, (omega arith, tt))))))))
    (Lacks-append 10 (decimal n) (32 ∷ (decimal w ++ 120 ∷ decimal h)) (digits n (omega (arith, named.count)))
    (omega arith, Lacks-append 10 (decimal w) (120 ∷ decimal h) (digits w (omega (arith, named.wide))) (omega arith, digits h (omega (arith, named.high))))))
