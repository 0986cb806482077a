use Rattle.std.proofs.Common.{◌≡◌, ℕ, zero, suc, ◌+◌, ◌<◌, ◌≤◌, List, [], ◌∷◌, length, get_or, Bool, true, eqb, ◌&&◌, ◌∙◌, refl, arith, add-zero}
use Rattle.std.proofs.lemmas.Bool.Decides.{nat_tests}
use Rattle.jxlm_weighted.specs.SelfCorrecting.{reciprocal}
use Rattle.jxlm_weighted.proofs.self_correcting.reciprocal.Goals as goal

-- each number is the reciprocal of its index, of which the first is k
abbrev list_reciprocals : List ℕ → ℕ → Bool
list_reciprocals [] k = true
list_reciprocals (x ∷ xs) k = eqb x (reciprocal k) && list_reciprocals xs (k + 1)

first : (x : ℕ) (xs : List ℕ) (k : ℕ) → list_reciprocals (x ∷ xs) k ≡ true → (x ≡ reciprocal k) × (list_reciprocals xs (k + 1) ≡ true)
first x xs k h = (grind (arith, nat_tests), grind (arith, nat_tests))

listed : (xs : List ℕ) (i k : ℕ) → list_reciprocals xs k ≡ true → i < length xs → get_or xs i 0 ≡ reciprocal (k + i)
listed [] i k h l = absurd (omega arith)
listed (x ∷ xs) zero k h l = rw add-zero (first x xs k h).0
listed (x ∷ xs) (suc i) k h l = let e : k + 1 + i ≡ k + suc i = omega arith in rw (← e) (listed xs i (k + 1) (first x xs k h).1 (omega arith))

listed_first : (xs : List ℕ) (i : ℕ) → list_reciprocals xs 0 ≡ true → 65 ≡ length xs → i ≤ 64 → get_or xs i 0 ≡ reciprocal i
listed_first xs i h e l = let z : 0 + i ≡ i = omega arith in listed xs i 0 h (omega arith) ∙ rw z refl

-- the table of the code
abbrev table : List ℕ
table = 0 ∷ 16777216 ∷ 8388608 ∷ 5592405 ∷ 4194304 ∷ 3355443 ∷ 2796202 ∷ 2396745 ∷ 2097152 ∷ 1864135 ∷ 1677721 ∷ 1525201 ∷ 1398101 ∷ 1290555 ∷ 1198372 ∷ 1118481 ∷ 1048576 ∷ 986895 ∷ 932067 ∷ 883011 ∷ 838860 ∷ 798915 ∷ 762600 ∷ 729444 ∷ 699050 ∷ 671088 ∷ 645277 ∷ 621378 ∷ 599186 ∷ 578524 ∷ 559240 ∷ 541200 ∷ 524288 ∷ 508400 ∷ 493447 ∷ 479349 ∷ 466033 ∷ 453438 ∷ 441505 ∷ 430185 ∷ 419430 ∷ 409200 ∷ 399457 ∷ 390167 ∷ 381300 ∷ 372827 ∷ 364722 ∷ 356962 ∷ 349525 ∷ 342392 ∷ 335544 ∷ 328965 ∷ 322638 ∷ 316551 ∷ 310689 ∷ 305040 ∷ 299593 ∷ 294337 ∷ 289262 ∷ 284359 ∷ 279620 ∷ 275036 ∷ 270600 ∷ 266305 ∷ 262144 ∷ []

pub returns : goal.returns
returns c = listed_first table c.args.i refl refl c.requires.listed
