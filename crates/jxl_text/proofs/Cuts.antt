-- Texts that are cut at a byte.
use Rattle.std.proofs.Common.{◌≡◌, ◌≢◌, ℕ, ◌+◌, ◌<◌, ◌-◌, List, [], ◌∷◌, ◌++◌, length, get_or, take, drop, refl, sym, ap, ◌∙◌, subst, arith}
use Rattle.std.proofs.lemmas.List.{take_more, drop_more, take-append-drop, take_rest}
use Rattle.jxl_text.specs.Inner.Cuts.{Lacks, IsCut}

Lacks-push : (c : ℕ) (xs : List ℕ) (x : ℕ) → Lacks c xs → x ≢ c → Lacks c (xs ++ x ∷ [])
Lacks-push c [] x h n = (n, tt)
Lacks-push c (y ∷ ys) x h n = (h.0, Lacks-push c ys x h.1 n)

pub Lacks-more : (c : ℕ) (text : List ℕ) (i : ℕ) → i < length text → Lacks c (take i text) → get_or text i 0 ≢ c → Lacks c (take (i + 1) text)
Lacks-more c text i within h n = subst (Lacks c) (sym (take_more text i 0 within)) (Lacks-push c (take i text) (get_or text i 0) h n)

pub cut_at : (c : ℕ) (text : List ℕ) (i : ℕ) → i < length text → get_or text i 0 ≡ c → Lacks c (take i text) → IsCut c text (take i text) (take (length text - (i + 1)) (drop (i + 1) text))
cut_at c text i within found h = rw take_rest (record {
  is = sym (take-append-drop i text) ∙ ap (λ xs. take i text ++ xs) (drop_more text i 0 within) ∙ ap (λ (y : ℕ). take i text ++ y ∷ drop (i + 1) text) found;
  first = h;
})

-- where the byte stands, the text does not lack it
pub Lacks-absurd : (c : ℕ) (before after : List ℕ) → Lacks c (before ++ c ∷ after) → ⊥
Lacks-absurd c [] after h = h.0 refl
Lacks-absurd c (x ∷ xs) after h = Lacks-absurd c xs after h.1

pub Lacks-append : (c : ℕ) (xs ys : List ℕ) → Lacks c xs → Lacks c ys → Lacks c (xs ++ ys)
Lacks-append c [] ys h k = k
Lacks-append c (x ∷ xs) ys h k = (h.0, Lacks-append c xs ys h.1 k)

-- a text is cut in one way
pub record SameCut (xs xs' ys ys' : List ℕ) : Type 0 where
  pub before : xs ≡ xs'
  pub after : ys ≡ ys'

tail_same : (x y : ℕ) (xs ys : List ℕ) → x ∷ xs ≡ y ∷ ys → xs ≡ ys
tail_same x y xs ys e = ap (λ zs. drop 1 zs) e

head_same : (x y : ℕ) (xs ys : List ℕ) → x ∷ xs ≡ y ∷ ys → x ≡ y
head_same x y xs ys e = ap (λ zs. get_or zs 0 0) e

pub cut_one : (c : ℕ) (before before' after after' : List ℕ) → Lacks c before → Lacks c before' → before ++ c ∷ after ≡ before' ++ c ∷ after' → SameCut before before' after after'
cut_one c [] [] after after' h k e = record { before = refl; after = tail_same c c after after' e }
cut_one c [] (y ∷ ys) after after' h k e = absurd (k.0 (sym (head_same c y after (ys ++ c ∷ after') e)))
cut_one c (x ∷ xs) [] after after' h k e = absurd (h.0 (head_same x c (xs ++ c ∷ after) after' e))
cut_one c (x ∷ xs) (y ∷ ys) after after' h k e =
    let rest : SameCut xs ys after after' = cut_one c xs ys after after' h.1 k.1 (tail_same x y _ _ e) in
    let first : x ≡ y = head_same x y (xs ++ c ∷ after) (ys ++ c ∷ after') e in
    record { before = ap (λ z. z ∷ xs) first ∙ ap (λ zs. y ∷ zs) rest.before; after = rest.after }

-- what is known of the cut of a text is known of it however it is written
pub cut_is : (c : ℕ) (text before after before' after' : List ℕ) → IsCut c text before after → text ≡ before' ++ c ∷ after' → Lacks c before' → SameCut before before' after after'
cut_is c text before after before' after' cut is lacks = cut_one c before before' after after' cut.first lacks (sym cut.is ∙ is)

-- a text that lacks the byte is not cut there
pub no_cut : (c : ℕ) (text before after : List ℕ) → Lacks c text → text ≡ before ++ c ∷ after → ⊥
no_cut c text before after h is = Lacks-absurd c before after (subst (Lacks c) is h)
