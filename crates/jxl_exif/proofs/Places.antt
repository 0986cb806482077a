-- Data have one orientation, at one place.
use Rattle.std.proofs.Common.{◌≡◌, ℕ, ◌+◌, ◌≤◌, List, refl, sym, ap, ◌∙◌, subst, inl, inr, arith}
use Rattle.std.proofs.lemmas.Bool.{cases_order}
use Rattle.jxl_exif.specs.Tiff.{IsFirst, IsShort, IsTiff, entry_of, mark, u16_at, u32_at}
use Rattle.jxl_exif.specs.Orientations.{HaveOneOrientation, Says, SaysNone}
use Rattle.jxl_exif.specs.declared.tiff.ByteOrder.{ByteOrder}
use Rattle.jxl_exif.specs.declared.tiff.ByteOrder.TheVariants.{Little, Big}

-- the first byte of a header shows the byte order
pub one_order : (a b : ByteOrder) → mark a ≡ mark b → a ≡ b
one_order Little Little e = refl
one_order Little Big e = absurd (omega (arith, e))
one_order Big Little e = absurd (omega (arith, e))
one_order Big Big e = refl

one_first : (order : ByteOrder) (bytes : List ℕ) (ifd tag i k : ℕ) → IsFirst order bytes ifd tag i → IsFirst order bytes ifd tag k → i ≡ k
one_first order bytes ifd tag i k f g =
    elim (cases_order i k) [ inl e ↦ e | inr r ↦ elim r [ inl lt ↦ absurd (g.first i lt f.tagged) | inr lt ↦ absurd (f.first k lt g.tagged) ] ]

same_order : (order : ByteOrder) (bytes : List ℕ) (at bt n m : ℕ) → Says order bytes at n → Says order bytes bt m → n ≡ m
same_order order bytes at bt n m s t =
    sym s.number.value
    ∙ ap (λ (k : ℕ). u16_at order bytes (entry_of (u32_at order bytes 4) k + 8)) (one_first order bytes (u32_at order bytes 4) 0x0112 s.k t.k s.entry t.entry)
    ∙ t.number.value

-- whatever the byte orders and the places, the orientation is the same
pub one_said : (a b : ByteOrder) (bytes : List ℕ) (at bt n m : ℕ) → Says a bytes at n → Says b bytes bt m → n ≡ m
one_said a b bytes at bt n m s t =
    same_order a bytes at bt n m s (subst (λ (o : ByteOrder). Says o bytes bt m) (one_order b a (sym t.tiff.first ∙ s.tiff.first)) t)

pub one_orientation : HaveOneOrientation
one_orientation bytes n m (inl s) (inl t) = one_said s.0 t.0 bytes s.1 t.1 n m s.2 t.2
one_orientation bytes n m (inl s) (inr t) = absurd (t.0 s.0 s.1 n s.2)
one_orientation bytes n m (inr s) (inl t) = absurd (s.0 t.0 t.1 m t.2)
one_orientation bytes n m (inr s) (inr t) = s.1 ∙ sym t.1

-- the value at the place
pub said_value : (order : ByteOrder) (bytes : List ℕ) (at n : ℕ) → Says order bytes at n → u16_at order bytes at ≡ n
said_value order bytes at n s = ap (λ (i : ℕ). u16_at order bytes i) s.place ∙ s.number.value

-- data whose first entry with the tag is no SHORT from 1 to 8 say nothing
pub not_said : (order : ByteOrder) (bytes : List ℕ) (ifd k entry : ℕ) → IsTiff order bytes → ifd ≡ u32_at order bytes 4 → IsFirst order bytes ifd 0x0112 k → entry ≡ entry_of ifd k →
    ((n : ℕ) → IsShort order bytes entry n → 1 ≤ n → n ≤ 8 → ⊥) → SaysNone bytes
not_said order bytes ifd k entry tiff is first here none = λ o at n t.
    let s : Says order bytes at n = subst (λ (v : ByteOrder). Says v bytes at n) (one_order o order (sym t.tiff.first ∙ tiff.first)) t in
    let known : IsFirst order bytes (u32_at order bytes 4) 0x0112 k = subst (λ (i : ℕ). IsFirst order bytes i 0x0112 k) is first in
    let same : s.k ≡ k = one_first order bytes (u32_at order bytes 4) 0x0112 s.k k s.entry known in
    let there : entry_of (u32_at order bytes 4) s.k ≡ entry = ap (λ (j : ℕ). entry_of (u32_at order bytes 4) j) same ∙ ap (λ (i : ℕ). entry_of i k) (sym is) ∙ sym here in
    none n (subst (λ (e : ℕ). IsShort order bytes e n) there s.number) s.least s.most

-- data without the header, or without an entry with the tag, say nothing
pub no_header : (bytes : List ℕ) → ((order : ByteOrder) → IsTiff order bytes → ⊥) → SaysNone bytes
no_header bytes none = λ o at n t. none o t.tiff

pub no_entry : (order : ByteOrder) (bytes : List ℕ) (ifd : ℕ) → IsTiff order bytes → ifd ≡ u32_at order bytes 4 → ((k : ℕ) → IsFirst order bytes ifd 0x0112 k → ⊥) → SaysNone bytes
no_entry order bytes ifd tiff is none = λ o at n t.
    let s : Says order bytes at n = subst (λ (v : ByteOrder). Says v bytes at n) (one_order o order (sym t.tiff.first ∙ tiff.first)) t in
    none s.k (subst (λ (i : ℕ). IsFirst order bytes i 0x0112 s.k) (sym is) s.entry)
