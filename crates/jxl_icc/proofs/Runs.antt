-- Commands and tags, one after another, as a loop reads them.
use Rattle.std.proofs.Common.{◌≡◌, ℕ, suc, ◌+◌, ◌-◌, ◌<◌, ◌≤◌, ◌%◌, List, Ok, Err, refl, arith, inl, inr}
use Rattle.std.specs.Prelude.{slice_index}
use Rattle.std.proofs.lemmas.Bool.{ne_eqb, eq-eqb}
use Rattle.jxl_icc.specs.Errors.{UnlessMemory}
use Rattle.jxl_icc.specs.Profiles.{SoFar, Listed, step, contents, tag, tags}
use Rattle.jxl_icc.specs.declared.error.ProfileError.{ProfileError}

-- a fact that follows, unless it is out of memory
pub unless_map : (e : ProfileError) {P Q : Type 0} → (P → Q) → UnlessMemory e P → UnlessMemory e Q
unless_map e f (inl h) = inl h
unless_map e f (inr h) = inr (f h)

module _ (bytes : List ℕ) (end size n : ℕ) where
  -- one more command
  pub contents_next : (i : ℕ) (s t : SoFar) → i < n → (s.place ≡ end → ⊥) → step bytes end size s ≡ Ok t → contents bytes end size (n - i) s ≡ contents bytes end size (n - (i + 1)) t
  unfolding contents
  contents_next i s t lt ne h = let k : n - i ≡ suc (n - (i + 1)) = omega arith in rw (k, ne_eqb s.place end ne, h) refl

  -- a command gave an error
  pub contents_fails : (i : ℕ) (s : SoFar) (e : ProfileError) → i < n → (s.place ≡ end → ⊥) → step bytes end size s ≡ Err e → contents bytes end size (n - i) s ≡ Err e
  unfolding contents
  contents_fails i s e lt ne h = let k : n - i ≡ suc (n - (i + 1)) = omega arith in rw (k, ne_eqb s.place end ne, h) refl

  -- the end of the commands
  pub contents_here : (i : ℕ) (s : SoFar) → i < n → s.place ≡ end → contents bytes end size (n - i) s ≡ Ok s
  unfolding contents
  contents_here i s lt h = let k : n - i ≡ suc (n - (i + 1)) = omega arith in rw (k, eq-eqb s.place end h) refl

  -- all commands
  pub contents_ends : (i : ℕ) (s : SoFar) → n ≤ i → contents bytes end size (n - i) s ≡ Ok s
  unfolding contents
  contents_ends i s le = let k : n - i ≡ 0 = omega arith in rw k refl

  -- one more tag
  pub tags_next : (i : ℕ) (s t : Listed) → i < n → (s.place ≡ end → ⊥) → (slice_index bytes s.place % 64 ≡ 0 → ⊥) → tag bytes end size s ≡ Ok t → tags bytes end size (n - i) s ≡ tags bytes end size (n - (i + 1)) t
  unfolding tags
  tags_next i s t lt ne nz h = let k : n - i ≡ suc (n - (i + 1)) = omega arith in rw (k, ne_eqb s.place end ne, ne_eqb (slice_index bytes s.place % 64) 0 nz, h) refl

  -- a tag gave an error
  pub tags_fails : (i : ℕ) (s : Listed) (e : ProfileError) → i < n → (s.place ≡ end → ⊥) → (slice_index bytes s.place % 64 ≡ 0 → ⊥) → tag bytes end size s ≡ Err e → tags bytes end size (n - i) s ≡ Err e
  unfolding tags
  tags_fails i s e lt ne nz h = let k : n - i ≡ suc (n - (i + 1)) = omega arith in rw (k, ne_eqb s.place end ne, ne_eqb (slice_index bytes s.place % 64) 0 nz, h) refl

  -- the end of the commands
  pub tags_here : (i : ℕ) (s : Listed) → i < n → s.place ≡ end → tags bytes end size (n - i) s ≡ Ok (record { place = s.place; at = s.at; out = s.out })
  unfolding tags
  tags_here i s lt h = let k : n - i ≡ suc (n - (i + 1)) = omega arith in rw (k, eq-eqb s.place end h) refl

  -- the command that ends the list
  pub tags_closed : (i : ℕ) (s : Listed) → i < n → (s.place ≡ end → ⊥) → slice_index bytes s.place % 64 ≡ 0 → tags bytes end size (n - i) s ≡ Ok (record { place = s.place + 1; at = s.at; out = s.out })
  unfolding tags
  tags_closed i s lt ne z = let k : n - i ≡ suc (n - (i + 1)) = omega arith in rw (k, ne_eqb s.place end ne, z) refl

  -- all tags
  pub tags_ends : (i : ℕ) (s : Listed) → n ≤ i → tags bytes end size (n - i) s ≡ Ok (record { place = s.place; at = s.at; out = s.out })
  unfolding tags
  tags_ends i s le = let k : n - i ≡ 0 = omega arith in rw k refl
