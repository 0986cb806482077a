-- The channels before a channel that are like it.
use Rattle.std.proofs.Common.{◌≡◌, ℕ, zero, suc, ◌<◌, ◌≤◌, List, ◌∷◌, length, map, Bool, true, false, if◌then◌else◌, refl, arith, rules}
use Rattle.std.proofs.lemmas.List.Elements.{All-nil, All-cons}
use Rattle.std.specs.Prelude.{filter}
use Rattle.std.specs.List.{All}
use Rattle.jxlm_transform.specs.Channels.{Channel}
use Rattle.jxlm_samples.specs.Part.{channel, downward, earlier_alike, is_alike}

module _ (P : ℕ → Bool) where
  -- those that pass are not more than those that are looked at
  pub few : (k : ℕ) → length (filter P (downward k)) ≤ k
  few zero = omega arith
  few (suc k) = either (P k) (few k) where
    either : (b : Bool) → length (filter P (downward k)) ≤ k → length (if b then k ∷ filter P (downward k) else filter P (downward k)) ≤ suc k
    either true h = omega (arith, h)
    either false h = omega (arith, h)

  -- what is the same for each number below is the same for those that pass
  mapped : {X : Type 0} (f g : ℕ → X) (i k : ℕ) → k ≤ i → ((e : ℕ) → e < i → f e ≡ g e) → map f (filter P (downward k)) ≡ map g (filter P (downward k))
  mapped f g i zero le same = refl
  mapped {X} f g i (suc k) le same = either (P k) (same k (omega arith)) (mapped f g i k (omega arith) same) where
    either : (b : Bool) → f k ≡ g k → map f (filter P (downward k)) ≡ map g (filter P (downward k)) →
        map f (if b then k ∷ filter P (downward k) else filter P (downward k)) ≡ map g (if b then k ∷ filter P (downward k) else filter P (downward k))
    either true one rest = rw (one, rest) refl
    either false one rest = rest

  -- what holds of each number below that passes holds of all that pass
  all_pass : {X : Type 0} (Q : X → Type 0) (f : ℕ → X) (i k : ℕ) → k ≤ i → ((e : ℕ) → e < i → P e ≡ true → Q (f e)) → All Q (map f (filter P (downward k)))
  all_pass Q f i zero le holds = All-nil Q
  all_pass {X} Q f i (suc k) le holds = either (P k) refl (all_pass Q f i k (omega arith) holds) where
    either : (b : Bool) → P k ≡ b → All Q (map f (filter P (downward k))) → All Q (map f (if b then k ∷ filter P (downward k) else filter P (downward k)))
    either true is rest = All-cons Q (f k) (map f (filter P (downward k))) (holds k (omega arith) is) rest
    either false is rest = rest

module _ (channels : List Channel) (i : ℕ) where
  pub few_earlier : length (earlier_alike channels i) ≤ i
  few_earlier = few (λ e. is_alike (channel channels e) (channel channels i)) i

  pub earlier_mapped : {X : Type 0} (f g : ℕ → X) → ((e : ℕ) → e < i → f e ≡ g e) → map f (earlier_alike channels i) ≡ map g (earlier_alike channels i)
  earlier_mapped f g same = mapped (λ e. is_alike (channel channels e) (channel channels i)) f g i i (omega arith) same

  pub earlier_all : {X : Type 0} (Q : X → Type 0) (f : ℕ → X) → ((e : ℕ) → e < i → is_alike (channel channels e) (channel channels i) ≡ true → Q (f e)) → All Q (map f (earlier_alike channels i))
  earlier_all Q f holds = all_pass (λ e. is_alike (channel channels e) (channel channels i)) Q f i i (omega arith) holds

-- channels that are alike are the same in sizes and shifts
same_kind : (a b : Channel) → is_alike a b ≡ true → (a.width ≡ b.width) × (a.height ≡ b.height) × (a.hshift ≡ b.hshift) × (a.vshift ≡ b.vshift)
same_kind a b h = (search (rules, h), search (rules, h), search (rules, h), search (rules, h))

-- so the same channels are like them
pub same_alike : (channels : List Channel) (a b : Channel) (n : ℕ) → is_alike a b ≡ true →
    filter (λ e. is_alike (channel channels e) a) (downward n) ≡ filter (λ e. is_alike (channel channels e) b) (downward n)
same_alike channels a b n h = let k = same_kind a b h in rw (k.0, k.1, k.2, k.3) refl

-- and they have one size
pub same_sides : (a b : Channel) → is_alike a b ≡ true → (a.width ≡ b.width) × (a.height ≡ b.height)
same_sides a b h = let k = same_kind a b h in (k.0, k.1)
