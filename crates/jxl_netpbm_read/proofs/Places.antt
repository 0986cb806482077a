-- Where samples are in a file.
use Rattle.std.proofs.Common.{◌≡◌, ℕ, ◌+◌, ◌*◌, ◌^◌, ◌<◌, ◌≤◌, Bool, true, false, arith, lit≤, sym}
use Rattle.std.specs.Prelude.{nat_le, if◌then◌else◌}
use Rattle.std.proofs.Math.Nat.{mul-le-mul, mul-le-mul_left, mul-le-mul_right, mul_comm}
use Rattle.std.proofs.lemmas.Bool.{and_parts, leb-true}
use Rattle.jxl_netpbm_read.specs.Parts.{IsHeader, IsStorage, channel_count, is_side}
use Rattle.jxl_netpbm_read.specs.Samples.{channels_of, sample_count, sample_size, samples_size}
use Rattle.jxl_netpbm_read.specs.declared.header.Header.{Header}
use Rattle.jxl_netpbm_read.specs.declared.header.Storage.{Storage}
use Rattle.jxl_netpbm_read.specs.declared.header.Storage.TheVariants.{Numbers, Floats}

-- a place in a row of some rows is below all places
pub row_place : (w h r x : ℕ) → r < h → x < w → r * w + x < h * w
row_place w h r x below inside =
    let rows : (r + 1) * w ≤ h * w = mul-le-mul_right w (omega (arith, below)) in
    omega (arith, rows, inside)

-- a sample of a pixel of a row is below all samples
pub sample_index : (w h n r x k : ℕ) → r < h → x < w → k < n → (r * w + x) * n + k < w * h * n
sample_index w h n r x k below inside channel =
    let pixel = row_place w h r x below inside in
    let all : (r * w + x) * n + k < h * w * n = row_place n (h * w) (r * w + x) k pixel channel in
    rw (mul_comm w h) all

-- the bytes of a sample are among those of all
pub sample_bytes : (i c s : ℕ) → i < c → i * s + s ≤ c * s
sample_bytes i c s below =
    let all : (i + 1) * s ≤ c * s = mul-le-mul_right s (omega (arith, below)) in
    omega (arith, all)

-- a pixel has at most 12 bytes
few_numbers : (grey alpha small : Bool) → channel_count grey alpha * (if small then 1 else 2) ≤ 12
few_numbers true true true = lit≤ tt
few_numbers true true false = lit≤ tt
few_numbers true false true = lit≤ tt
few_numbers true false false = lit≤ tt
few_numbers false true true = lit≤ tt
few_numbers false true false = lit≤ tt
few_numbers false false true = lit≤ tt
few_numbers false false false = lit≤ tt

few_floats : (grey : Bool) → channel_count grey false * 4 ≤ 12
few_floats true = lit≤ tt
few_floats false = lit≤ tt

pub pixel_bytes : (grey alpha : Bool) (s : Storage) → IsStorage alpha s → channel_count grey alpha * sample_size s ≤ 12
pixel_bytes grey alpha (Numbers bits) stored = few_numbers grey alpha (nat_le bits 8)
pixel_bytes grey alpha (Floats little) none = rw none (few_floats grey)

-- the bytes of all samples fit 64 bits
pub all_bytes : (w h n s : ℕ) → w ≤ 2 ^ 30 → h ≤ 2 ^ 30 → n * s ≤ 12 → w * h * n * s ≤ 12 * 2 ^ 60
all_bytes w h n s wide high few =
    let pixels : w * h ≤ 2 ^ 30 * 2 ^ 30 = mul-le-mul wide high in
    let bytes : w * h * (n * s) ≤ (2 ^ 30 * 2 ^ 30) * 12 = mul-le-mul pixels few in
    omega (arith, bytes)

pub some_bytes : (s : Storage) → 1 ≤ sample_size s
some_bytes (Numbers bits) = elim (nat_le bits 8) as (λ b. 1 ≤ (if b then 1 else 2)) [ true ↦ lit≤ tt | false ↦ lit≤ tt ]
some_bytes (Floats little) = lit≤ tt

pub side_most : (n : ℕ) → is_side n ≡ true → n ≤ 2 ^ 30
side_most n t = leb-true n (2 ^ 30) (and_parts (nat_le 1 n) (nat_le n (2 ^ 30)) t).1

pub side_least : (n : ℕ) → is_side n ≡ true → 1 ≤ n
side_least n t = leb-true 1 n (and_parts (nat_le 1 n) (nat_le n (2 ^ 30)) t).0

-- the bytes of a sample are in the file, and its number is below the file's length
pub record IsInside (start len index size : ℕ) : Type 0 where
  pub bytes : start + index * size + size ≤ len
  pub few : index ≤ len

pub sample_inside : (h : Header) (len n r x k : ℕ) → n ≡ channels_of h → r < h.height → x < h.width → k < channels_of h → h.start + samples_size h ≤ len →
    IsInside h.start len ((r * h.width + x) * n + k) (sample_size h.storage)
sample_inside h len n r x k is below inside channel long =
    let s = sample_size h.storage in
    let i = (r * h.width + x) * n + k in
    let first : i < h.width * h.height * n = sample_index h.width h.height n r x k below inside (omega (arith, is, channel)) in
    let last : i < sample_count h = rw (sym is) first in
    let bytes : i * s + s ≤ sample_count h * s = sample_bytes i (sample_count h) s last in
    let one : i * 1 ≤ i * s = mul-le-mul_left i (some_bytes h.storage) in
    record { bytes = omega (arith, bytes, long); few = omega (arith, one, bytes, long) }

-- the bytes of all samples of a header fit 64 bits
pub samples_fit : (h : Header) (n s : ℕ) → IsHeader h → n ≡ channels_of h → s ≡ sample_size h.storage → (h.width * h.height * n * s ≤ 12 * 2 ^ 60) × (h.width * h.height * n ≤ 12 * 2 ^ 60)
samples_fit h n s is channels size =
    let few : n * s ≤ 12 = rw (channels, size) (pixel_bytes h.grey h.alpha h.storage is.stored) in
    let all : h.width * h.height * n * s ≤ 12 * 2 ^ 60 = all_bytes h.width h.height n s (side_most h.width is.wide) (side_most h.height is.high) few in
    let some : 1 ≤ s = rw size (some_bytes h.storage) in
    let one : h.width * h.height * n * 1 ≤ h.width * h.height * n * s = mul-le-mul_left (h.width * h.height * n) some in
    (all, omega (arith, one, all))
