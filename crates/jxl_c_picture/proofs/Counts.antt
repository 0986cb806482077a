-- How many samples channels have.
use Rattle.std.proofs.Common.{◌≡◌, ℕ, zero, suc, ◌+◌, ◌-◌, ◌*◌, ◌^◌, ◌<◌, ◌≤◌, ℤ, List, [], ◌∷◌, ◌++◌, length, map, take, drop, get_or, inl, inr, refl, sym, ap, ◌∙◌, subst, set, append_assoc, append-nil, arith}
use Rattle.std.specs.Prelude.{replicate}
use Rattle.std.specs.Int.{div_ceil}
use Rattle.std.specs.List.{All, AllZip, sum_by}
use Rattle.std.proofs.Math.Nat.{mul-le-mul, mul-le-mul_left, mul-le-mul_right, pow-le-pow_right, suc-mul}
use Rattle.std.proofs.lemmas.Bool.{cases_lt}
use Rattle.std.proofs.lemmas.Grind.{div_ceil_times}
use Rattle.std.proofs.lemmas.List.{drop_all, length-append, length-map, length-replicate, take_all, take_more_set, get_or_append_left, get_or-append_right, get_or-replicate, get_or-map}
use Rattle.std.proofs.lemmas.List.Concat.{length-flat_map}
use Rattle.std.proofs.lemmas.List.Sums.{sum_by-cons}
use Rattle.std.proofs.lemmas.List.Elements.{All-append, All-cons, All-head, All-nil, All-tail}
use Rattle.jxlm_base.specs.Grid.{Grid, IsFull}
use Rattle.jxl_image_header.specs.Images.{Image}
use Rattle.jxl_image_header.specs.declared.channel.ExtraChannel.{ExtraChannel}
use Rattle.jxl_image_header.specs.declared.size.Size.{Size}
use Rattle.jxl_picture.specs.Limits.{channel_count}
use Rattle.jxl_picture.specs.Pictures.{IsWhole, colour_count}
use Rattle.jxl_picture.proofs.Channels.{HasShift}
use Rattle.jxl_c_picture.specs.Channels.{cell_count, colour_entry, entries_of, extra_entry, placed, sample_count}
use Rattle.jxl_c_picture.specs.Cells.{cells_of_all}
use Rattle.jxl_c_picture.specs.declared.channels.CChannel.{CChannel}

-- one more full channel
pub full_more : (channels : List (Grid ℤ)) (i : ℕ) (g : Grid ℤ) → i < length channels → g ≡ get_or channels i g → IsFull g → All IsFull (take i channels) → All IsFull (take (suc i) channels)
full_more [] i g lt is full all = absurd (omega (arith, lt))
full_more (x ∷ xs) zero g lt is full all = All-cons IsFull x [] (subst IsFull is full) (All-nil IsFull)
full_more (x ∷ xs) (suc i) g lt is full all =
    All-cons IsFull x (take (suc i) xs) (All-head IsFull x (take i xs) all) (full_more xs i g (omega (arith, lt)) is full (All-tail IsFull x (take i xs) all))

-- there are as many entries as channels
pub entry_count : (image : Image) → length (entries_of image) ≡ channel_count image
entry_count image =
    length-append (replicate (colour_count image) (colour_entry image)) (map (extra_entry image.size) image.ec_info)
    ∙ ap (λ (n : ℕ). n + length (map (extra_entry image.size) image.ec_info)) (length-replicate (colour_count image) (colour_entry image))
    ∙ ap (λ (n : ℕ). colour_count image + n) (length-map image.ec_info (extra_entry image.size))

-- entry k: of colours, or of an extra channel
pub colour_at : (image : Image) (k : ℕ) (d : CChannel) → k < colour_count image → get_or (entries_of image) k d ≡ colour_entry image
colour_at image k d less =
    let n = colour_count image in
    let long : length (replicate n (colour_entry image)) ≡ n = length-replicate n (colour_entry image) in
    get_or_append_left (replicate n (colour_entry image)) (map (extra_entry image.size) image.ec_info) d k (omega (arith, less, long)) ∙ get_or-replicate n k (colour_entry image) d less

pub extra_at : (image : Image) (k : ℕ) (d : CChannel) (c : ExtraChannel) → colour_count image ≤ k → k < channel_count image → c ≡ get_or image.ec_info (k - colour_count image) c → get_or (entries_of image) k d ≡ extra_entry image.size c
extra_at image k d c le less is =
    let n = colour_count image in
    let long : length (replicate n (colour_entry image)) ≡ n = length-replicate n (colour_entry image) in
    get_or-append_right (replicate n (colour_entry image)) (map (extra_entry image.size) image.ec_info) n k d long le
    ∙ get_or-map (extra_entry image.size) image.ec_info (k - n) c d (omega (arith, le, less)) ∙ ap (extra_entry image.size) (sym is)

sum_suc : (f : CChannel → ℕ) (es : List CChannel) (k : ℕ) (e : CChannel) → k < length es → e ≡ get_or es k e → sum_by f (drop k es) ≡ f e + sum_by f (drop (suc k) es)
sum_suc f [] k e less is = absurd (omega (arith, less))
sum_suc f (x ∷ es) zero e less is = sum_by-cons f x es ∙ ap (λ (c : CChannel). f c + sum_by f es) (sym is)
sum_suc f (x ∷ es) (suc k) e less is = sum_suc f es k e (omega (arith, less)) is

-- the samples from channel k on are those of it and of the channels after it
pub sum_next : (f : CChannel → ℕ) (es : List CChannel) (k : ℕ) (e : CChannel) → k < length es → e ≡ get_or es k e → sum_by f (drop k es) ≡ f e + sum_by f (drop (k + 1) es)
sum_next f es k e less is =
    let same : suc k ≡ k + 1 = omega arith in
    subst (λ (n : ℕ). sum_by f (drop k es) ≡ f e + sum_by f (drop n es)) same (sum_suc f es k e less is)

pub sum_done : (f : CChannel → ℕ) (es : List CChannel) (k : ℕ) → length es ≤ k → sum_by f (drop k es) ≡ 0
sum_done f es k le = ap (sum_by f) (drop_all k es le)

placed_suc : (es : List CChannel) (k first : ℕ) (e : CChannel) → k < length es → e ≡ get_or es k e → placed first (drop k es) ≡ record e { first = first } ∷ placed (first + cell_count e) (drop (suc k) es)
placed_suc [] k first e less is = absurd (omega (arith, less))
placed_suc (x ∷ es) zero first e less is = ap (λ (c : CChannel). record c { first = first } ∷ placed (first + cell_count c) es) (sym is)
placed_suc (x ∷ es) (suc k) first e less is = placed_suc es k first e (omega (arith, less)) is

-- the entries from channel k on, placed, are it and those after it
pub placed_next : (es : List CChannel) (k first : ℕ) (e : CChannel) → k < length es → e ≡ get_or es k e → placed first (drop k es) ≡ record e { first = first } ∷ placed (first + cell_count e) (drop (k + 1) es)
placed_next es k first e less is =
    let same : suc k ≡ k + 1 = omega arith in
    subst (λ (n : ℕ). placed first (drop k es) ≡ record e { first = first } ∷ placed (first + cell_count e) (drop n es)) same (placed_suc es k first e less is)

-- one more channel is described
pub described_more : (es channels after whole : List CChannel) (k first next : ℕ) (e v : CChannel) → k < length es → length channels ≡ length es → e ≡ get_or es k e → v ≡ record e { first = first } → next ≡ first + cell_count e →
    after ≡ set channels k v → take k channels ++ placed first (drop k es) ≡ whole → take (k + 1) after ++ placed next (drop (k + 1) es) ≡ whole
described_more es channels after whole k first next e v less long is made more stored so_far =
    let rest = drop (k + 1) es in
    ap (λ (cs : List CChannel). take (k + 1) cs ++ placed next rest) stored ∙ ap (λ (cs : List CChannel). cs ++ placed next rest) (take_more_set channels k v (omega (arith, less, long)))
    ∙ append_assoc (take k channels) (v ∷ []) (placed next rest) ∙ ap (λ (n : ℕ). take k channels ++ (v ∷ placed n rest)) more
    ∙ ap (λ (c : CChannel). take k channels ++ (c ∷ placed (first + cell_count e) rest)) made
    ∙ ap (λ (cs : List CChannel). take k channels ++ cs) (sym (placed_next es k first e less is)) ∙ so_far

-- all channels are described
pub described_all : (es channels whole : List CChannel) (k first : ℕ) → length channels ≡ length es → length es ≤ k → take k channels ++ placed first (drop k es) ≡ whole → channels ≡ whole
described_all es channels whole k first long le e =
    let none : placed first (drop k es) ≡ [] = ap (placed first) (drop_all k es le) in
    sym (append-nil channels) ∙ ap (λ (cs : List CChannel). cs ++ []) (sym (take_all k channels (omega (arith, long, le)))) ∙ ap (λ (cs : List CChannel). take k channels ++ cs) (sym none) ∙ e

-- a side rounded up by a divisor is no larger
side_less : (n d : ℕ) → 0 < d → div_ceil n d ≤ n
side_less n d some = elim (cases_lt n (div_ceil n d)) [
  | inl lt ↦
      let times = (div_ceil_times n d some).1 in
      let more : (n + 1) * d ≤ div_ceil n d * d = mul-le-mul_right d (omega (arith, lt)) in
      let step : suc n * d ≡ n * d + d = suc-mul n d in
      let up : n * 1 ≤ n * d = mul-le-mul_left n (omega (arith, some)) in
      absurd (omega (arith, times, more, step, up))
  | inr ge ↦ ge
]

power_some : (s : ℕ) → 0 < 2 ^ s
power_some s = let p : 2 ^ 0 ≤ 2 ^ s = pow-le-pow_right {n = 2} (omega arith) {i = 0} {j = s} (omega arith) in omega (arith, p)

-- a channel has no more samples than a picture has pixels
cells_less : (w h s : ℕ) → div_ceil w (2 ^ s) * div_ceil h (2 ^ s) ≤ w * h
cells_less w h s = mul-le-mul (side_less w (2 ^ s) (power_some s)) (side_less h (2 ^ s) (power_some s))

sum_less : (b : ℕ) (es : List CChannel) → All (λ (e : CChannel). cell_count e ≤ b) es → sum_by cell_count es ≤ length es * b
sum_less b [] all = omega arith
sum_less b (e ∷ es) all =
    let one = All-head (λ (e : CChannel). cell_count e ≤ b) e es all in
    let rest = sum_less b es (All-tail (λ (e : CChannel). cell_count e ≤ b) e es all) in
    let step : suc (length es) * b ≡ length es * b + b = suc-mul (length es) b in
    let both : sum_by cell_count (e ∷ es) ≡ cell_count e + sum_by cell_count es = sum_by-cons cell_count e es in
    omega (arith, one, rest, step, both)

colours_less : (b n : ℕ) (e : CChannel) → cell_count e ≤ b → All (λ (e : CChannel). cell_count e ≤ b) (replicate n e)
colours_less b zero e le = All-nil (λ (e : CChannel). cell_count e ≤ b)
colours_less b (suc n) e le = All-cons (λ (e : CChannel). cell_count e ≤ b) e (replicate n e) le (colours_less b n e le)

extra_less : (size : Size) (cs : List ExtraChannel) → All (λ (e : CChannel). cell_count e ≤ size.width * size.height) (map (extra_entry size) cs)
extra_less size [] = All-nil (λ (e : CChannel). cell_count e ≤ size.width * size.height)
extra_less size (c ∷ cs) =
    All-cons (λ (e : CChannel). cell_count e ≤ size.width * size.height) (extra_entry size c) (map (extra_entry size) cs) (cells_less size.width size.height c.dim_shift) (extra_less size cs)

-- there are no more samples than channels times pixels
pub samples_less : (image : Image) → sample_count image ≤ channel_count image * (image.size.width * image.size.height)
samples_less image =
    let b = image.size.width * image.size.height in
    let all : All (λ (e : CChannel). cell_count e ≤ b) (entries_of image) =
    All-append (λ (e : CChannel). cell_count e ≤ b) (replicate (colour_count image) (colour_entry image)) (map (extra_entry image.size) image.ec_info)
    (colours_less b (colour_count image) (colour_entry image) (cells_less image.size.width image.size.height 0)) (extra_less image.size image.ec_info) in
    let p = sum_less b (entries_of image) all in
    subst (λ (n : ℕ). sample_count image ≤ n * b) (entry_count image) p

-- a channel has the sides of its entry
abbrev pub HasEntry : CChannel → Grid ℤ → Type 0
HasEntry e g = (g.width ≡ e.width) × (g.height ≡ e.height)

to_extra : (size : Size) (cs : List ExtraChannel) (gs : List (Grid ℤ)) → AllZip (HasShift size) (map (λ (c : ExtraChannel). c.dim_shift) cs) gs → AllZip HasEntry (map (extra_entry size) cs) gs
to_extra size [] [] all = tt
to_extra size [] (g ∷ gs) all = absurd all
to_extra size (c ∷ cs) [] all = absurd all
to_extra size (c ∷ cs) (g ∷ gs) all = (all.0, to_extra size cs gs all.1)

to_entries : (image : Image) (n : ℕ) (cs : List ExtraChannel) (gs : List (Grid ℤ)) → AllZip (HasShift image.size) (replicate n 0 ++ map (λ (c : ExtraChannel). c.dim_shift) cs) gs →
    AllZip HasEntry (replicate n (colour_entry image) ++ map (extra_entry image.size) cs) gs
to_entries image zero cs gs all = to_extra image.size cs gs all
to_entries image (suc n) cs [] all = absurd all
to_entries image (suc n) cs (g ∷ gs) all = (all.0, to_entries image n cs gs all.1)

sum_alike : (es : List CChannel) (gs : List (Grid ℤ)) → AllZip HasEntry es gs → All IsFull gs → sum_by (λ (g : Grid ℤ). length g.cells) gs ≡ sum_by cell_count es
sum_alike [] [] all full = refl
sum_alike [] (g ∷ gs) all full = absurd all
sum_alike (e ∷ es) [] all full = absurd all
sum_alike (e ∷ es) (g ∷ gs) all full =
    let one : length g.cells ≡ cell_count e = All-head IsFull g gs full ∙ ap (λ (n : ℕ). n * g.height) all.0.0 ∙ ap (λ (n : ℕ). e.width * n) all.0.1 in
    sum_by-cons (λ (g : Grid ℤ). length g.cells) g gs ∙ ap (λ (n : ℕ). n + sum_by (λ (g : Grid ℤ). length g.cells) gs) one
    ∙ ap (λ (n : ℕ). cell_count e + n) (sum_alike es gs all.1 (All-tail IsFull g gs full)) ∙ sym (sum_by-cons cell_count e es)

-- full channels of a picture have as many samples as its header says
pub cells_counted : (image : Image) (channels : List (Grid ℤ)) → IsWhole image channels → All IsFull channels → length (cells_of_all channels) ≡ sample_count image
cells_counted image channels whole full =
    length-flat_map (λ (g : Grid ℤ). g.cells) channels ∙ sum_alike (entries_of image) channels (to_entries image (colour_count image) image.ec_info channels whole) full
