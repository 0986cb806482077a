use Rattle.std.proofs.Common.{◌≡◌, ◌++◌, ◌∷◌, [], List, ℕ, ap, ◌∙◌, get_or}
use Rattle.std.specs.List.{flat_map}
use Rattle.jxlm_bit_writer.specs.Written.{digits, bits_of, words_back}
use Rattle.jxlm_bit_writer.proofs.Blocks.{block_put, eight, next_bits, next_fits, rows_are}
use Rattle.jxlm_bit_writer.proofs.writer.BitWriter.put_block.Goals as goal

pub invariant_of-self-2 : goal.invariant_of-self-2
invariant_of-self-2 c =
    let n = c.self.inside.count in
    let few = c.self.invariant.0 in
    let scale = c.scale_of-scale.result in
    let same = c.scale_of-scale.ensures in
    let words = c.args.words.now in
    let s1 = next_fits n c.self.inside.held (get_or words 7 0) scale c.self.invariant.1 few same (c.fits-words 7) c.put_after-held.result.1 c.put_after-held.ensures.held in
    let s2 = next_fits n c.put_after-held.result.1 (get_or words 6 0) scale s1 few same (c.fits-words 6) c.put_after-held-2.result.1 c.put_after-held-2.ensures.held in
    let s3 = next_fits n c.put_after-held-2.result.1 (get_or words 5 0) scale s2 few same (c.fits-words 5) c.put_after-held-3.result.1 c.put_after-held-3.ensures.held in
    let s4 = next_fits n c.put_after-held-3.result.1 (get_or words 4 0) scale s3 few same (c.fits-words 4) c.put_after-held-4.result.1 c.put_after-held-4.ensures.held in
    let s5 = next_fits n c.put_after-held-4.result.1 (get_or words 3 0) scale s4 few same (c.fits-words 3) c.put_after-held-5.result.1 c.put_after-held-5.ensures.held in
    let s6 = next_fits n c.put_after-held-5.result.1 (get_or words 2 0) scale s5 few same (c.fits-words 2) c.put_after-held-6.result.1 c.put_after-held-6.ensures.held in
    let s7 = next_fits n c.put_after-held-6.result.1 (get_or words 1 0) scale s6 few same (c.fits-words 1) c.put_after-held-7.result.1 c.put_after-held-7.ensures.held in
    (few, next_fits n c.put_after-held-7.result.1 (get_or words 0 0) scale s7 few same (c.fits-words 0) c.put_after-held-8.result.1 c.put_after-held-8.ensures.held)

pub returns : goal.returns
returns c =
    let n = c.self.inside.count in
    let held = c.self.inside.held in
    let few = c.self.invariant.0 in
    let scale = c.scale_of-scale.result in
    let same = c.scale_of-scale.ensures in
    let words = c.args.words.now in
    let k1 = c.put_after-held.result.1 in
    let k2 = c.put_after-held-2.result.1 in
    let k3 = c.put_after-held-3.result.1 in
    let k4 = c.put_after-held-4.result.1 in
    let k5 = c.put_after-held-5.result.1 in
    let k6 = c.put_after-held-6.result.1 in
    let k7 = c.put_after-held-7.result.1 in
    let k8 = c.put_after-held-8.result.1 in
    let s1 = next_fits n held (get_or words 7 0) scale c.self.invariant.1 few same (c.fits-words 7) k1 c.put_after-held.ensures.held in
    let s2 = next_fits n k1 (get_or words 6 0) scale s1 few same (c.fits-words 6) k2 c.put_after-held-2.ensures.held in
    let s3 = next_fits n k2 (get_or words 5 0) scale s2 few same (c.fits-words 5) k3 c.put_after-held-3.ensures.held in
    let s4 = next_fits n k3 (get_or words 4 0) scale s3 few same (c.fits-words 4) k4 c.put_after-held-4.ensures.held in
    let s5 = next_fits n k4 (get_or words 3 0) scale s4 few same (c.fits-words 3) k5 c.put_after-held-5.ensures.held in
    let s6 = next_fits n k5 (get_or words 2 0) scale s5 few same (c.fits-words 2) k6 c.put_after-held-6.ensures.held in
    let s7 = next_fits n k6 (get_or words 1 0) scale s6 few same (c.fits-words 1) k7 c.put_after-held-7.ensures.held in
    let list : List ℕ = get_or words 0 0 ∷ get_or words 1 0 ∷ get_or words 2 0 ∷ get_or words 3 0 ∷ get_or words 4 0 ∷ get_or words 5 0 ∷ get_or words 6 0 ∷ get_or words 7 0 ∷ [] in
    let rows : List (List ℕ) = c.put_after-held.result.0 ∷ c.put_after-held-2.result.0 ∷ c.put_after-held-3.result.0 ∷ c.put_after-held-4.result.0 ∷ c.put_after-held-5.result.0 ∷ c.put_after-held-6.result.0 ∷ c.put_after-held-7.result.0 ∷ c.put_after-held-8.result.0 ∷ [] in
    let bits : digits n held ++ words_back list ≡ bits_of (flat_map (λ x. x) rows) ++ digits n k8 =
    rows_are n held k1 k2 k3 k4 k5 k6 k7 k8 (get_or words 0 0) (get_or words 1 0) (get_or words 2 0) (get_or words 3 0) (get_or words 4 0) (get_or words 5 0) (get_or words 6 0) (get_or words 7 0)
    c.put_after-held.result.0 c.put_after-held-2.result.0 c.put_after-held-3.result.0 c.put_after-held-4.result.0 c.put_after-held-5.result.0 c.put_after-held-6.result.0 c.put_after-held-7.result.0 c.put_after-held-8.result.0
    (next_bits n held (get_or words 7 0) scale c.self.invariant.1 few same c.put_after-held.result.0 k1 c.put_after-held.ensures.bytes c.put_after-held.ensures.held)
    (next_bits n k1 (get_or words 6 0) scale s1 few same c.put_after-held-2.result.0 k2 c.put_after-held-2.ensures.bytes c.put_after-held-2.ensures.held)
    (next_bits n k2 (get_or words 5 0) scale s2 few same c.put_after-held-3.result.0 k3 c.put_after-held-3.ensures.bytes c.put_after-held-3.ensures.held)
    (next_bits n k3 (get_or words 4 0) scale s3 few same c.put_after-held-4.result.0 k4 c.put_after-held-4.ensures.bytes c.put_after-held-4.ensures.held)
    (next_bits n k4 (get_or words 3 0) scale s4 few same c.put_after-held-5.result.0 k5 c.put_after-held-5.ensures.bytes c.put_after-held-5.ensures.held)
    (next_bits n k5 (get_or words 2 0) scale s5 few same c.put_after-held-6.result.0 k6 c.put_after-held-6.ensures.bytes c.put_after-held-6.ensures.held)
    (next_bits n k6 (get_or words 1 0) scale s6 few same c.put_after-held-7.result.0 k7 c.put_after-held-7.ensures.bytes c.put_after-held-7.ensures.held)
    (next_bits n k7 (get_or words 0 0) scale s7 few same c.put_after-held-8.result.0 k8 c.put_after-held-8.ensures.bytes c.put_after-held-8.ensures.held) in
    let all : digits n held ++ words_back words ≡ bits_of (flat_map (λ x. x) rows) ++ digits n k8 = ap (λ (ws : List ℕ). digits n held ++ words_back ws) (eight words c.told-words) ∙ bits in
    rw (← c.self.view_is)
    (block_put c.self.inside.bytes.items c.extend_from_slice.new.self.items (digits n held) words (flat_map (λ x. x) rows) (digits n k8)
    (c.in_ok-extend_from_slice.ensures.items ∙ ap (λ xs. c.self.inside.bytes.items ++ xs) c.as_flattened.ensures.value) all)
