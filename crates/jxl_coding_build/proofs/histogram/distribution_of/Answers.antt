use Rattle.std.proofs.Common.{◌≡◌, ◌∙◌, ◌<◌, ap, sym, subst, ℕ, List, slice_index, arith}
use Rattle.jxl_coding_codes.specs.Alias.{only_from}
use Rattle.jxl_coding_stream_write.proofs.OnlySymbols.{only_occurs}
use Rattle.jxl_coding_build.proofs.Distributions.{only_small, one_fits, many_fit}
use Rattle.jxl_coding_build.proofs.histogram.distribution_of.Goals as goal

pub one_symbol-requires : goal.one_symbol-requires
one_symbol-requires c =
    let n = c.in_ok-shares.ensures.many in
    let f = c.requires.few in
    only_small c.only.result c.in_ok-shares.shares.items c.in-Some.symbol (c.only.ensures ∙ ap (λ (xs : List ℕ). only_from 0 xs) c.deref.ensures.value) c.in-Some.is (omega (arith, n, f))

pub returns-in_ok-one-in-Some-clause-occur : goal.returns-in_ok-one-in-Some-clause-occur
returns-in_ok-one-in-Some-clause-occur c = λ s h.
    let e : s ≡ c.in-Some.symbol =
    only_occurs c.only.result c.in_ok-shares.shares.items c.in-Some.symbol s (c.only.ensures ∙ ap (λ (xs : List ℕ). only_from 0 xs) c.deref.ensures.value) c.in-Some.is c.in_ok-shares.ensures.whole (c.in_ok-shares.ensures.occurs s h) in
    subst (λ (x : ℕ). 0 < slice_index c.in_ok-one-in-Some.one.items x) (sym e) c.in_ok-one-in-Some.ensures.occurs

pub returns-in_ok-one-in-Some-clause-head : goal.returns-in_ok-one-in-Some-clause-head
returns-in_ok-one-in-Some-clause-head c =
    let n = c.in_ok-shares.ensures.many in
    let f = c.requires.few in
    one_fits c.in_ok-one-in-Some.one.items c.in-Some.symbol c.in_ok-one-in-Some.ensures.items
    (only_small c.only.result c.in_ok-shares.shares.items c.in-Some.symbol (c.only.ensures ∙ ap (λ (xs : List ℕ). only_from 0 xs) c.deref.ensures.value) c.in-Some.is (omega (arith, n, f)))

pub returns-in-None-clause-head : goal.returns-in-None-clause-head
returns-in-None-clause-head c =
    let n = c.in_ok-shares.ensures.many in
    let m = c.requires.many in
    many_fit c.only.result c.in_ok-shares.shares.items (c.only.ensures ∙ ap (λ (xs : List ℕ). only_from 0 xs) c.deref.ensures.value) c.in-None.is (omega (arith, n, m)) c.in_ok-shares.ensures.whole
