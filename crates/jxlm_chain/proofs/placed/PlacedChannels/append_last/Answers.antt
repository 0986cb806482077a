use Rattle.std.proofs.Common.{◌≡◌, refl, ap, ◌∙◌, ◌++◌, ◌-◌, length, drop}
use Rattle.std.specs.Prelude.{if◌then◌else◌}
use Rattle.std.specs.Result.{is_ok}
use Rattle.jxlm_chain.proofs.ListsOfPlaced.{added_end, err_then, kept_end, with_last, without_last}
use Rattle.jxlm_chain.proofs.placed.PlacedChannels.append_last.Goals as goal

pub invariant_of-front : goal.invariant_of-front
invariant_of-front c =
    let old = c.args.front.now.placed.channels in
    record { ends = kept_end _ old.placed.items c.split_off.new.self.items c.split_off.result c.split_off.ensures.items (err_then c.split_off.result (ap (λ v. v.items)) c.split_off.ensures.err) old.ends }

pub invariant_of-self : goal.invariant_of-self
invariant_of-self c =
    let xs = c.args.self.now.channels.placed.items in
    let old = c.args.front.now.placed.channels in
    record { ends = added_end _ xs old.placed.items c.append.new.self.items c.append.result (c.append.ensures.items ∙ ap (λ us. if is_ok c.append.result then xs ++ us else xs) c.in_ok-last.ensures.tail) c.args.self.now.channels.ends old.ends }

pub returns-clause-list : goal.returns-clause-list
returns-clause-list c =
    let n = c.args.count in
    let xs = c.args.front.now.placed.channels.placed in
    let us = c.args.self.now.channels.placed.items in
    let fs = c.split_off.new.self.items in
    let vs = c.append.new.self.items in
    let k = c.len.result - n in
    let cut : k ≡ length xs.items - n = ap (λ m. m - n) (c.len.ensures ∙ xs.ok.0) in
    let added : vs ≡ us ++ drop k xs.items = c.in_ok-append.ensures.items ∙ ap (λ ys. us ++ ys) c.in_ok-last.ensures.tail in
    record {
      kept = rw (without_last (λ p. p.info) n k xs.items cut fs c.in_ok-last.ensures.items) refl;
      kept_regions = rw (without_last (λ p. p.region) n k xs.items cut fs c.in_ok-last.ensures.items) refl;
      list = rw (with_last (λ p. p.info) n k xs.items cut us vs added) refl;
      layout = rw (with_last (λ p. p.region) n k xs.items cut us vs added) refl;
      rest = record { undoings = refl; tables = refl };
      front_rest = record { undoings = refl; tables = refl };
      count = refl;
    }
