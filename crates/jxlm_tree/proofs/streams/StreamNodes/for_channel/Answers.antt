use Rattle.std.proofs.Common.{◌≡◌, ◌≤◌, rules, subst, arith}
use Rattle.jxlm_tree.specs.Inner.Compiled.{IsCompiledFor}
use Rattle.jxlm_tree.specs.declared.flat.CompiledTree.{CompiledTree}
use Rattle.jxlm_tree.proofs.ChannelRuns.{serves-run}
use Rattle.jxlm_tree.proofs.streams.StreamNodes.for_channel.Goals as goal

pub returns-then-channel-deref-clause-serves : goal.returns-then-channel-deref-clause-serves
returns-then-channel-deref-clause-serves c = λ t stream s.
    let nodes = c.args.self.now.first.value in
    let same : nodes ≡ c.in_ok-first.first.value = search rules in
    let upto : c.args.channel ≤ nodes.last_alike = subst (λ (x : CompiledTree). c.args.channel ≤ x.last_alike) c.deref.ensures (omega (arith, c.if-channel-deref.true)) in
    subst (IsCompiledFor t c.args.channel stream c.args.channel) same (serves-run t nodes 0 c.args.channel stream s.no_stream s.first (omega arith) upto)

pub returns-then-channel-deref-2-clause-serves : goal.returns-then-channel-deref-2-clause-serves
returns-then-channel-deref-2-clause-serves c = λ t stream s.
    let nodes = c.args.self.now.second.value in
    let same : nodes ≡ c.in_ok-second.second.value = search rules in
    let from : c.args.self.now.start ≤ c.args.channel = omega (arith, c.if-self-channel.true) in
    let upto : c.args.channel ≤ nodes.last_alike = subst (λ (x : CompiledTree). c.args.channel ≤ x.last_alike) c.deref-then-self-channel.ensures (omega (arith, c.if-channel-deref-2.true)) in
    subst (IsCompiledFor t c.args.channel stream c.args.channel) same (serves-run t nodes c.args.self.now.start c.args.channel stream s.no_stream s.second from upto)
