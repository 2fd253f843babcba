use Rattle.std.proofs.Common.{rules, tests, arith, subst, ◌≡◌, length, eqb-true, eq-eqb}
use Rattle.sm_kinds.proofs.Circuits.{IsWalking, IsWalking-more, circuit_from_walk, circuit_not_early, circuit_goes_on, circuit_returns}
use Rattle.sm_kinds.specs.Circuit.{SatCircuit}
use Rattle.sm_kinds.proofs.circuit.holds.Goals as goal

pub returns-then-node-eq0 : goal.returns-then-node-eq0
returns-then-node-eq0 g c =
    let a = g.V.Values.point c.args.a.now in
    let w : IsWalking a c.args.successors.now c.loop-step.step 0 = subst (IsWalking a c.args.successors.now c.loop-step.step) (search (rules, tests)) c.loop-step.invariant in
    ((λ e. search rules), (λ s. absurd (circuit_not_early a c.args.successors.now s c.loop-step.step w (search (rules, tests)) c.loop-step-test.true)))

pub returns-in-None : goal.returns-in-None
returns-in-None g c =
    let a = g.V.Values.point c.args.a.now in
    let on = λ (s : SatCircuit c.args.successors.now (g.V.Values.point c.args.a.now)). circuit_goes_on a c.args.successors.now s c.loop-step.step c.loop-step.node c.in-None.ensures.unit c.loop-step.invariant c.loop-step-test.true in
    search (rules, on)

pub loop-step-preserved : goal.loop-step-preserved
loop-step-preserved g c =
    IsWalking-more (g.V.Values.point c.args.a.now) c.args.successors.now c.loop-step.step c.loop-step.node c.in-Some.next c.loop-step-test.true c.loop-step.invariant (search (rules, tests)) c.in-Some.ensures.unit c.in-Some.ensures.value.0 c.in-Some.ensures.value.1

pub returns : goal.returns
returns g c =
    let a = g.V.Values.point c.args.a.now in
    let end : c.loop-step.step ≡ length c.args.successors.now = omega (arith, c.loop-step-test.false, c.loop-step.auto.step-end) in
    let w : IsWalking a c.args.successors.now (length c.args.successors.now) c.loop-step.node = subst (λ n. IsWalking a c.args.successors.now n c.loop-step.node) end c.loop-step.invariant in (
      (λ e. circuit_from_walk a c.args.successors.now (subst (IsWalking a c.args.successors.now (length c.args.successors.now)) (eqb-true c.loop-step.node 0 e) w)),
      (λ s. eq-eqb c.loop-step.node 0 (circuit_returns a c.args.successors.now s c.loop-step.node w)),
    )
