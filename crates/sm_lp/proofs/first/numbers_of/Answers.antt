use Rattle.std.proofs.Common.{arith, pos, get_or, ◌≤◌, ◌^◌, unsigned_abs, ◌≡◌, replicate, rules}
use Rattle.std.proofs.lemmas.Int.{ints, to_z-of_z}
use Rattle.std.proofs.lemmas.List.{get_or_default}
use mir.Val.{SFits}
use mir.Syntax.{w64}
use Rattle.sm_lp.proofs.WritingLemmas.{numbers_start, numbers_more, numbers_end}
use Rattle.sm_lp.proofs.first.numbers_of.Goals as goal

pub loop-term-init : goal.loop-term-init
loop-term-init c =
    let blank : c.in_ok-numbers.numbers.items ≡ replicate c.args.columns (pos 0) = search rules in
    numbers_start c.args.columns c.args.terms.now c.in_ok-numbers.numbers.items blank

pub loop-term-preserved : goal.loop-term-preserved
loop-term-preserved c =
    let i = c.loop-term.term-index in
    let t = get_or c.args.terms.now i (0, pos 0) in
    let small : unsigned_abs t.1 ≤ 2 ^ 42 = (c.requires.terms i (0, pos 0) c.loop-term-test.true).small in
    let fits : SFits w64 t.1 = omega (arith, ints) in
    simp to_z-of_z (numbers_more c.args.columns c.args.terms.now i c.loop-term.numbers.items t c.loop-term-test.true (get_or_default c.args.terms.now i (0, pos 0) t c.loop-term-test.true) c.requires.terms c.requires.different c.loop-term.invariant)

pub returns : goal.returns
returns c = numbers_end c.args.columns c.args.terms.now c.loop-term.term-index c.loop-term.numbers.items (omega arith) c.loop-term.invariant
