use denote.Param.Weighed.{at_most, most}
use Rattle.std.proofs.Common.{rules, ◌≡◌, ◌∙◌, ap, ap₂, sym, refl, subst, arith, nat_lt, Vec, Global, Result, IfOk, if◌then◌else◌, ◌≤◌, ◌<◌, ◌++◌, ◌∷◌, [], ℕ, List, length, get_or}
use Rattle.sm_kinds.specs.declared.logic.Clause.{Clause}
use Rattle.sm_clausify.specs.declared.formula.Formula.{Formula}
use Rattle.sm_clausify.specs.Propositions.{Proposition, meaning, meanings, implication, equivalence, HasSmallBound}
use Rattle.sm_clausify.specs.Clauses.{clauses_of, joined, join, empty_clause}
use Rattle.sm_clausify.specs.Counting.{implied_counts}
use Rattle.sm_clausify.specs.Tallies.{counts_in, parts_in, tally_of}
use Rattle.sm_clausify.proofs.formula.Formula.TheLaws.{the_size}
use Rattle.sm_clausify.proofs.Joins.{join-unit, implication_is}
use Rattle.sm_clausify.proofs.Views.{implies_means, iff_means}
use Rattle.sm_clausify.proofs.Counted.{count_at, none_tallied, tally_counts}
use Rattle.sm_clausify.proofs.Chains.{iff_parts}
use Rattle.sm_clausify.proofs.Parts.{each_at, tally_at, join_goes, join_ends, half_is, halves_are}
use Rattle.sm_clausify.proofs.build.+building.Goals as goal

pub clauses_at-returns-then-get-eq0 : goal.clauses_at-returns-then-get-eq0
clauses_at-returns-then-get-eq0 t c =
    c.new.ensures.items ∙ sym (none_tallied c.args.formula.now c.args.tally.now c.args.negated c.requires.tally (sym c.get.ensures ∙ c.if-get-eq0.true))

pub clauses_at-clauses_behind-requires : goal.clauses_at-clauses_behind-requires
clauses_at-clauses_behind-requires t c =
    let behind = c.behind_nots-is_odd.ensures in
    (omega (arith, behind.under, c.decreases), (behind.small.0 c.requires.small, (c.as_slice.ensures ∙ ap (λ u. parts_in u) c.requires.tally ∙ behind.parts, behind.other)))

-- a part is no deeper than the deepest
no_deeper : (fs : List Formula) (i : ℕ) (f : Formula) → i < length fs → f ≡ get_or fs i f → the_size f ≤ most the_size fs
no_deeper fs i f lt is = subst (λ (g : Formula). the_size g ≤ most the_size fs) (sym is) (at_most the_size fs i f lt)

pub in_turn-clauses_at-requires : goal.in_turn-clauses_at-requires
in_turn-clauses_at-requires t c =
    let at = c.loop-i.i in
    let part = c.index-parts-i.result in
    let deep = no_deeper c.args.parts.now at part c.loop-i-test.true c.index-parts-i.is in
    let small = each_at HasSmallBound c.args.parts.now at part c.loop-i-test.true c.index-parts-i.is c.requires.small in
    let tally = tally_at c.args.parts.now c.args.tallies.now at part c.index-tallies-i.result c.loop-i-test.true c.index-parts-i.is c.index-tallies-i.is c.requires.tallies in
    (omega (arith, deep, c.decreases), (small, tally))

pub joined-clauses_at-requires : goal.joined-clauses_at-requires
joined-clauses_at-requires t c =
    let at = c.loop-i.i in
    let part = c.index-parts-i.result in
    let deep = no_deeper c.args.parts.now at part c.loop-i-test.true c.index-parts-i.is in
    let small = each_at HasSmallBound c.args.parts.now at part c.loop-i-test.true c.index-parts-i.is c.requires.small in
    let tally = tally_at c.args.parts.now c.args.tallies.now at part c.index-tallies-i.result c.loop-i-test.true c.index-parts-i.is c.index-tallies-i.is c.requires.tallies in
    (omega (arith, deep, c.decreases), (small, tally))

pub joined-loop-i-init : goal.joined-loop-i-init
joined-loop-i-init t c =
    let new_is : c.push.new.self.items ≡ empty_clause ∷ [] = search rules in
    ap (λ (cs : List Clause). join cs (joined (meanings c.args.parts.now) c.args.negated)) new_is ∙ join-unit (joined (meanings c.args.parts.now) c.args.negated)

pub joined-loop-i-preserved : goal.joined-loop-i-preserved
joined-loop-i-preserved t c =
    join_goes c.args.parts.now c.loop-i.i c.index-parts-i.result c.args.negated c.loop-i.clauses.items c.in_ok-clauses.clauses.items _
    c.loop-i-test.true c.index-parts-i.is (c.in_ok-clauses.ensures ∙ ap (join c.loop-i.clauses.items) (c.as_slice.ensures.value ∙ c.in_ok-others.ensures)) c.loop-i.invariant

pub joined-returns : goal.joined-returns
joined-returns t c = join_ends c.args.parts.now c.loop-i.i c.args.negated c.loop-i.clauses.items _ c.loop-i-test.false c.loop-i.invariant

of_equal : {E : Type 0} (r : Result (Vec Clause Global) E) (xs ys : List Clause) → xs ≡ ys → IfOk r (λ v. v.items ≡ xs) → IfOk r (λ v. v.items ≡ ys)
of_equal r xs ys e h = subst (λ (zs : List Clause). IfOk r (λ v. v.items ≡ zs)) e h

pub clauses_behind-returns-in_ok-second-in-Implies : goal.clauses_behind-returns-in_ok-second-in-Implies
clauses_behind-returns-in_ok-second-in-Implies t c =
    let p = meaning c.get.result.now in
    let q = meaning c.get-in-Implies.result.now in
    let m : meaning c.args.formula.now ≡ implication p q =
    ap meaning c.in-Implies.is ∙ implies_means c.in-Implies.first c.in-Implies.second ∙ sym (ap₂ (λ f g. implication (meaning f) (meaning g)) c.get.ensures c.get-in-Implies.ensures) in
    of_equal c.together.result _ _
    (ap₂ (λ (xs ys : List Clause). if c.args.negated then xs ++ ys else join xs ys) c.in_ok-first-in-Implies.ensures c.in_ok-second-in-Implies.ensures
    ∙ sym (implication_is p q c.args.negated) ∙ ap (λ (x : Proposition). clauses_of x c.args.negated) (sym m))
    c.together.ensures

pub clauses_behind-returns-in_ok-back-in-Iff : goal.clauses_behind-returns-in_ok-back-in-Iff
clauses_behind-returns-in_ok-back-in-Iff t c =
    let n = c.args.negated in
    let f = c.get-first.result.now in
    let g = c.get-second.result.now in
    let p = meaning f in
    let q = meaning g in
    let m : meaning c.args.formula.now ≡ equivalence p q =
    ap meaning c.in-Iff.is ∙ iff_means c.in-Iff.first c.in-Iff.second ∙ sym (ap₂ (λ f g. equivalence (meaning f) (meaning g)) c.get-first.ensures c.get-second.ensures) in
    let both = c.requires.tallies ∙ ap (λ h. parts_in (tally_of h)) c.in-Iff.is ∙ iff_parts c.in-Iff.first c.in-Iff.second in
    let first = c.index-tallies-0-in-Iff.is ∙ ap (λ ts. get_or ts 0 c.index-tallies-0-in-Iff.result) both ∙ ap tally_of (sym c.get-first.ensures) in
    let second = c.index-tallies-1-in-Iff.is ∙ ap (λ ts. get_or ts 1 c.index-tallies-1-in-Iff.result) both ∙ ap tally_of (sym c.get-second.ensures) in
    let s = ap counts_in first ∙ tally_counts f in
    let u = ap counts_in second ∙ tally_counts g in
    let forth_needed = ap (nat_lt 0) (c.get-forth.ensures ∙ ap (λ k. count_at k n) (c.implies.ensures ∙ ap₂ implied_counts s u)) in
    let back_needed = ap (nat_lt 0) (c.get-back.ensures ∙ ap (λ k. count_at k n) (c.implies-in-Iff.ensures ∙ ap₂ implied_counts u s)) in
    let forth = half_is p q n (nat_lt 0 c.get-forth.result) c.in_ok-a-in-Iff.a.items c.in_ok-b-in-Iff.b.items c.in_ok-forth-in-Iff.forth.items
    forth_needed c.in_ok-a-in-Iff.ensures c.in_ok-b-in-Iff.ensures c.in_ok-forth-in-Iff.ensures in
    let back = half_is q p n (nat_lt 0 c.get-back.result) c.in_ok-c-in-Iff.c.items c.in_ok-d-in-Iff.d.items c.in_ok-back-in-Iff.back.items
    back_needed c.in_ok-c-in-Iff.ensures c.in_ok-d-in-Iff.ensures c.in_ok-back-in-Iff.ensures in
    of_equal c.together-in-Iff-3.result _ _
    (halves_are p q n c.in_ok-forth-in-Iff.forth.items c.in_ok-back-in-Iff.back.items _ forth back refl ∙ ap (λ (x : Proposition). clauses_of x n) (sym m))
    c.together-in-Iff-3.ensures
