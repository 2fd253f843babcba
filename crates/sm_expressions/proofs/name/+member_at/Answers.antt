use Rattle.std.proofs.Common.{rules, refl, ℕ, ◌≡◌, ◌∙◌, sym, pos, ◌+◌, ◌*◌, ◌<◌, ◌≤◌, arith, length, drop, FitsSigned}
use Rattle.std.specs.Prelude.{slice_index_or}
use Rattle.std.specs.Int.{w64}
use Rattle.std.proofs.lemmas.Int.{to_z-of_z}
use Rattle.std.proofs.lemmas.Result.{err_from_is_err_and}
use Rattle.sm_meaning.specs.Tuples.{member_count}
use Rattle.sm_expressions.proofs.Trying.{split_at, split_or}
use Rattle.sm_expressions.proofs.Members.{first_stops, others_stop, all_go, fewer, few_numbers, count_is, members_are, lower}
use Rattle.sm_expressions.proofs.name.+member_at.Goals as goal

pub returns-in_err-expect_in : goal.returns-in_err-expect_in
returns-in_err-expect_in t c =
    let p = err_from_is_err_and c.from_residual.result c.from_residual.ensures.1 in
    let at = c.args.at in
    let r = slice_index_or c.args.sets.now at (record { least = pos 0; greatest = pos 0 }) in
    let z = slice_index_or c.args.numbers.now at (pos 0) in
    let fits : FitsSigned w64 z = search rules in
    let lt : at < length c.args.sets.now = omega (arith, c.if-at-sets.false) in
    let in_sets = split_or c.args.sets.now at (record { least = pos 0; greatest = pos 0 }) lt in
    let in_numbers = split_or c.args.numbers.now at (pos 0) (omega (arith, lt, c.requires.numbers)) in
    let in_parts = split_at c.args.parts.now at c.index-parts-at.result (omega (arith, lt, c.requires.parts)) c.index-parts-at.is in
    rw (p.1, p.2) (λ visited.
    first_stops r (drop (at + 1) c.args.sets.now) z (drop (at + 1) c.args.numbers.now) c.index-parts-at.result (drop (at + 1) c.args.parts.now)
    (drop at c.args.sets.now) (drop at c.args.numbers.now) (drop at c.args.parts.now) in_sets in_numbers in_parts c.in_err-expect_in.field-0.0 visited (rw (to_z-of_z w64 z fits) at (c.in_err-expect_in.ensures visited)))

pub member_at-requires : goal.member_at-requires
member_at-requires t c =
    let at = c.args.at in
    let r = slice_index_or c.args.sets.now at (record { least = pos 0; greatest = pos 0 }) in
    let z = slice_index_or c.args.numbers.now at (pos 0) in
    let fits : FitsSigned w64 z = search rules in
    let lt : at < length c.args.sets.now = omega (arith, c.if-at-sets.false) in
    let in_sets = split_or c.args.sets.now at (record { least = pos 0; greatest = pos 0 }) lt in
    let in_numbers = split_or c.args.numbers.now at (pos 0) (omega (arith, lt, c.requires.numbers)) in
    let in_parts = split_at c.args.parts.now at c.index-parts-at.result (omega (arith, lt, c.requires.parts)) c.index-parts-at.is in
    let within = rw (to_z-of_z w64 z fits) at (c.in_ok-expect_in.ensures 0).1 in (
      omega (arith, c.decreases, lt),
      (
        fewer r (drop (at + 1) c.args.sets.now) z (drop (at + 1) c.args.numbers.now) c.index-parts-at.result (drop (at + 1) c.args.parts.now)
            (drop at c.args.sets.now) (drop at c.args.numbers.now) (drop at c.args.parts.now) in_sets in_numbers in_parts 4096 within.0 within.1 c.requires.few,
        (c.requires.numbers, c.requires.parts),
      ),
    )

pub returns-in_err-inner : goal.returns-in_err-inner
returns-in_err-inner t c =
    let p = err_from_is_err_and c.from_residual-in_err-inner.result c.from_residual-in_err-inner.ensures.1 in
    let at = c.args.at in
    let r = slice_index_or c.args.sets.now at (record { least = pos 0; greatest = pos 0 }) in
    let z = slice_index_or c.args.numbers.now at (pos 0) in
    let fits : FitsSigned w64 z = search rules in
    let lt : at < length c.args.sets.now = omega (arith, c.if-at-sets.false) in
    let in_sets = split_or c.args.sets.now at (record { least = pos 0; greatest = pos 0 }) lt in
    let in_numbers = split_or c.args.numbers.now at (pos 0) (omega (arith, lt, c.requires.numbers)) in
    let in_parts = split_at c.args.parts.now at c.index-parts-at.result (omega (arith, lt, c.requires.parts)) c.index-parts-at.is in
    rw (p.1, p.2) (λ visited.
    others_stop r (drop (at + 1) c.args.sets.now) z (drop (at + 1) c.args.numbers.now) c.index-parts-at.result (drop (at + 1) c.args.parts.now)
    (drop at c.args.sets.now) (drop at c.args.numbers.now) (drop at c.args.parts.now) in_sets in_numbers in_parts c.in_err-inner.field-0.0 visited
    (rw (to_z-of_z w64 z fits) at (c.in_ok-expect_in.ensures visited).0) (c.in_err-inner.ensures visited))

pub place_in-outer-requires-clause-least : goal.place_in-outer-requires-clause-least
place_in-outer-requires-clause-least t c = (c.in_ok-expect_in.ensures 0).1.0

pub place_in-outer-requires-clause-greatest : goal.place_in-outer-requires-clause-greatest
place_in-outer-requires-clause-greatest t c = (c.in_ok-expect_in.ensures 0).1.1

pub place_in-outer-requires-clause-few : goal.place_in-outer-requires-clause-few
place_in-outer-requires-clause-few t c =
    let at = c.args.at in
    let r = slice_index_or c.args.sets.now at (record { least = pos 0; greatest = pos 0 }) in
    let z = slice_index_or c.args.numbers.now at (pos 0) in
    let fits : FitsSigned w64 z = search rules in
    let lt : at < length c.args.sets.now = omega (arith, c.if-at-sets.false) in
    let in_sets = split_or c.args.sets.now at (record { least = pos 0; greatest = pos 0 }) lt in
    let in_numbers = split_or c.args.numbers.now at (pos 0) (omega (arith, lt, c.requires.numbers)) in
    let in_parts = split_at c.args.parts.now at c.index-parts-at.result (omega (arith, lt, c.requires.parts)) c.index-parts-at.is in
    let within = rw (to_z-of_z w64 z fits) at (c.in_ok-expect_in.ensures 0).1 in
    few_numbers r (drop (at + 1) c.args.sets.now) z (drop (at + 1) c.args.numbers.now) c.index-parts-at.result (drop (at + 1) c.args.parts.now)
    (drop at c.args.sets.now) (drop at c.args.numbers.now) (drop at c.args.parts.now) in_sets in_numbers in_parts 4096 c.in_ok-inner.inner within.0 within.1 c.requires.few (c.in_ok-inner.ensures 0).1

-- the number of the member, and that of all from here on
numbers_fit : (ob oc ib ic m : ℕ) → ob < oc → ib < ic → m ≡ oc * ic → m ≤ 4096 → (ob * ic + ib < 4096) × (oc * ic ≤ 4096)
numbers_fit ob oc ib ic m h k e few = (omega (arith, lower ob oc ib ic (ob * ic + ib) (oc * ic) h k refl refl, e, few), omega (arith, e, few))

pub overflow_mul-result : goal.overflow_mul-result
overflow_mul-result t c =
    let at = c.args.at in
    let r = slice_index_or c.args.sets.now at (record { least = pos 0; greatest = pos 0 }) in
    let z = slice_index_or c.args.numbers.now at (pos 0) in
    let fits : FitsSigned w64 z = search rules in
    let lt : at < length c.args.sets.now = omega (arith, c.if-at-sets.false) in
    let in_sets = split_or c.args.sets.now at (record { least = pos 0; greatest = pos 0 }) lt in
    let in_numbers = split_or c.args.numbers.now at (pos 0) (omega (arith, lt, c.requires.numbers)) in
    let in_parts = split_at c.args.parts.now at c.index-parts-at.result (omega (arith, lt, c.requires.parts)) c.index-parts-at.is in
    let within = rw (to_z-of_z w64 z fits) at (c.in_ok-expect_in.ensures 0).1 in
    let inner = c.in_ok-inner.inner in
    let outer = c.place_in-outer.result in
    let is = (c.in_ok-inner.ensures 0).1 in
    let all = count_is r (drop (at + 1) c.args.sets.now) z (drop (at + 1) c.args.numbers.now) c.index-parts-at.result (drop (at + 1) c.args.parts.now)
    (drop at c.args.sets.now) (drop at c.args.numbers.now) (drop at c.args.parts.now) in_sets in_numbers in_parts within.0 within.1 in
    let fit = numbers_fit outer.before outer.count inner.before inner.count (member_count (drop at c.args.sets.now)) c.place_in-outer.ensures.below is.below
    (all ∙ sym (λ i. c.place_in-outer.ensures.count i * is.count i)) c.requires.few in
    omega (arith, fit.0, fit.1)

pub overflow_add-result : goal.overflow_add-result
overflow_add-result t c =
    let at = c.args.at in
    let r = slice_index_or c.args.sets.now at (record { least = pos 0; greatest = pos 0 }) in
    let z = slice_index_or c.args.numbers.now at (pos 0) in
    let fits : FitsSigned w64 z = search rules in
    let lt : at < length c.args.sets.now = omega (arith, c.if-at-sets.false) in
    let in_sets = split_or c.args.sets.now at (record { least = pos 0; greatest = pos 0 }) lt in
    let in_numbers = split_or c.args.numbers.now at (pos 0) (omega (arith, lt, c.requires.numbers)) in
    let in_parts = split_at c.args.parts.now at c.index-parts-at.result (omega (arith, lt, c.requires.parts)) c.index-parts-at.is in
    let within = rw (to_z-of_z w64 z fits) at (c.in_ok-expect_in.ensures 0).1 in
    let inner = c.in_ok-inner.inner in
    let outer = c.place_in-outer.result in
    let is = (c.in_ok-inner.ensures 0).1 in
    let all = count_is r (drop (at + 1) c.args.sets.now) z (drop (at + 1) c.args.numbers.now) c.index-parts-at.result (drop (at + 1) c.args.parts.now)
    (drop at c.args.sets.now) (drop at c.args.numbers.now) (drop at c.args.parts.now) in_sets in_numbers in_parts within.0 within.1 in
    let fit = numbers_fit outer.before outer.count inner.before inner.count (member_count (drop at c.args.sets.now)) c.place_in-outer.ensures.below is.below
    (all ∙ sym (λ i. c.place_in-outer.ensures.count i * is.count i)) c.requires.few in
    omega (arith, fit.0, fit.1)

pub overflow_mul-result-2 : goal.overflow_mul-result-2
overflow_mul-result-2 t c =
    let at = c.args.at in
    let r = slice_index_or c.args.sets.now at (record { least = pos 0; greatest = pos 0 }) in
    let z = slice_index_or c.args.numbers.now at (pos 0) in
    let fits : FitsSigned w64 z = search rules in
    let lt : at < length c.args.sets.now = omega (arith, c.if-at-sets.false) in
    let in_sets = split_or c.args.sets.now at (record { least = pos 0; greatest = pos 0 }) lt in
    let in_numbers = split_or c.args.numbers.now at (pos 0) (omega (arith, lt, c.requires.numbers)) in
    let in_parts = split_at c.args.parts.now at c.index-parts-at.result (omega (arith, lt, c.requires.parts)) c.index-parts-at.is in
    let within = rw (to_z-of_z w64 z fits) at (c.in_ok-expect_in.ensures 0).1 in
    let inner = c.in_ok-inner.inner in
    let outer = c.place_in-outer.result in
    let is = (c.in_ok-inner.ensures 0).1 in
    let all = count_is r (drop (at + 1) c.args.sets.now) z (drop (at + 1) c.args.numbers.now) c.index-parts-at.result (drop (at + 1) c.args.parts.now)
    (drop at c.args.sets.now) (drop at c.args.numbers.now) (drop at c.args.parts.now) in_sets in_numbers in_parts within.0 within.1 in
    let fit = numbers_fit outer.before outer.count inner.before inner.count (member_count (drop at c.args.sets.now)) c.place_in-outer.ensures.below is.below
    (all ∙ sym (λ i. c.place_in-outer.ensures.count i * is.count i)) c.requires.few in
    omega (arith, fit.0, fit.1)

pub returns : goal.returns
returns t c =
    let at = c.args.at in
    let r = slice_index_or c.args.sets.now at (record { least = pos 0; greatest = pos 0 }) in
    let z = slice_index_or c.args.numbers.now at (pos 0) in
    let fits : FitsSigned w64 z = search rules in
    let lt : at < length c.args.sets.now = omega (arith, c.if-at-sets.false) in
    let in_sets = split_or c.args.sets.now at (record { least = pos 0; greatest = pos 0 }) lt in
    let in_numbers = split_or c.args.numbers.now at (pos 0) (omega (arith, lt, c.requires.numbers)) in
    let in_parts = split_at c.args.parts.now at c.index-parts-at.result (omega (arith, lt, c.requires.parts)) c.index-parts-at.is in
    let within = rw (to_z-of_z w64 z fits) at (c.in_ok-expect_in.ensures 0).1 in
    let outer = rw (to_z-of_z w64 z fits) at c.place_in-outer.ensures.before in
    λ visited. (
      all_go r (drop (at + 1) c.args.sets.now) z (drop (at + 1) c.args.numbers.now) c.index-parts-at.result (drop (at + 1) c.args.parts.now)
          (drop at c.args.sets.now) (drop at c.args.numbers.now) (drop at c.args.parts.now) in_sets in_numbers in_parts visited (rw (to_z-of_z w64 z fits) at (c.in_ok-expect_in.ensures visited).0) (c.in_ok-inner.ensures visited).0,
      members_are r (drop (at + 1) c.args.sets.now) z (drop (at + 1) c.args.numbers.now) c.index-parts-at.result (drop (at + 1) c.args.parts.now)
          (drop at c.args.sets.now) (drop at c.args.numbers.now) (drop at c.args.parts.now) in_sets in_numbers in_parts c.place_in-outer.result c.in_ok-inner.inner _ within.0 within.1 (c.in_ok-inner.ensures visited).1
          outer c.place_in-outer.ensures.count c.place_in-outer.ensures.below refl refl,
    )
