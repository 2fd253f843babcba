use Rattle.std.proofs.Common.{rules, w64}
use Rattle.std.proofs.lemmas.Int.{to_z-of_z}
use Rattle.sm_store.proofs.domain.Domain.has.Goals as goal
use mir.Val.{SFits}

pub returns-in-Int : goal.returns-in-Int
returns-in-Int c =
    let value = c.ranges.value in
    let least : SFits w64 c.summary_in-summary.result.least = search rules in
    let greatest : SFits w64 c.summary_in-summary.result.greatest = search rules in
    let inside = simp to_z-of_z at c.is_inside.ensures in
    rw (← c.self.view_is, c.in-Int.is) (rw c.summary_in-summary.ensures at inside)

pub returns-in-Real : goal.returns-in-Real
returns-in-Real c =
    let value = c.ranges.value in
    let least : SFits w64 c.summary_in-summary.result.least = search rules in
    let greatest : SFits w64 c.summary_in-summary.result.greatest = search rules in
    let between = simp to_z-of_z at c.is_between.ensures in
    rw (← c.self.view_is, c.in-Real.is) (rw c.summary_in-summary.ensures at between)
