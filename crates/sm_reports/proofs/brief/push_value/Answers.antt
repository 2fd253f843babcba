use Rattle.std.proofs.Common.{◌++◌, codes}
use Rattle.std.proofs.lemmas.Int.{to_z-of_z}
use Rattle.sm_reports.specs.Briefs.{ratio_text}
use Rattle.sm_reports.proofs.Pieces.{and_then}
use Rattle.sm_reports.proofs.brief.push_value.Goals as goal

pub returns : goal.returns
returns c =
    let f = c.ranges.n in let g = c.ranges.d in
    let old = c.args.into.now.items in
    let name = c.args.name.now in
    let ratio = ratio_text c.args.n c.args.d in
    let second = and_then old c.extend_from_slice.new.self.items c.extend_from_slice-2.new.self.items name (codes " = ") c.in_ok-extend_from_slice.ensures.items c.in_ok-extend_from_slice-2.ensures.items in
    let third = and_then old c.extend_from_slice-2.new.self.items c.push_ratio.new.into.items (name ++ codes " = ") ratio second (simp to_z-of_z at c.in_ok-push_ratio.ensures) in
    and_then old c.push_ratio.new.into.items c.extend_from_slice-3.new.self.items (name ++ codes " = " ++ ratio) (codes "\n") third c.in_ok-extend_from_slice-3.ensures.items
