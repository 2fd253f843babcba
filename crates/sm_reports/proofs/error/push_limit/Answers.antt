use Rattle.std.proofs.Common.{◌++◌, codes, ◌∙◌, ap}
use Rattle.std.proofs.lemmas.Result.{on_ok_weaker}
use Rattle.std.proofs.lemmas.Int.{to_z-of_z}
use Rattle.sm_base.specs.Whole.{whole_text}
use Rattle.sm_reports.specs.Words.{counted_word}
use Rattle.sm_reports.proofs.Pieces.{and_then}
use Rattle.sm_reports.proofs.error.push_limit.Goals as goal

pub returns : goal.returns
returns c =
    let f = c.ranges.found in let g = c.ranges.bound in
    let old = c.args.into.now.items in
    let word = counted_word c.args.what in
    let one = codes "error limit " in
    let second = and_then old c.extend_from_slice.new.self.items c.extend_from_slice-2.new.self.items one word c.in_ok-extend_from_slice.ensures.items
    (c.in_ok-extend_from_slice-2.ensures.items ∙ ap (λ w. c.extend_from_slice.new.self.items ++ w) c.counted_word.ensures) in
    let third = and_then old c.extend_from_slice-2.new.self.items c.extend_from_slice-3.new.self.items (one ++ word) (codes " ") second c.in_ok-extend_from_slice-3.ensures.items in
    let found = whole_text c.args.found in
    let fourth = and_then old c.extend_from_slice-3.new.self.items c.push_whole.new.into.items (one ++ word ++ codes " ") found third (simp to_z-of_z at c.in_ok-push_whole.ensures.ok) in
    let fifth = and_then old c.push_whole.new.into.items c.extend_from_slice-4.new.self.items (one ++ word ++ codes " " ++ found) (codes " ") fourth c.in_ok-extend_from_slice-4.ensures.items in
    on_ok_weaker c.push_whole-2.result (λ is. and_then old c.extend_from_slice-4.new.self.items c.push_whole-2.new.into.items (one ++ word ++ codes " " ++ found ++ codes " ") (whole_text c.args.bound) fifth is) (simp to_z-of_z at c.push_whole-2.ensures.ok)
